use Rattle.std.proofs.Common.{◌≡◌, ◌∙◌, ℕ, List, ◌++◌, ap, append_assoc}

-- one more piece at the end of a line
pub add_on : (o t l piece m : List ℕ) → l ≡ o ++ t → m ≡ l ++ piece → m ≡ o ++ (t ++ piece)
add_on o t l piece m e f = f ∙ ap (λ x. x ++ piece) e ∙ append_assoc o t piece
