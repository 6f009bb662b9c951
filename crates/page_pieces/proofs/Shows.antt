-- What a piece shows before and after its first write.
use Rattle.std.proofs.Common.{◌≡◌, ℕ, ◌-◌, ◌≤◌, List, [], ◌∷◌, ◌++◌, length, take, replicate, refl, ap, ◌∙◌, arith, take_all, append-nil}
use Rattle.cmm_types.specs.declared.page.TheConstants.{PAGE}
use Rattle.page_pieces.specs.Shown.{shown}

pub nothing_shown : (written : List ℕ) → length written ≡ 0 → shown written ≡ replicate PAGE 0
nothing_shown [] none = refl
nothing_shown (x ∷ xs) none = absurd (omega arith)

pub zeros_written : (written : List ℕ) (len : ℕ) → len ≡ length written → length written ≤ PAGE → take PAGE written ++ replicate (PAGE - len) 0 ≡ shown written
zeros_written written len same short = ap (λ xs. xs ++ replicate (PAGE - len) 0) (take_all PAGE written short) ∙ ap (λ k. written ++ replicate (PAGE - k) 0) same

pub all_shown : (written : List ℕ) → length written ≡ PAGE → shown written ≡ written
all_shown written whole = let none : PAGE - length written ≡ 0 = omega arith in ap (λ k. written ++ replicate k 0) none ∙ append-nil written
