-- A list whose last places hold one value, with another value set at a place.
use Rattle.std.proofs.Common.{◌≡◌, ℕ, zero, suc, ◌+◌, ◌-◌, ◌<◌, ◌≤◌, List, [], ◌∷◌, ◌++◌, length, replicate, set, refl, sym, ap, ◌∙◌, arith, append_assoc}
use Rattle.std.proofs.lemmas.List.{set-append_left, set-append_right, length-set, length-append, length-replicate, length_push}

-- the place lies before them
pub set-before : {X : Type 0} (ws : List X) (len place : ℕ) (b v : X) → place < length ws
    → set ws place v ++ replicate (len - length (set ws place v)) b ≡ set (ws ++ replicate (len - length ws) b) place v
set-before ws len place b v within =
    ap (λ n. set ws place v ++ replicate (len - n) b) (length-set ws place v) ∙ sym (set-append_left ws (replicate (len - length ws) b) place v within)

set-among : {X : Type 0} (m k j : ℕ) (b v : X) → m ≡ k + (j + 1) → set (replicate m b) k v ≡ replicate k b ++ v ∷ replicate j b
set-among zero k j b v e = absurd (omega arith)
set-among (suc m) zero j b v e = ap (λ n. v ∷ replicate n b) (omega arith)
set-among (suc m) (suc k) j b v e = ap (λ xs. b ∷ xs) (set-among m k j b v (omega arith))

pub whole_length : {X : Type 0} (ws : List X) (len : ℕ) (b : X) → length ws ≤ len → length (ws ++ replicate (len - length ws) b) ≡ len
whole_length ws len b within = omega (arith, length-append ws (replicate (len - length ws) b), length-replicate (len - length ws) b, within)

put_length : {X : Type 0} (ws : List X) (place : ℕ) (b v : X) → length ws ≤ place → length ((ws ++ replicate (place - length ws) b) ++ v ∷ []) ≡ place + 1
put_length ws place b v above =
    omega (arith, length_push (ws ++ replicate (place - length ws) b) v, length-append ws (replicate (place - length ws) b), length-replicate (place - length ws) b, above)

put_among : {X : Type 0} (ws : List X) (len place : ℕ) (b v : X) → length ws ≤ place → place < len
    → ((ws ++ replicate (place - length ws) b) ++ v ∷ []) ++ replicate (len - (place + 1)) b ≡ set (ws ++ replicate (len - length ws) b) place v
put_among ws len place b v above below =
    append_assoc (ws ++ replicate (place - length ws) b) (v ∷ []) (replicate (len - (place + 1)) b)
    ∙ append_assoc ws (replicate (place - length ws) b) (v ∷ replicate (len - (place + 1)) b)
    ∙ sym (set-append_right ws (replicate (len - length ws) b) (length ws) place v refl above
    ∙ ap (λ xs. ws ++ xs) (set-among (len - length ws) (place - length ws) (len - (place + 1)) b v (omega arith)))

-- it lies among them
pub set-behind : {X : Type 0} (ws xs : List X) (len place : ℕ) (b v : X) → length ws ≤ place → place < len → xs ≡ (ws ++ replicate (place - length ws) b) ++ v ∷ []
    → xs ++ replicate (len - length xs) b ≡ set (ws ++ replicate (len - length ws) b) place v
set-behind ws xs len place b v above below is =
    ap (λ zs. zs ++ replicate (len - length zs) b) is
    ∙ ap (λ n. ((ws ++ replicate (place - length ws) b) ++ v ∷ []) ++ replicate (len - n) b) (put_length ws place b v above)
    ∙ put_among ws len place b v above below
