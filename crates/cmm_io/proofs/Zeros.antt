-- Blocks of zeros, and what is taken of them.
use Rattle.std.proofs.Common.{◌≡◌, ◌∙◌, ℕ, ◌<◌, List, [], ◌∷◌, ◌++◌, length, replicate, get_or, refl, sym, ap, arith}
use Rattle.std.proofs.lemmas.List.{get_or_push, get_or-replicate, length-replicate, nil_from_length, length_push}
use Rattle.cmm_types.specs.declared.page.TheConstants.{PAGE}
use Rattle.cmm_types.specs.Bytes.{zero_page}
use Rattle.cmm_io.specs.DiskOf.{AreZeros}
use Rattle.cmm_io.specs.Padded.{padded}

pub padded_nothing : (head : List ℕ) → length head ≡ 0 → padded head ≡ zero_page
unfolding zero_page
padded_nothing head none = ap padded (nil_from_length head none)

-- the last of blocks of zeros
pub zeros_last : (blocks left : List (List ℕ)) (block : List ℕ) → blocks ≡ left ++ block ∷ [] → AreZeros blocks → block ≡ zero_page
zeros_last blocks left block are zeros =
    let within : length left < length blocks = omega (arith, ap length are, length_push left block) in
    sym (get_or_push left block [] (length left) refl)
    ∙ ap (λ bs. get_or bs (length left) []) (sym are ∙ zeros)
    ∙ get_or-replicate (length blocks) (length left) zero_page [] within

-- as many pieces as are wanted, each of zeros
pub zeros_made : (blocks : List (List ℕ)) (n : ℕ) → blocks ≡ replicate n (replicate PAGE 0) → AreZeros blocks × (length blocks ≡ n)
unfolding zero_page
zeros_made blocks n made =
    let size : length blocks ≡ n = ap length made ∙ length-replicate n (replicate PAGE 0) in
    (made ∙ ap (λ k. replicate k (replicate PAGE 0)) (sym size), size)
