-- What a store leaves of the pages of the flat machine's files.
use Rattle.std.proofs.Common.{◌≡◌, ◌≢◌, ◌⊎◌, ◌<◌, ◌≤◌, ◌+◌, ◌-◌, ◌*◌, ◌/◌, ◌%◌, ℕ, List, [], length, set, ap, ◌∙◌, inl, inr, arith, get_or-set_same, get_or-set_other}
use Rattle.std.proofs.lemmas.Bool.{cases_eq, cases_lt}
use Rattle.cmm_types.specs.declared.page.TheConstants.{PAGE}
use Rattle.cmm_types.specs.declared.page.Tag.TheVariants.{File}
use Rattle.cmm_types.specs.Bytes.{bytes_at, with_bytes}
use Rattle.cmm_flat.specs.Laws.RangeLaws.{bytes_at-with_bytes_below, bytes_at-with_bytes_above, bytes_at-with_bytes_round}
use Rattle.cmm_flat.specs.State.{file_at}

-- bytes in one page of a file, the page counted from `first` on
pub record IsWrite (files : List (List ℕ)) (file first off len : ℕ) : Type 0 where
  pub file_below : file < length files
  pub within : PAGE * first + off + len ≤ length (file_at files file)
  pub within_page : off % PAGE + len ≤ PAGE

-- the files after the bytes were stored
abbrev pub stored_files : List (List ℕ) → ℕ → ℕ → List ℕ → List (List ℕ)
stored_files files file at bytes = set files file (with_bytes (file_at files file) at bytes)

-- the page has the bytes at their place in it
pub stored-here : (files : List (List ℕ)) (file first off : ℕ) (bytes all : List ℕ) → IsWrite files file first off (length bytes)
    → bytes_at (file_at files file) (PAGE * (first + off / PAGE)) PAGE ≡ all
    → bytes_at (file_at (stored_files files file (PAGE * first + off) bytes) file) (PAGE * (first + off / PAGE)) PAGE ≡ with_bytes all (off % PAGE) bytes
stored-here files file first off bytes all k are =
    let old = file_at files file in
    let from = PAGE * (first + off / PAGE) in
    let at = PAGE * first + off in
    let start : from ≤ at = omega arith in
    let end : at + length bytes ≤ from + PAGE = omega (arith, k.within_page) in
    let rest : at - from ≡ off % PAGE = omega arith in
    ap (λ b. bytes_at b from PAGE) (get_or-set_same files file (with_bytes old at bytes) [] k.file_below)
    ∙ bytes_at-with_bytes_round old at bytes from PAGE k.within start end
    ∙ ap (λ n. with_bytes (bytes_at old from PAGE) n bytes) rest
    ∙ ap (λ b. with_bytes b (off % PAGE) bytes) are

-- other pages stay
pub stored-elsewhere : (files : List (List ℕ)) (file first off i j : ℕ) (bytes : List ℕ) → IsWrite files file first off (length bytes) → File i j ≢ File file (first + off / PAGE)
    → bytes_at (file_at (stored_files files file (PAGE * first + off) bytes) i) (PAGE * j) PAGE ≡ bytes_at (file_at files i) (PAGE * j) PAGE
stored-elsewhere files file first off i j bytes k apart = elim (cases_eq i file) [
  | inl z ↦
      let n : j ≢ first + off / PAGE = λ e. apart (λ q. File (z q) (e q)) in
      rw z (ap (λ b. bytes_at b (PAGE * j) PAGE) (get_or-set_same files file (with_bytes old at bytes) [] k.file_below) ∙ page n (cases_lt j (first + off / PAGE)))
  | inr n ↦ ap (λ b. bytes_at b (PAGE * j) PAGE) (get_or-set_other files file i (with_bytes old at bytes) [] n)
]
  where
    old : List ℕ
    old = file_at files file

    at : ℕ
    at = PAGE * first + off

    page : j ≢ first + off / PAGE → (j < first + off / PAGE) ⊎ (first + off / PAGE ≤ j) → bytes_at (with_bytes old at bytes) (PAGE * j) PAGE ≡ bytes_at old (PAGE * j) PAGE
    page n (inl below) = bytes_at-with_bytes_below old at bytes (PAGE * j) PAGE (omega (arith, k.within)) (omega (arith, below))
    page n (inr above) = bytes_at-with_bytes_above old at bytes (PAGE * j) PAGE k.within (omega (arith, above, n, k.within_page))
