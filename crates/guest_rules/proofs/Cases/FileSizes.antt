-- How many pages a file of a plan has.
use Rattle.std.proofs.Common.{◌≡◌, ◌<◌, ◌≤◌, ℕ, zero, suc, All, List, [], ◌∷◌, length, get_or, inl, inr, refl, arith}
use Rattle.std.proofs.lemmas.Bool.{cases_lt}
use Rattle.cmm_types.specs.declared.plan.TheConstants.{MAX_FILE_PAGES}
use Rattle.cmm_types.specs.declared.plan.FilePlan.{FilePlan}
use Rattle.cmm_types.specs.InRange.{FileInRange}
use Rattle.guest_rules.specs.Turns.{file_pages}

no_file : FilePlan
no_file = record { pages = 0; head = [] }

pages_at : (files : List FilePlan) (file : ℕ) → file < length files → file_pages files file ≡ (get_or files file no_file).pages
pages_at [] file below = absurd (omega (arith, below))
pages_at (plan ∷ plans) zero below = refl
pages_at (plan ∷ plans) (suc file) below = pages_at plans file (omega (arith, below))

no_pages : (files : List FilePlan) (file : ℕ) → length files ≤ file → file_pages files file ≡ 0
no_pages [] file past = refl
no_pages (plan ∷ plans) zero past = absurd (omega (arith, past))
no_pages (plan ∷ plans) (suc file) past = no_pages plans file (omega (arith, past))

-- a file has a page
pub file_pages-some : (files : List FilePlan) (file : ℕ) → All FileInRange files → file < length files → 1 ≤ file_pages files file
file_pages-some files file each below = rw (pages_at files file below) (each file no_file below).some

-- and at most so many
pub file_pages-most : (files : List FilePlan) (file : ℕ) → All FileInRange files → file_pages files file ≤ MAX_FILE_PAGES
file_pages-most files file each = elim (cases_lt file (length files)) [
  | inl below ↦ rw (pages_at files file below) (each file no_file below).most
  | inr past ↦ rw (no_pages files file past) (omega arith)
]

-- a page of a file is one of a file that there is
pub file-there : (files : List FilePlan) (file index : ℕ) → index < file_pages files file → file < length files
file-there files file index within = elim (cases_lt file (length files)) [
  | inl below ↦ below
  | inr past ↦ let none = no_pages files file past in absurd (omega (arith, within, none))
]
