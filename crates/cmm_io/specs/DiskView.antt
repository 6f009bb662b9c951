-- A disk as a list of blocks of a page's size, where it tells them, with a count of faults; what each call does to it.
use Rattle.std.specs.Prelude.{◌≡◌, ℕ, ◌≤◌, List, [], length, Option, Some, None, All, Ok, Err, slice_index_or, slice_set}
use Rattle.cmm_types.specs.declared.page.TheConstants.{PAGE}
use Rattle.cmm_io.specs.Faults.{HasRisen}
use Rattle.cmm_io.specs.DiskCall.{DiskCall, Read, Write}

-- how many blocks, their bytes where they are told, and how many calls failed
pub record DiskView : Type 0 where
  pub count : ℕ
  pub blocks : Option (List (List ℕ))
  pub faults : ℕ

-- as many blocks as are counted, each of a page's size
abbrev pub AreBlocks : ℕ → Option (List (List ℕ)) → Type 0
AreBlocks count None = Unit {0}
AreBlocks count (Some blocks) = (length blocks ≡ count) × All (λ bytes. length bytes ≡ PAGE) blocks

-- these are a block's bytes, where they are told
abbrev pub HasBlock : Option (List (List ℕ)) → ℕ → List ℕ → Type 0
HasBlock None block bytes = Unit {0}
HasBlock (Some blocks) block bytes = bytes ≡ slice_index_or blocks block []

-- the blocks with one of them replaced
abbrev pub with_block : Option (List (List ℕ)) → ℕ → List ℕ → Option (List (List ℕ))
with_block None block bytes = None
with_block (Some blocks) block bytes = Some (slice_set blocks block bytes)

-- what every call keeps: the number of blocks, and no fault is forgotten
pub record DiskKeeps (before after : DiskView) : Type 0 where
  pub count : after.count ≡ before.count
  pub faults : before.faults ≤ after.faults

-- a call that failed left every block, and the count of faults rose
pub record DiskFailed (before after : DiskView) : Type 0 where
  pub blocks : after.blocks ≡ before.blocks
  pub risen : HasRisen before.faults after.faults

-- what each call with its answer does: a read leaves every block, a good write replaces its own
abbrev pub DiskFollows : DiskView → DiskCall → DiskView → Type 0
DiskFollows d (Read block (Ok done) bytes) e = DiskKeeps d e × (length bytes ≡ PAGE) × HasBlock d.blocks block bytes × (e.blocks ≡ d.blocks)
DiskFollows d (Read block (Err failed) bytes) e = DiskKeeps d e × (length bytes ≡ PAGE) × DiskFailed d e
DiskFollows d (Write block bytes (Ok done)) e = DiskKeeps d e × (e.blocks ≡ with_block d.blocks block bytes)
DiskFollows d (Write block bytes (Err failed)) e = DiskKeeps d e × DiskFailed d e
