-- What the host's own steps keep of the pages, and what a touch keeps.
use Rattle.std.specs.Prelude.{◌≡◌, ◌≢◌, ◌⊎◌, ◌<◌, ◌≤◌, ◌^◌, ℕ, length, Bool, true, false, Result, Ok, Err, min, ◌-◌}
use Rattle.std.specs.List.{list_any}
use Rattle.cmm_io.specs.FailurePlan.{FailurePlan}
use Rattle.cmm_io.specs.Faults.{HasRisen}
use Rattle.essa_state.specs.StateWord.{is_resident, is_discarded}
use Rattle.essa_state.specs.PageValue.{MayBecome}
use Rattle.cmm_storage.specs.StorageView.{touched_contents}
use Rattle.cmm_storage.specs.declared.storage.Trap.{Trap}
use Rattle.cmm_storage.specs.declared.storage.Trap.TheVariants.{Discarded, Paging as NoPage, NoFrame}
use Rattle.host_clock.specs.Victim.{is_candidate}
use Rattle.host_plain.specs.declared.moves.ApplyError.{ApplyError}
use Rattle.host_plain.specs.declared.moves.ApplyError.TheVariants.{Refused, Paging}
use Rattle.host_plain.specs.HostMoves.{Reclaimed}
use Rattle.host_plain.specs.MemoryState.{MemoryState, IsMemory, word_at, body_at, memory_value_at, with_use}

-- the memory is sound; it has the pages and the frames that it had, and each page is busy exactly where it was. Each
-- page's value may become another only as a guest allows it
pub record HostKeeps (m k : MemoryState) : Type 0 where
  pub sound : IsMemory k
  pub count : length k.words ≡ length m.words
  pub frames : k.frames ≡ m.frames
  pub busy : (place : ℕ) → (word_at k place).busy ≡ (word_at m place).busy
  pub values : (place : ℕ) → MayBecome (memory_value_at m place) (memory_value_at k place)

-- the same of a touch, but for the value of the page that is touched
pub record TouchKeeps (m : MemoryState) (page : ℕ) (k : MemoryState) : Type 0 where
  pub sound : IsMemory k
  pub count : length k.words ≡ length m.words
  pub frames : k.frames ≡ m.frames
  pub busy : (place : ℕ) → (word_at k place).busy ≡ (word_at m place).busy
  pub others : (place : ℕ) → place ≢ page → MayBecome (memory_value_at m place) (memory_value_at k place)

-- the page at a place is as it was
abbrev pub SamePage : MemoryState → ℕ → MemoryState → Type 0
SamePage m place k = (word_at k place ≡ word_at m place) × (body_at k place ≡ body_at m place)

-- what each answer of a touch says of the page that is touched, before and afterwards; one that is resident already is
-- only used
abbrev pub TouchLeaves : Result Unit Trap → MemoryState → ℕ → MemoryState → Type 0
TouchLeaves (Ok done) m page k =
    (is_discarded (word_at m page) ≡ false) × (is_resident (word_at k page).content ≡ true)
    × (memory_value_at k page ≡ record (memory_value_at m page) { contents = touched_contents true (memory_value_at m page).contents })
    × (is_resident (word_at m page).content ≡ true → k ≡ with_use m page)
TouchLeaves (Err Discarded) m page k = (is_discarded (word_at m page) ≡ true) × (k ≡ m)
TouchLeaves (Err NoPage) m page k =
    (is_discarded (word_at m page) ≡ false) × (is_resident (word_at m page).content ≡ false) × SamePage m page k
TouchLeaves (Err (NoFrame looks)) m page k = ⊥

-- no frame is free, and no resident page may be taken
abbrev pub NoneToTake : MemoryState → Type 0
NoneToTake m = (m.free ≡ 0) × (list_any is_candidate m.words ≡ false)

-- a step that failed has failed in a call of its pager, or there was no page to take a frame from; in a step that was
-- done no call failed
abbrev pub FaultsOf : (done : Bool) → MemoryState → FailurePlan → FailurePlan → Type 0
FaultsOf true m pager after = after.faults ≡ pager.faults
FaultsOf false m pager after = NoneToTake m ⊎ HasRisen pager.faults after.faults

-- whether no call of the pager kept the touch from being made
abbrev pub is_paged : Result Unit Trap → Bool
is_paged (Ok done) = true
is_paged (Err Discarded) = true
is_paged (Err NoPage) = false
is_paged (Err (NoFrame looks)) = true

-- whether no call of the pager kept the move from being made
abbrev pub is_made : Result Unit ApplyError → Bool
is_made (Ok done) = true
is_made (Err (Refused why)) = true
is_made (Err Paging) = false

-- how many calls of a pager failed; the count stands still at the end of its type
abbrev pub faults_of : FailurePlan → ℕ
faults_of pager = min pager.faults (2 ^ 64 - 1)

-- a pager's count of faults doesn't fall
abbrev pub NeverFalls : FailurePlan → FailurePlan → Type 0
NeverFalls pager after = faults_of pager ≤ faults_of after

-- of so many victims that were asked for: how many were moved, whether a put failed, and if not, that none is left
pub record ReclaimTells (asked : ℕ) (pager : FailurePlan) (r : Reclaimed) : Type 0 where
  pub most : r.count ≤ asked
  pub risen : r.paging ≡ true → HasRisen pager.faults r.pager.faults
  pub same : r.paging ≡ false → r.pager.faults ≡ pager.faults
  pub short : r.count < asked → r.paging ≡ false → list_any is_candidate r.memory.words ≡ false
