-- What the mapping slots keep beside themselves: where each process's live mapping of a number is, and how many are live.
use Rattle.std.specs.Prelude.{◌≡◌, ℕ, ◌+◌, ◌*◌, ◌<◌, List, length, Option, None, slice_index_or, position, count_by}
use Rattle.cmm_types.specs.declared.command.TheConstants.{MAX_MAPPING_NUMBERS}
use Rattle.cmm_types.specs.declared.plan.TheConstants.{MAX_PROCESSES}
use Rattle.guest_maps.specs.declared.slot.Slot.{Slot}
use Rattle.guest_maps.specs.MapsView.{is_live_slot, is_mapping, AreSlots}

-- where the table has the live slot of a process's mapping of a number
abbrev pub number_place : ℕ → ℕ → ℕ
number_place process number = process * MAX_MAPPING_NUMBERS + number

pub record IsSlotIndex (slots : List (Option Slot)) (found : List (Option ℕ)) (live : ℕ) : Type 0 where
  pub sound : AreSlots slots
  pub whole : length found ≡ MAX_PROCESSES * MAX_MAPPING_NUMBERS
  pub finds : (process number : ℕ) → process < MAX_PROCESSES → number < MAX_MAPPING_NUMBERS → slice_index_or found (number_place process number) None ≡ position (is_mapping process number) slots
  pub counts : live ≡ count_by is_live_slot slots
