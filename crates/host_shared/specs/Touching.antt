-- What a touch by the shared host makes of the held page, and why it answers what it does.
use Rattle.std.specs.Prelude.{◌≡◌, ℕ, List, false, Result, Ok, Err}
use Rattle.cmm_io.specs.FailurePlan.{FailurePlan}
use Rattle.essa_state.specs.StateWord.{is_discarded}
use Rattle.cmm_storage.specs.declared.storage.Trap.{Trap}
use Rattle.state_words.specs.SeatView.{Seated}
use Rattle.frame_pool.specs.Seats.{PoolSeatView}
use Rattle.host_shared.specs.Holding.{HeldState, IsHeldPage, IsTouched, TrapCause}
use Rattle.host_shared.specs.Searching.{SearchCause}

-- a good touch makes it resident, and a trap leaves it as it is
abbrev pub TouchMakes : Result Unit Trap → HeldState → HeldState → Type 0
TouchMakes (Ok done) h k = IsTouched h k × IsHeldPage k × (is_discarded h.word ≡ false)
TouchMakes (Err trap) h k = k ≡ h

-- why there is a trap, by the page, the pager's faults and the search for a frame
abbrev pub TouchCause : Result Unit Trap → HeldState → (faults risen guest page : ℕ) → (old new : List Seated) → (dry dried : ℕ) → Type 0
TouchCause (Ok done) h faults risen guest page old new dry dried = Unit {0}
TouchCause (Err trap) h faults risen guest page old new dry dried = TrapCause trap h faults risen × SearchCause trap guest page old new dry dried

-- the seats of the host, the seat at the pool and the pager are as before
abbrev pub LeavesSupply : (old new : List Seated) → (seat after : PoolSeatView) → (plan later : FailurePlan) → Type 0
LeavesSupply old new seat after plan later = (new ≡ old) × (after ≡ seat) × (later ≡ plan)
