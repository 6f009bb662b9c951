-- What a load or a store leaves of its page at the host.
use Rattle.std.specs.Prelude.{◌≡◌, ℕ, ◌/◌, ◌++◌, List, [], ◌∷◌, Bool, true, false, Some, slice_index_or}
use Rattle.cmm_types.specs.declared.page.TheConstants.{PAGE}
use Rattle.cmm_types.specs.declared.event.Event.{Event}
use Rattle.cmm_types.specs.declared.command.Op.TheVariants.{Load, Store}
use Rattle.cmm_types.specs.declared.command.Reply.TheVariants.{Done, Bytes}
use Rattle.cmm_types.specs.declared.command.Entry.{Entry}
use Rattle.cmm_flat.specs.Legal.{process_of}
use Rattle.essa_state.specs.declared.fields.Fields.{Fields}
use Rattle.essa_state.specs.StateWord.{is_resident, opening_word}
use Rattle.guest_maps.specs.declared.slot.Pte.{Pte}
use Rattle.guest_maps.specs.MapsView.{find_slot, entry_at}
use Rattle.cmm_world.specs.WorldState.{WorldState, guest_at}
use Rattle.cmm_world.specs.WorldView.{world_words}
use Rattle.cmm_world.specs.Run.{world_step}

-- the state word of a guest's page
abbrev pub world_word : WorldState → (guest page : ℕ) → Fields
world_word w guest page = slice_index_or (world_words w guest) page opening_word

-- an entry shows a page at this offset of a process's mapping, and that page's word is resident, with its reference bit set, and where the
-- page was stored to, with its change bit set
pub record WasReached (w : WorldState) (guest process number off : ℕ) (writes : Bool) : Type 0 where
  pub slot : ℕ
  pub pte : Pte
  pub found : find_slot (guest_at w guest).parts.maps process number ≡ Some slot
  pub entry : entry_at (guest_at w guest).parts.maps slot (off / PAGE) ≡ Some pte
  pub resident : is_resident (world_word w guest pte.page).content ≡ true
  pub referenced : (world_word w guest pte.page).referenced ≡ true
  pub changed : writes ≡ true → (world_word w guest pte.page).changed ≡ true

-- a guest's journal got this entry
abbrev pub Enters : (w x : WorldState) → (guest : ℕ) → Entry → Type 0
Enters w x guest entry = (guest_at x guest).journal ≡ (guest_at w guest).journal ++ entry ∷ []

-- each load that was entered with its bytes, and each store that was entered as done, has reached its page
pub record HasReached (w x : WorldState) : Type 0 where
  pub loads : (guest cpu k number off len : ℕ) (bytes : List ℕ) → Enters w x guest (record { cpu = cpu; k = k; op = Load number off len; reply = Bytes bytes })
      → WasReached x guest (process_of (guest_at x guest).plan cpu) number off false
  pub stores : (guest cpu k number off : ℕ) (bytes : List ℕ) → Enters w x guest (record { cpu = cpu; k = k; op = Store number off bytes; reply = Done })
      → WasReached x guest (process_of (guest_at x guest).plan cpu) number off true

-- so it is after an event
abbrev pub ReachesPages : WorldState → Event → Type 0
ReachesPages w event = HasReached w (world_step w event).1
