-- Making room names the call that missed, where it has to be taken again.
use Rattle.std.specs.Prelude.{◌≡◌, ℕ, Bool, true, false, Option, Some, None, Result, Ok, Err, refl}
use Rattle.cmm_types.specs.declared.turn.Why.{Why}
use Rattle.cmm_storage.specs.declared.storage.Busy.{Busy}
use Rattle.guest_pages.specs.PagesView.{info_at}
use Rattle.guest_rules.specs.declared.parts.Parts.{Parts}
use Rattle.guest_rules.specs.declared.outcome.Gone.{Gone}
use Rattle.guest_rules.specs.declared.outcome.Room.{Room}
use Rattle.guest_rules.specs.declared.outcome.Room.TheVariants.{Freed, Locked, Waits, NoPage, Again}
use Rattle.guest_rules.specs.Rows.{with_change, make_stable}
use Rattle.guest_rules.specs.MakeRoom.{first_to_go, first_locked, none_goes, go_known, go_stable, go_taken, room_from, make_room}
use Rattle.guest_rules.proofs.Causes.Ends.{Ends, ends_bind, after_take}
use Rattle.guest_rules.proofs.Causes.RowEnds.{stable_ends}

abbrev pub RoomNames : Option Why → Parts × Room → Type 0
RoomNames last a = of a.1
  where
    of : Room → Type 0
    of Freed = Unit {0}
    of (Locked page) = Unit {0}
    of (Waits page owner) = Unit {0}
    of (NoPage pinned unslotted) = Unit {0}
    of (Again why) = last ≡ Some why

known_ends : (page cpu : ℕ) (parts : Parts) (dirty : Bool) → Ends (go_known page cpu parts dirty) None RoomNames
known_ends page cpu parts true = tt
known_ends page cpu parts false = λ was_done. tt

gone_ends : (page cpu : ℕ) (parts : Parts) (r : Result Unit Gone) → Ends (go_stable page cpu parts r) None RoomNames
gone_ends page cpu parts (Ok u) = λ changed. known_ends page cpu (with_change parts page changed) (info_at (with_change parts page changed).pages page).dirty
gone_ends page cpu parts (Err gone) = tt

taken_ends : (parts : Parts) (page cpu : ℕ) (r : Result Unit Busy) → Ends (go_taken parts page cpu r) (after_take page r None) RoomNames
taken_ends parts page cpu (Err busy) = refl
taken_ends parts page cpu (Ok u) =
    ends_bind (make_stable parts page) (λ went. go_stable page cpu went.0 went.1) None RoomNames
    (stable_ends parts page None (λ l went. Ends (go_stable page cpu went.0 went.1) l RoomNames) (λ after r. gone_ends page cpu after r))

none_ends : (parts : Parts) (locked : Option ℕ) → RoomNames None (parts, none_goes parts locked)
none_ends parts None = tt
none_ends parts (Some page) = of (info_at parts.pages page).owner refl
  where
    of : (owner : Option ℕ) → (info_at parts.pages page).owner ≡ owner → RoomNames None (parts, none_goes parts (Some page))
    of None e = rw (e, none_goes) tt
    of (Some cpu) e = rw (e, none_goes) tt

from_ends : (parts : Parts) (cpu : ℕ) (first : Option ℕ) → Ends (room_from parts cpu first) None RoomNames
from_ends parts cpu None = none_ends parts (first_locked parts)
from_ends parts cpu (Some page) = λ r. taken_ends parts page cpu r

pub make_room_ends : (parts : Parts) (cpu : ℕ) → Ends (make_room parts cpu) None RoomNames
unfolding make_room
make_room_ends parts cpu = from_ends parts cpu (first_to_go parts)
