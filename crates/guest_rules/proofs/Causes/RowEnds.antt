-- The rows name the call that missed, where they have to be taken again.
use Rattle.std.specs.Prelude.{◌≡◌, ℕ, List, Bool, true, false, Option, Some, None, Result, Ok, Err, refl}
use Rattle.cmm_types.specs.declared.page.Usage.{Usage}
use Rattle.cmm_types.specs.declared.page.Usage.TheVariants.{S, U, P, V}
use Rattle.cmm_types.specs.declared.command.Cause.{Cause}
use Rattle.cmm_types.specs.declared.command.Cause.TheVariants.{Disk, Paging as PagingCause}
use Rattle.cmm_types.specs.declared.turn.Why.{Why}
use Rattle.cmm_types.specs.declared.turn.Why.TheVariants.{NoFrame as HadNoFrame}
use Rattle.cmm_io.specs.declared.failed.Failed.{Failed}
use Rattle.cmm_storage.specs.declared.storage.Busy.{Busy}
use Rattle.cmm_storage.specs.declared.storage.Trap.{Trap}
use Rattle.cmm_storage.specs.declared.storage.Trap.TheVariants.{Discarded, Paging, NoFrame}
use Rattle.cmm_types.specs.Bytes.{zero_page}
use Rattle.cmm_storage.specs.Program.{done, put_page, bind}
use Rattle.guest_pages.specs.PagesView.{info_at}
use Rattle.guest_maps.specs.declared.slot.Pte.{Pte}
use Rattle.guest_rules.specs.declared.parts.Parts.{Parts}
use Rattle.guest_rules.specs.declared.outcome.Gone.{Gone}
use Rattle.guest_rules.specs.declared.outcome.Filled.{Filled}
use Rattle.guest_rules.specs.declared.outcome.Filled.TheVariants.{Done as FilledDone, Again as FilledAgain, Fail as FilledFail}
use Rattle.guest_rules.specs.declared.outcome.Missed.{Missed}
use Rattle.guest_rules.specs.declared.outcome.Missed.TheVariants.{Gone as MissedGone, Again as MissedAgain, Fail as MissedFail}
use Rattle.guest_rules.specs.declared.outcome.Placed.{Placed}
use Rattle.guest_rules.specs.declared.outcome.Placed.TheVariants.{Done as PlaceDone, Gone as PlaceGone, Again as PlaceAgain}
use Rattle.guest_rules.specs.declared.outcome.Synced.{Synced}
use Rattle.guest_rules.specs.declared.outcome.Synced.TheVariants.{Clean, Locked, Gone as SyncGone, Waits as IsLocked, Again as SyncAgain}
use Rattle.guest_rules.specs.Rows.{handled, handler, tell, with_change, rehint, make_stable, missed_by, touch_missed, read_page, read_stable, read_touched, write_page}
use Rattle.guest_rules.specs.Rows.{write_stable, write_touched, load_page, load_touched, store_through, store_touched, resolve, resolve_stable, pin_page, pin_stable}
use Rattle.guest_rules.specs.Rows.{clear_entry, clear_stable, tear_page, fill, fill_with, fill_read, fill_from, fill_touched, backing_at, dirtied, mapped, unmapped, pinned, filled}
use Rattle.guest_rules.specs.Syncs.{sync_page, sync_owned, sync_taken, sync_known, sync_stable, unlocked, cleaned, write_back, back_touched, back_fetched, back_written, stay_dirty}
use Rattle.guest_rules.proofs.Causes.Ends.{Ends, ends_bind, after_take, after_touch}

-- an answer that has to be taken again is that of the call that missed last
abbrev pub MissNames : {R : Type 0} → Option Why → Parts × Result R Missed → Type 0
MissNames {R} last a = of a.1
  where
    of : Result R Missed → Type 0
    of (Ok r) = Unit {0}
    of (Err MissedGone) = Unit {0}
    of (Err (MissedAgain why)) = last ≡ Some why
    of (Err (MissedFail cause)) = Unit {0}

abbrev pub PlacedNames : Option Why → Parts × Placed → Type 0
PlacedNames last a = of a.1
  where
    of : Placed → Type 0
    of PlaceDone = Unit {0}
    of PlaceGone = Unit {0}
    of (PlaceAgain why) = last ≡ Some why

abbrev pub FilledNames : Option Why → Parts × Filled → Type 0
FilledNames last a = of a.1
  where
    of : Filled → Type 0
    of FilledDone = Unit {0}
    of (FilledAgain why) = last ≡ Some why
    of (FilledFail cause) = Unit {0}

abbrev pub SyncedNames : Option Why → Parts × Synced → Type 0
SyncedNames last a = of a.1
  where
    of : Synced → Type 0
    of Clean = Unit {0}
    of Locked = Unit {0}
    of SyncGone = Unit {0}
    of (IsLocked owner) = Unit {0}
    of (SyncAgain why) = last ≡ Some why

-- ---- the rows on a held page miss nothing

tell_ends : (usage : Usage) (parts : Parts) (page : ℕ) (last : Option Why) (Q : Option Why → Parts → Type 0) → Q last parts → Ends (tell usage parts page) last Q
tell_ends S parts page last Q h = h
tell_ends U parts page last Q h = h
tell_ends P parts page last Q h = λ was_done. h
tell_ends V parts page last Q h = λ was_done. h

rehint_ends : (parts : Parts) (page : ℕ) (last : Option Why) (Q : Option Why → Parts → Type 0) → ((after : Parts) → Q last after) → Ends (rehint parts page) last Q
unfolding rehint
rehint_ends parts page last Q h = λ changed. tell_ends _ (with_change parts page changed) page last Q (h (with_change parts page changed))

handler_ends : (parts : Parts) (page : ℕ) (last : Option Why) (Q : Option Why → Parts → Type 0) → ((after : Parts) → Q last after) → Ends (handler parts page) last Q
unfolding handler
handler_ends parts page last Q h = λ was_done. h (handled parts page)

pub stable_ends : (parts : Parts) (page : ℕ) (last : Option Why) (Q : Option Why → Parts × Result Unit Gone → Type 0) → ((after : Parts) (r : Result Unit Gone) → Q last (after, r))
    → Ends (make_stable parts page) last Q
unfolding make_stable
stable_ends parts page last Q h true = h parts (Ok tt)
stable_ends parts page last Q h false =
    ends_bind (handler parts page) (λ after. done (after, Err (record {}))) last Q (handler_ends parts page last (λ l after. Q l (after, Err (record {}))) (λ after. h after (Err (record {}))))

-- the hint is told again, and the page is given back
told_ends : {R : Type 0} (parts : Parts) (page : ℕ) (r : R) (last : Option Why) (Q : Option Why → Parts × R → Type 0) → ((after : Parts) → Q last (after, r))
    → Ends {A = Parts × R} (bind (rehint parts page) (λ after. put_page page (done (after, r)))) last Q
told_ends {R} parts page r last Q h = ends_bind (rehint parts page) (λ after. put_page page (done (after, r))) last Q (rehint_ends parts page last (λ l after. Q l (after, r)) h)

-- a page that was made stable, but couldn't be touched
untouched_ends : (R : Type 0) (parts : Parts) (page : ℕ) (trap : Trap)
    → Ends {A = Parts × Result R Missed} (bind (rehint parts page) (λ after. put_page page (done (after, Err (missed_by trap))))) (after_touch (Err trap) None) (MissNames {R = R})
untouched_ends R parts page Discarded = told_ends {R = Result R Missed} parts page _ None (MissNames {R = R}) (λ after. tt)
untouched_ends R parts page Paging = told_ends {R = Result R Missed} parts page _ None (MissNames {R = R}) (λ after. tt)
untouched_ends R parts page (NoFrame looks) = told_ends {R = Result R Missed} parts page _ (Some (HadNoFrame looks)) (MissNames {R = R}) (λ after. refl)

read_touch : (page off len : ℕ) (parts : Parts) (trap : Result Unit Trap) → Ends (read_touched page off len parts trap) (after_touch trap None) (MissNames {R = List ℕ})
read_touch page off len parts (Ok u) = λ bytes. told_ends {R = Result (List ℕ) Missed} parts page (Ok bytes) None (MissNames {R = List ℕ}) (λ after. tt)
read_touch page off len parts (Err trap) = untouched_ends (List ℕ) parts page trap

read_gone : (page off len : ℕ) (parts : Parts) (r : Result Unit Gone) → Ends (read_stable page off len parts r) None (MissNames {R = List ℕ})
read_gone page off len parts (Ok u) = λ trap. read_touch page off len parts trap
read_gone page off len parts (Err gone) = tt

pub read_ends : (parts : Parts) (page off len : ℕ) → Ends (read_page parts page off len) None (MissNames {R = List ℕ})
unfolding read_page
read_ends parts page off len (Err busy) = refl
read_ends parts page off len (Ok u) =
    ends_bind (make_stable parts page) (λ went. read_stable page off len went.0 went.1) None (MissNames {R = List ℕ})
    (stable_ends parts page None (λ l went. Ends (read_stable page off len went.0 went.1) l (MissNames {R = List ℕ})) (λ after r. read_gone page off len after r))

write_touch : (page off : ℕ) (bytes : List ℕ) (parts : Parts) (trap : Result Unit Trap) → Ends (write_touched page off bytes parts trap) (after_touch trap None) (MissNames {R = Unit {0}})
write_touch page off bytes parts (Ok u) = told_ends {R = Result Unit Missed} (dirtied parts page) page (Ok tt) None (MissNames {R = Unit {0}}) (λ after. tt)
write_touch page off bytes parts (Err trap) = untouched_ends (Unit {0}) parts page trap

write_gone : (page off : ℕ) (bytes : List ℕ) (parts : Parts) (r : Result Unit Gone) → Ends (write_stable page off bytes parts r) None (MissNames {R = Unit {0}})
write_gone page off bytes parts (Ok u) = λ trap. write_touch page off bytes parts trap
write_gone page off bytes parts (Err gone) = tt

pub write_ends : (parts : Parts) (page off : ℕ) (bytes : List ℕ) → Ends (write_page parts page off bytes) None (MissNames {R = Unit {0}})
unfolding write_page
write_ends parts page off bytes (Err busy) = refl
write_ends parts page off bytes (Ok u) =
    ends_bind (make_stable parts page) (λ went. write_stable page off bytes went.0 went.1) None (MissNames {R = Unit {0}})
    (stable_ends parts page None (λ l went. Ends (write_stable page off bytes went.0 went.1) l (MissNames {R = Unit {0}})) (λ after r. write_gone page off bytes after r))

-- ---- loads and stores through entries

miss_ends : (R : Type 0) (parts : Parts) (page : ℕ) (trap : Trap) → Ends {A = Parts × Result R Missed} (touch_missed page parts trap) (after_touch (Err trap) None) (MissNames {R = R})
miss_ends R parts page Discarded =
    ends_bind (handler parts page) (λ after. put_page page (done (after, Err MissedGone))) None (MissNames {R = R})
    (handler_ends parts page None (λ l after. MissNames {R = R} l (after, Err MissedGone)) (λ after. tt))
miss_ends R parts page Paging = tt
miss_ends R parts page (NoFrame looks) = refl

load_touch : (page off len : ℕ) (parts : Parts) (trap : Result Unit Trap) → Ends (load_touched page off len parts trap) (after_touch trap None) (MissNames {R = List ℕ})
load_touch page off len parts (Ok u) = λ bytes. tt
load_touch page off len parts (Err trap) = miss_ends (List ℕ) parts page trap

pub load_ends : (parts : Parts) (page off len : ℕ) → Ends (load_page parts page off len) None (MissNames {R = List ℕ})
unfolding load_page
load_ends parts page off len (Err busy) = refl
load_ends parts page off len (Ok u) = λ trap. load_touch page off len parts trap

store_touch : (page off : ℕ) (bytes : List ℕ) (parts : Parts) (trap : Result Unit Trap) → Ends (store_touched page off bytes parts trap) (after_touch trap None) (MissNames {R = Unit {0}})
store_touch page off bytes parts (Ok u) = tt
store_touch page off bytes parts (Err trap) = miss_ends (Unit {0}) parts page trap

pub store_ends : (parts : Parts) (page off : ℕ) (bytes : List ℕ) → Ends (store_through parts page off bytes) None (MissNames {R = Unit {0}})
unfolding store_through
store_ends parts page off bytes (Err busy) = refl
store_ends parts page off bytes (Ok u) = λ trap. store_touch page off bytes parts trap

-- ---- entries and pins

resolve_gone : (page slot index : ℕ) (writable : Bool) (parts : Parts) (r : Result Unit Gone) → Ends (resolve_stable page slot index writable parts r) None PlacedNames
resolve_gone page slot index writable parts (Ok u) = told_ends (mapped parts page slot index writable) page PlaceDone None PlacedNames (λ after. tt)
resolve_gone page slot index writable parts (Err gone) = tt

pub resolve_ends : (parts : Parts) (page slot index : ℕ) (writable : Bool) → Ends (resolve parts page slot index writable) None PlacedNames
unfolding resolve
resolve_ends parts page slot index writable (Err busy) = refl
resolve_ends parts page slot index writable (Ok u) =
    ends_bind (make_stable parts page) (λ went. resolve_stable page slot index writable went.0 went.1) None PlacedNames
    (stable_ends parts page None (λ l went. Ends (resolve_stable page slot index writable went.0 went.1) l PlacedNames) (λ after r. resolve_gone page slot index writable after r))

pin_gone : (page slot index : ℕ) (pins : Bool) (parts : Parts) (r : Result Unit Gone) → Ends (pin_stable page slot index pins parts r) None PlacedNames
pin_gone page slot index pins parts (Ok u) = told_ends (pinned parts page slot index pins) page PlaceDone None PlacedNames (λ after. tt)
pin_gone page slot index pins parts (Err gone) = tt

pub pin_ends : (parts : Parts) (page slot index : ℕ) (pins : Bool) → Ends (pin_page parts page slot index pins) None PlacedNames
unfolding pin_page
pin_ends parts page slot index pins (Err busy) = refl
pin_ends parts page slot index pins (Ok u) =
    ends_bind (make_stable parts page) (λ went. pin_stable page slot index pins went.0 went.1) None PlacedNames
    (stable_ends parts page None (λ l went. Ends (pin_stable page slot index pins went.0 went.1) l PlacedNames) (λ after r. pin_gone page slot index pins after r))

clear_gone : (slot index : ℕ) (pte : Pte) (parts : Parts) (r : Result Unit Gone) → Ends (clear_stable slot index pte parts r) None PlacedNames
clear_gone slot index pte parts (Ok u) = told_ends (unmapped parts slot index pte) pte.page PlaceDone None PlacedNames (λ after. tt)
clear_gone slot index pte parts (Err gone) = tt

pub clear_ends : (parts : Parts) (slot index : ℕ) (pte : Pte) → Ends (clear_entry parts slot index pte) None PlacedNames
unfolding clear_entry
clear_ends parts slot index pte (Err busy) = refl
clear_ends parts slot index pte (Ok u) =
    ends_bind (make_stable parts pte.page) (λ went. clear_stable slot index pte went.0 went.1) None PlacedNames
    (stable_ends parts pte.page None (λ l went. Ends (clear_stable slot index pte went.0 went.1) l PlacedNames) (λ after r. clear_gone slot index pte after r))

pub tear_ends : (parts : Parts) (slot index page : ℕ) → Ends (tear_page parts slot index page) None PlacedNames
unfolding tear_page
tear_ends parts slot index page (Err busy) = refl
tear_ends parts slot index page (Ok u) = λ was_done. tt

-- ---- the filling of a page

fill_given : (parts : Parts) (page : ℕ) (bytes : List ℕ) → Ends (fill_with parts page bytes) None FilledNames
fill_given parts page bytes = λ changed. told_ends (filled parts page) page FilledDone None FilledNames (λ after. tt)

fill_block : (parts : Parts) (page : ℕ) (r : Result (List ℕ) Failed) → Ends (fill_read parts page r) None FilledNames
fill_block parts page (Ok bytes) = fill_given parts page bytes
fill_block parts page (Err failed) = λ was_done. tt

fill_behind : (parts : Parts) (page : ℕ) (block : Option ℕ) → Ends (fill_from parts page block) None FilledNames
fill_behind parts page (Some block) = λ r. fill_block parts page r
fill_behind parts page None = fill_given parts page zero_page

fill_touch : (parts : Parts) (page : ℕ) (trap : Result Unit Trap) → Ends (fill_touched parts page trap) (after_touch trap None) FilledNames
fill_touch parts page (Ok u) = fill_behind parts page (backing_at parts page)
fill_touch parts page (Err Discarded) = λ was_done. tt
fill_touch parts page (Err Paging) = λ was_done. tt
fill_touch parts page (Err (NoFrame looks)) = refl

pub fill_ends : (parts : Parts) (page : ℕ) → Ends (fill parts page) None FilledNames
unfolding fill
fill_ends parts page (Err busy) = refl
fill_ends parts page (Ok u) = λ was_done trap. fill_touch parts page trap

-- ---- syncs

sync_dirty : (page cpu : ℕ) (parts : Parts) (dirty : Bool) → Ends (sync_known page cpu parts dirty) None SyncedNames
sync_dirty page cpu parts true = tt
sync_dirty page cpu parts false = told_ends parts page Clean None SyncedNames (λ after. tt)

sync_gone : (page cpu : ℕ) (parts : Parts) (r : Result Unit Gone) → Ends (sync_stable page cpu parts r) None SyncedNames
sync_gone page cpu parts (Ok u) = λ changed. sync_dirty page cpu (with_change parts page changed) (info_at (with_change parts page changed).pages page).dirty
sync_gone page cpu parts (Err gone) = tt

sync_free : (parts : Parts) (page cpu : ℕ) (r : Result Unit Busy) → Ends (sync_taken parts page cpu r) (after_take page r None) SyncedNames
sync_free parts page cpu (Err busy) = refl
sync_free parts page cpu (Ok u) =
    ends_bind (make_stable parts page) (λ went. sync_stable page cpu went.0 went.1) None SyncedNames
    (stable_ends parts page None (λ l went. Ends (sync_stable page cpu went.0 went.1) l SyncedNames) (λ after r. sync_gone page cpu after r))

sync_seen : (parts : Parts) (page cpu : ℕ) (owner : Option ℕ) → Ends (sync_owned parts page cpu owner) None SyncedNames
sync_seen parts page cpu (Some owner) = tt
sync_seen parts page cpu None = λ r. sync_free parts page cpu r

pub sync_ends : (parts : Parts) (page cpu : ℕ) → Ends (sync_page parts page cpu) None SyncedNames
unfolding sync_page
sync_ends parts page cpu = sync_seen parts page cpu (info_at parts.pages page).owner

dirty_ends : (parts : Parts) (page : ℕ) (cause : Cause) → Ends (stay_dirty parts page cause) None FilledNames
dirty_ends parts page cause = told_ends (unlocked parts page) page (FilledFail cause) None FilledNames (λ after. tt)

back_write : (parts : Parts) (page : ℕ) (r : Result Unit Failed) → Ends (back_written parts page r) None FilledNames
back_write parts page (Ok u) = told_ends (cleaned parts page) page FilledDone None FilledNames (λ after. tt)
back_write parts page (Err failed) = dirty_ends parts page Disk

back_fetch : (parts : Parts) (page : ℕ) (block : Option ℕ) (bytes : List ℕ) → Ends (back_fetched parts page block bytes) None FilledNames
back_fetch parts page (Some block) bytes = λ r. back_write parts page r
back_fetch parts page None bytes = dirty_ends parts page Disk

back_touch : (parts : Parts) (page : ℕ) (trap : Result Unit Trap) → Ends (back_touched parts page trap) (after_touch trap None) FilledNames
back_touch parts page (Ok u) = λ bytes. back_fetch parts page (backing_at parts page) bytes
back_touch parts page (Err Discarded) = dirty_ends parts page PagingCause
back_touch parts page (Err Paging) = dirty_ends parts page PagingCause
back_touch parts page (Err (NoFrame looks)) = refl

pub write_back_ends : (parts : Parts) (page : ℕ) → Ends (write_back parts page) None FilledNames
unfolding write_back
write_back_ends parts page (Err busy) = refl
write_back_ends parts page (Ok u) = λ trap. back_touch parts page trap
