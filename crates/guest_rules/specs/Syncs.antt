-- What a sync does to one page, as programs of calls. Each begins and ends with no page held, but the parts that say otherwise.
use Rattle.std.specs.Prelude.{ℕ, List, Bool, true, false, Option, Some, None, Result, Ok, Err}
use Rattle.cmm_types.specs.declared.page.TheConstants.{PAGE}
use Rattle.cmm_types.specs.declared.command.Cause.{Cause}
use Rattle.cmm_types.specs.declared.command.Cause.TheVariants.{Disk, Paging as PagingCause}
use Rattle.cmm_types.specs.declared.turn.Why.TheVariants.{Busy as WasBusy, NoFrame as HadNoFrame}
use Rattle.cmm_io.specs.declared.failed.Failed.{Failed}
use Rattle.cmm_storage.specs.declared.storage.Busy.{Busy}
use Rattle.cmm_storage.specs.declared.storage.Trap.{Trap}
use Rattle.cmm_storage.specs.declared.storage.Trap.TheVariants.{Discarded, Paging, NoFrame}
use Rattle.cmm_storage.specs.Program.{Program, done, take_page, touch_page, take_change, fetch_page, put_page, write_block, bind}
use Rattle.guest_pages.specs.PagesView.{info_at, with_dirty, with_owner}
use Rattle.guest_rules.specs.declared.parts.Parts.{Parts}
use Rattle.guest_rules.specs.declared.outcome.Gone.{Gone}
use Rattle.guest_rules.specs.declared.outcome.Filled.{Filled}
use Rattle.guest_rules.specs.declared.outcome.Filled.TheVariants.{Done, Again, Fail}
use Rattle.guest_rules.specs.declared.outcome.Synced.{Synced}
use Rattle.guest_rules.specs.declared.outcome.Synced.TheVariants.{Clean, Locked, Gone as WasGone, Waits as IsLocked, Again as SyncAgain}
use Rattle.guest_rules.specs.Rows.{with_change, rehint, make_stable, backing_at}

-- the page is locked by the processor, to be written back
unfoldable pub locked : Parts → ℕ → ℕ → Parts
locked parts page cpu = record parts { pages = with_owner parts.pages page (Some cpu) }

-- a page whose change bit has moved into what is known of it: it is locked where it is dirty
abbrev pub sync_known : (page cpu : ℕ) → Parts → (dirty : Bool) → Program (Parts × Synced)
sync_known page cpu parts true = put_page page (done (locked parts page cpu, Locked))
sync_known page cpu parts false = bind (rehint parts page) (λ after. put_page page (done (after, Clean)))

abbrev pub sync_changed : (page cpu : ℕ) → Parts → (changed : Bool) → Program (Parts × Synced)
sync_changed page cpu parts changed = sync_known page cpu (with_change parts page changed) (info_at (with_change parts page changed).pages page).dirty

abbrev pub sync_stable : (page cpu : ℕ) → Parts → Result Unit Gone → Program (Parts × Synced)
sync_stable page cpu parts (Ok u) = take_change page (sync_changed page cpu parts)
sync_stable page cpu parts (Err gone) = put_page page (done (parts, WasGone))

abbrev pub sync_taken : Parts → (page cpu : ℕ) → Result Unit Busy → Program (Parts × Synced)
sync_taken parts page cpu (Ok u) = bind (make_stable parts page) (λ went. sync_stable page cpu went.0 went.1)
sync_taken parts page cpu (Err busy) = done (parts, SyncAgain (WasBusy page busy.word))

abbrev pub sync_owned : Parts → (page cpu : ℕ) → Option ℕ → Program (Parts × Synced)
sync_owned parts page cpu (Some owner) = done (parts, IsLocked owner)
sync_owned parts page cpu None = take_page page (sync_taken parts page cpu)

-- a page with a tag is looked at for a sync of its file by a processor
unfoldable pub sync_page : Parts → (page cpu : ℕ) → Program (Parts × Synced)
sync_page parts page cpu = sync_owned parts page cpu (info_at parts.pages page).owner

-- the page isn't locked any more
unfoldable pub unlocked : Parts → ℕ → Parts
unlocked parts page = record parts { pages = with_owner parts.pages page None }

-- and its block has its bytes
unfoldable pub cleaned : Parts → ℕ → Parts
cleaned parts page = record parts { pages = with_owner (with_dirty parts.pages page false) page None }

-- the page couldn't be written back: it stays dirty
abbrev pub stay_dirty : Parts → ℕ → Cause → Program (Parts × Filled)
stay_dirty parts page cause = bind (rehint (unlocked parts page) page) (λ after. put_page page (done (after, Fail cause)))

-- the hint makes a page dirty again that was stored to since it was locked
abbrev pub back_written : Parts → ℕ → Result Unit Failed → Program (Parts × Filled)
back_written parts page (Ok u) = bind (rehint (cleaned parts page) page) (λ after. put_page page (done (after, Done)))
back_written parts page (Err failed) = stay_dirty parts page Disk

-- no page without a block is ever locked to be written back
abbrev pub back_fetched : Parts → ℕ → Option ℕ → List ℕ → Program (Parts × Filled)
back_fetched parts page (Some block) bytes = write_block block bytes (back_written parts page)
back_fetched parts page None bytes = stay_dirty parts page Disk

abbrev pub back_touched : Parts → ℕ → Result Unit Trap → Program (Parts × Filled)
back_touched parts page (Ok u) = fetch_page page 0 PAGE (back_fetched parts page (backing_at parts page))
back_touched parts page (Err Discarded) = stay_dirty parts page PagingCause
back_touched parts page (Err Paging) = stay_dirty parts page PagingCause
back_touched parts page (Err (NoFrame looks)) = put_page page (done (parts, Again (HadNoFrame looks)))

abbrev pub back_taken : Parts → ℕ → Result Unit Busy → Program (Parts × Filled)
back_taken parts page (Ok u) = touch_page page (back_touched parts page)
back_taken parts page (Err busy) = done (parts, Again (WasBusy page busy.word))

-- a locked page is written to the block of its tag
unfoldable pub write_back : Parts → ℕ → Program (Parts × Filled)
write_back parts page = take_page page (back_taken parts page)
