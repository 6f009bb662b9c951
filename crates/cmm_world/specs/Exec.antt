-- A program of calls, run on the plain host and the disk in memory. Each answer is a function of what was before, so a run is one.
use Rattle.std.specs.Prelude.{ℕ, List, [], take, drop, Bool, true, false, Result, Ok, Err, slice_index_or}
use Rattle.cmm_io.specs.declared.failed.Failed.{Failed}
use Rattle.cmm_io.specs.FailurePlan.{fails_next}
use Rattle.cmm_io.specs.DiskState.{DiskState, next_call, replaced}
use Rattle.essa_state.specs.Orders.{after_order}
use Rattle.cmm_storage.specs.Program.{Program, done, take_page, touch_page, order_page, take_change, fetch_page, store_page, put_page, read_block, write_block}
use Rattle.host_plain.specs.MemoryState.{old_of}
use Rattle.host_plain.specs.HostState.{HostState, taken, given_back, touch_of, touch_after, with_host_word, host_word, host_bytes, page_stored}

-- what a call of the disk answers, whose number is planned to fail or isn't
abbrev pub call_answered : {A : Type 0} → (fails : Bool) → A → Result A Failed
call_answered true answer = Err (record {})
call_answered false answer = Ok answer

abbrev pub after_write : DiskState → ℕ → List ℕ → (fails : Bool) → DiskState
after_write d block bytes true = next_call d
after_write d block bytes false = replaced (next_call d) block bytes

abbrev pub exec : {A : Type 0} → Program A → HostState → DiskState → A × HostState × DiskState
exec (done a) h d = (a, h, d)
exec (take_page page next) h d = exec (next (Ok tt)) (taken h page) d
exec (touch_page page next) h d = exec (next (touch_of h page).answer) (touch_after h page) d
exec (order_page page code next) h d = exec (next (old_of (host_word h page) code).done) (with_host_word h page (after_order (host_word h page) code)) d
exec (take_change page next) h d = exec (next (host_word h page).changed) (with_host_word h page (record (host_word h page) { changed = false })) d
exec (fetch_page page off len next) h d = exec (next (take len (drop off (host_bytes h page)))) h d
exec (store_page page off bytes next) h d = exec next (page_stored h page off bytes) d
exec (put_page page next) h d = exec next (given_back h page) d
exec (read_block block next) h d = exec (next (call_answered (fails_next d.failures) (slice_index_or d.blocks block []))) h (next_call d)
exec (write_block block bytes next) h d = exec (next (call_answered (fails_next d.failures) tt)) h (after_write d block bytes (fails_next d.failures))
