-- A run on the plain host and the disk in memory is the run.
use Rattle.std.specs.Prelude.{◌≡◌, ℕ, List, [], take, drop, Result, Ok, Err, slice_index_or}
use Rattle.std.proofs.Common.{refl, ap, ◌∙◌}
use Rattle.cmm_io.specs.declared.failed.Failed.{Failed}
use Rattle.cmm_io.specs.FailurePlan.{fails_next}
use Rattle.cmm_io.specs.DiskCall.{DiskCall, Read, Write}
use Rattle.cmm_io.specs.DiskState.{DiskState, DiskStep, next_call}
use Rattle.cmm_storage.specs.StorageCall.{StorageCall, Take, Touch, Give, TakeChange, Fetch, Store, Put}
use Rattle.cmm_storage.specs.Program.{Program, done, take_page, touch_page, order_page, take_change, fetch_page, store_page, put_page, read_block, write_block, block_read, Does}
use Rattle.host_plain.specs.HostState.{HostState, HostStep, host_bytes}
use Rattle.cmm_world.specs.Exec.{exec, call_answered, after_write}

was_read : (d : DiskState) (block : ℕ) (r : Result Unit Failed) (bytes : List ℕ) (e : DiskState) → DiskStep d (Read block r bytes) e
    → (block_read r bytes ≡ call_answered (fails_next d.failures) (slice_index_or d.blocks block [])) × (e ≡ next_call d)
was_read d block (Ok u) bytes e (fine, is, after) = (rw (fine, is) refl, after)
was_read d block (Err failed) bytes e (fails, after) = (rw fails refl, after)

was_written : (d : DiskState) (block : ℕ) (bytes : List ℕ) (r : Result Unit Failed) (e : DiskState) → DiskStep d (Write block bytes r) e
    → (r ≡ call_answered (fails_next d.failures) tt) × (e ≡ after_write d block bytes (fails_next d.failures))
was_written d block bytes (Ok u) e (fine, after) = (rw fine refl, rw fine after)
was_written d block bytes (Err failed) e (fails, after) = (rw fails refl, rw fails after)

module _ {S D : Type 0} (ss : S → StorageCall → S → Type 0) (ds : D → DiskCall → D → Type 0) (sv : S → HostState) (dv : D → DiskState)
    (sm : (s : S) (call : StorageCall) (t : S) → ss s call t → HostStep (sv s) call (sv t))
    (dm : (d : D) (call : DiskCall) (e : D) → ds d call e → DiskStep (dv d) call (dv e)) where
  pub does_exec : {A : Type 0} (p : Program A) (s : S) (d : D) (a : A) (t : S) (e : D) → Does ss ds p s d a t e → (a, sv t, dv e) ≡ exec p (sv s) (dv d)
  does_exec (done x) s d a t e (ea, es, ed) = rw (ea, es, ed) refl
  does_exec (take_page p f) s d a t e (r, m, now, rest) = let q = sm s (Take p r) m now in rw (q.0, q.1) at (does_exec (f r) m d a t e rest)
  does_exec (touch_page p f) s d a t e (r, m, now, rest) = let q = sm s (Touch p r) m now in rw (q.0, q.1) at (does_exec (f r) m d a t e rest)
  does_exec (order_page p c f) s d a t e (r, m, now, rest) = let q = sm s (Give p c r) m now in rw (q.0, q.1) at (does_exec (f r.done) m d a t e rest)
  does_exec (take_change p f) s d a t e (r, m, now, rest) = let q = sm s (TakeChange p r) m now in rw (q.0, q.1) at (does_exec (f r) m d a t e rest)
  does_exec (fetch_page p off len f) s d a t e (r, m, len_is, now, rest) =
      let q = sm s (Fetch p off r) m now in
      let all : r ≡ take len (drop off (host_bytes (sv s) p)) = q.0 ∙ ap (λ n. take n (drop off (host_bytes (sv s) p))) len_is in
      rw (all, q.1) at (does_exec (f r) m d a t e rest)
  does_exec (store_page p off bytes f) s d a t e (m, now, rest) = let q = sm s (Store p off bytes) m now in rw q at (does_exec f m d a t e rest)
  does_exec (put_page p f) s d a t e (m, now, rest) = let q = sm s (Put p) m now in rw q at (does_exec f m d a t e rest)
  does_exec (read_block n f) s d a t e (r, bytes, m, now, rest) =
      let q = was_read (dv d) n r bytes (dv m) (dm d (Read n r bytes) m now) in rw (q.0, q.1) at (does_exec (f (block_read r bytes)) s m a t e rest)
  does_exec (write_block n bytes f) s d a t e (r, m, now, rest) = let q = was_written (dv d) n bytes r (dv m) (dm d (Write n bytes r) m now) in rw (q.0, q.1) at (does_exec (f r) s m a t e rest)
