-- Laws of runs, for the crates of the turns: what reaches no disk runs beside any disk.
use Rattle.std.proofs.Common.{refl}
use Rattle.cmm_io.specs.DiskCall.{DiskCall}
use Rattle.cmm_storage.specs.StorageCall.{StorageCall}
use Rattle.cmm_storage.specs.Program.{Program, done, take_page, touch_page, order_page, take_change, fetch_page, store_page, put_page, read_block, write_block, Does, DoesAlone}

-- a run over a storage alone leaves any disk as it was
pub does_alone : {A S D : Type 0} (ss : S → StorageCall → S → Type 0) (ds : D → DiskCall → D → Type 0) (p : Program A) (s : S) (d : D) (a : A) (t : S) → DoesAlone ss p s a t → Does ss ds p s d a t d
does_alone ss ds (done x) s d a t (ea, es, ed) = (ea, es, refl)
does_alone ss ds (take_page p k) s d a t (r, n, now, rest) = (r, n, now, does_alone ss ds (k r) n d a t rest)
does_alone ss ds (touch_page p k) s d a t (r, n, now, rest) = (r, n, now, does_alone ss ds (k r) n d a t rest)
does_alone ss ds (order_page p c k) s d a t (r, n, now, rest) = (r, n, now, does_alone ss ds (k r.done) n d a t rest)
does_alone ss ds (take_change p k) s d a t (r, n, now, rest) = (r, n, now, does_alone ss ds (k r) n d a t rest)
does_alone ss ds (fetch_page p off len k) s d a t (r, n, len_is, now, rest) = (r, n, len_is, now, does_alone ss ds (k r) n d a t rest)
does_alone ss ds (store_page p off bytes k) s d a t (n, now, rest) = (n, now, does_alone ss ds k n d a t rest)
does_alone ss ds (put_page p k) s d a t (n, now, rest) = (n, now, does_alone ss ds k n d a t rest)
does_alone ss ds (read_block n k) s d a t (r, bytes, x, now, rest) = absurd now
does_alone ss ds (write_block n bytes k) s d a t (r, x, now, rest) = absurd now
