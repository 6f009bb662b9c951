-- A run of one program and then of another is a run of both.
use Rattle.cmm_io.specs.DiskCall.{DiskCall}
use Rattle.cmm_storage.specs.StorageCall.{StorageCall}
use Rattle.cmm_storage.specs.Program.{Program, done, take_page, touch_page, order_page, take_change, fetch_page, store_page, put_page, read_block, write_block, Does, DoesAlone, bind, block_read}

pub does_bind : {A B S D : Type 0} (ss : S → StorageCall → S → Type 0) (ds : D → DiskCall → D → Type 0) (p : Program A) (f : A → Program B) (s : S) (d : D) (a : A) (m : S) (e : D) (b : B)
    (s' : S) (d' : D) → Does ss ds p s d a m e → Does ss ds (f a) m e b s' d' → Does ss ds (bind p f) s d b s' d'
does_bind {A} {B} {S} {D} ss ds (done x) f s d a m e b s' d' (ea, es, ed) next = rw (← ea, ← es, ← ed) next
does_bind ss ds (take_page p k) f s d a m e b s' d' (r, n, now, rest) next = (r, n, now, does_bind ss ds (k r) f n d a m e b s' d' rest next)
does_bind ss ds (touch_page p k) f s d a m e b s' d' (r, n, now, rest) next = (r, n, now, does_bind ss ds (k r) f n d a m e b s' d' rest next)
does_bind ss ds (order_page p c k) f s d a m e b s' d' (r, n, now, rest) next = (r, n, now, does_bind ss ds (k r.done) f n d a m e b s' d' rest next)
does_bind ss ds (take_change p k) f s d a m e b s' d' (r, n, now, rest) next = (r, n, now, does_bind ss ds (k r) f n d a m e b s' d' rest next)
does_bind ss ds (fetch_page p off len k) f s d a m e b s' d' (r, n, len_is, now, rest) next = (r, n, len_is, now, does_bind ss ds (k r) f n d a m e b s' d' rest next)
does_bind ss ds (store_page p off bytes k) f s d a m e b s' d' (n, now, rest) next = (n, now, does_bind ss ds k f n d a m e b s' d' rest next)
does_bind ss ds (put_page p k) f s d a m e b s' d' (n, now, rest) next = (n, now, does_bind ss ds k f n d a m e b s' d' rest next)
does_bind ss ds (read_block n k) f s d a m e b s' d' (r, bytes, x, now, rest) next = (r, bytes, x, now, does_bind ss ds (k (block_read r bytes)) f s x a m e b s' d' rest next)
does_bind ss ds (write_block n bytes k) f s d a m e b s' d' (r, x, now, rest) next = (r, x, now, does_bind ss ds (k r) f s x a m e b s' d' rest next)

-- the same where the first reaches no disk
pub does_bind_alone : {A B S D : Type 0} (ss : S → StorageCall → S → Type 0) (ds : D → DiskCall → D → Type 0) (p : Program A) (f : A → Program B) (s : S) (d : D) (a : A) (m : S) (b : B) (s' : S)
    (d' : D) → DoesAlone ss p s a m → Does ss ds (f a) m d b s' d' → Does ss ds (bind p f) s d b s' d'
does_bind_alone ss ds (done x) f s d a m b s' d' (ea, es, ed) next = rw (← ea, ← es) next
does_bind_alone ss ds (take_page p k) f s d a m b s' d' (r, n, now, rest) next = (r, n, now, does_bind_alone ss ds (k r) f n d a m b s' d' rest next)
does_bind_alone ss ds (touch_page p k) f s d a m b s' d' (r, n, now, rest) next = (r, n, now, does_bind_alone ss ds (k r) f n d a m b s' d' rest next)
does_bind_alone ss ds (order_page p c k) f s d a m b s' d' (r, n, now, rest) next = (r, n, now, does_bind_alone ss ds (k r.done) f n d a m b s' d' rest next)
does_bind_alone ss ds (take_change p k) f s d a m b s' d' (r, n, now, rest) next = (r, n, now, does_bind_alone ss ds (k r) f n d a m b s' d' rest next)
does_bind_alone ss ds (fetch_page p off len k) f s d a m b s' d' (r, n, len_is, now, rest) next = (r, n, len_is, now, does_bind_alone ss ds (k r) f n d a m b s' d' rest next)
does_bind_alone ss ds (store_page p off bytes k) f s d a m b s' d' (n, now, rest) next = (n, now, does_bind_alone ss ds k f n d a m b s' d' rest next)
does_bind_alone ss ds (put_page p k) f s d a m b s' d' (n, now, rest) next = (n, now, does_bind_alone ss ds k f n d a m b s' d' rest next)
does_bind_alone ss ds (read_block n k) f s d a m b s' d' (r, bytes, x, now, rest) next = absurd now
does_bind_alone ss ds (write_block n bytes k) f s d a m b s' d' (r, x, now, rest) next = absurd now

-- for `grind` and `search`
pub ruleset runs = (does_bind, does_bind_alone)
