-- What each call of a storage and of a disk keeps, a whole run keeps.
use Rattle.std.specs.Prelude.{◌≡◌, refl}
use Rattle.cmm_io.specs.DiskCall.{DiskCall}
use Rattle.cmm_storage.specs.StorageCall.{StorageCall}
use Rattle.cmm_storage.specs.Program.{Program, done, take_page, touch_page, order_page, take_change, fetch_page, store_page, put_page, read_block, write_block, block_read, Does}

module _ {S D : Type 0} (ss : S → StorageCall → S → Type 0) (ds : D → DiskCall → D → Type 0) (Keeps : S → D → S → D → Type 0)
    (same : (s : S) (d : D) (t : S) (e : D) → t ≡ s → e ≡ d → Keeps s d t e)
    (then : (s : S) (d : D) (m : S) (y : D) (t : S) (e : D) → Keeps s d m y → Keeps m y t e → Keeps s d t e)
    (called : (s : S) (d : D) (call : StorageCall) (t : S) → ss s call t → Keeps s d t d)
    (moved : (s : S) (d : D) (call : DiskCall) (e : D) → ds d call e → Keeps s d s e) where
  pub carried : {A : Type 0} (p : Program A) (s : S) (d : D) (a : A) (t : S) (e : D) → Does ss ds p s d a t e → Keeps s d t e
  carried (done x) s d a t e (ea, es, ed) = same s d t e es ed
  carried (take_page p f) s d a t e (r, m, now, rest) = then s d m d t e (called s d _ m now) (carried (f r) m d a t e rest)
  carried (touch_page p f) s d a t e (r, m, now, rest) = then s d m d t e (called s d _ m now) (carried (f r) m d a t e rest)
  carried (order_page p c f) s d a t e (r, m, now, rest) = then s d m d t e (called s d _ m now) (carried (f r.done) m d a t e rest)
  carried (take_change p f) s d a t e (r, m, now, rest) = then s d m d t e (called s d _ m now) (carried (f r) m d a t e rest)
  carried (fetch_page p off len f) s d a t e (r, m, len_is, now, rest) = then s d m d t e (called s d _ m now) (carried (f r) m d a t e rest)
  carried (store_page p off bytes f) s d a t e (m, now, rest) = then s d m d t e (called s d _ m now) (carried f m d a t e rest)
  carried (put_page p f) s d a t e (m, now, rest) = then s d m d t e (called s d _ m now) (carried f m d a t e rest)
  carried (read_block n f) s d a t e (r, bytes, y, now, rest) = then s d s y t e (moved s d _ y now) (carried (f (block_read r bytes)) s y a t e rest)
  carried (write_block n bytes f) s d a t e (r, y, now, rest) = then s d s y t e (moved s d _ y now) (carried (f r) s y a t e rest)

-- what each call of the storage keeps, whatever the disk does
module _ {S D : Type 0} (ss : S → StorageCall → S → Type 0) (ds : D → DiskCall → D → Type 0) (Keeps : S → S → Type 0)
    (same : (s t : S) → t ≡ s → Keeps s t) (then : (s m t : S) → Keeps s m → Keeps m t → Keeps s t)
    (each : (s : S) (call : StorageCall) (t : S) → ss s call t → Keeps s t) where
  pub storage_carried : {A : Type 0} (p : Program A) (s : S) (d : D) (a : A) (t : S) (e : D) → Does ss ds p s d a t e → Keeps s t
  storage_carried =
      carried ss ds (λ s d t e. Keeps s t) (λ s d t e es ed. same s t es) (λ s d m y t e. then s m t) (λ s d call t. each s call t) (λ s d call e is. same s s refl)
