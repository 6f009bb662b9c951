-- A run of two programs one after the other, taken apart.
use Rattle.std.specs.Prelude.{refl}
use Rattle.cmm_io.specs.DiskCall.{DiskCall}
use Rattle.cmm_storage.specs.StorageCall.{StorageCall}
use Rattle.cmm_storage.specs.Program.{Program, done, take_page, touch_page, order_page, take_change, fetch_page, store_page, put_page, read_block, write_block, block_read, bind, Does}

-- where the first of two programs ended
pub record Halfway {A B S D : Type 0} (ss : S → StorageCall → S → Type 0) (ds : D → DiskCall → D → Type 0) (p : Program A) (f : A → Program B) (s : S) (d : D) (b : B) (t : S) (e : D) : Type 0 where
  pub answer : A
  pub storage : S
  pub disk : D
  pub first : Does ss ds p s d answer storage disk
  pub second : Does ss ds (f answer) storage disk b t e

module _ {S D : Type 0} (ss : S → StorageCall → S → Type 0) (ds : D → DiskCall → D → Type 0) where
  pub halfway : {A B : Type 0} (p : Program A) (f : A → Program B) (s : S) (d : D) (b : B) (t : S) (e : D) → Does ss ds (bind p f) s d b t e → Halfway ss ds p f s d b t e
  halfway (done a) f s d b t e run = record { answer = a; storage = s; disk = d; first = (refl, refl, refl); second = run }
  halfway (take_page p k) f s d b t e (r, m, now, rest) =
      let x = halfway (k r) f m d b t e rest in
      record { answer = x.answer; storage = x.storage; disk = x.disk; first = (r, m, now, x.first); second = x.second }
  halfway (touch_page p k) f s d b t e (r, m, now, rest) =
      let x = halfway (k r) f m d b t e rest in
      record { answer = x.answer; storage = x.storage; disk = x.disk; first = (r, m, now, x.first); second = x.second }
  halfway (order_page p c k) f s d b t e (r, m, now, rest) =
      let x = halfway (k r.done) f m d b t e rest in
      record { answer = x.answer; storage = x.storage; disk = x.disk; first = (r, m, now, x.first); second = x.second }
  halfway (take_change p k) f s d b t e (r, m, now, rest) =
      let x = halfway (k r) f m d b t e rest in
      record { answer = x.answer; storage = x.storage; disk = x.disk; first = (r, m, now, x.first); second = x.second }
  halfway (fetch_page p off len k) f s d b t e (r, m, len_is, now, rest) =
      let x = halfway (k r) f m d b t e rest in
      record { answer = x.answer; storage = x.storage; disk = x.disk; first = (r, m, len_is, now, x.first); second = x.second }
  halfway (store_page p off bytes k) f s d b t e (m, now, rest) =
      let x = halfway k f m d b t e rest in
      record { answer = x.answer; storage = x.storage; disk = x.disk; first = (m, now, x.first); second = x.second }
  halfway (put_page p k) f s d b t e (m, now, rest) =
      let x = halfway k f m d b t e rest in
      record { answer = x.answer; storage = x.storage; disk = x.disk; first = (m, now, x.first); second = x.second }
  halfway (read_block n k) f s d b t e (r, bytes, m, now, rest) =
      let x = halfway (k (block_read r bytes)) f s m b t e rest in
      record { answer = x.answer; storage = x.storage; disk = x.disk; first = (r, bytes, m, now, x.first); second = x.second }
  halfway (write_block n bytes k) f s d b t e (r, m, now, rest) =
      let x = halfway (k r) f s m b t e rest in
      record { answer = x.answer; storage = x.storage; disk = x.disk; first = (r, m, now, x.first); second = x.second }
