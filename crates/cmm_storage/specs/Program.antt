-- A turn as a program of calls on a guest's pages and disk: what it asks next depends on the answers so far.
use Rattle.std.specs.Prelude.{◌≡◌, ℕ, List, length, Bool, Result, Ok, Err}
use Rattle.cmm_io.specs.declared.failed.Failed.{Failed}
use Rattle.cmm_io.specs.DiskCall.{DiskCall, Read, Write}
use Rattle.essa_state.specs.declared.orders.Order.{Order as Code}
use Rattle.essa_state.specs.declared.orders.Old.{Old}
use Rattle.cmm_storage.specs.declared.storage.Busy.{Busy}
use Rattle.cmm_storage.specs.declared.storage.Trap.{Trap}
use Rattle.cmm_storage.specs.StorageCall.{StorageCall, Take, Touch, Give, TakeChange, Fetch, Store, Put}

-- of an order's answer a program looks only at whether the order was done
pub data Program (A : Type 0) : Type 0 where
  done : A → Program A
  take_page : ℕ → (Result Unit Busy → Program A) → Program A
  touch_page : ℕ → (Result Unit Trap → Program A) → Program A
  order_page : ℕ → Code → (Bool → Program A) → Program A
  take_change : ℕ → (Bool → Program A) → Program A
  fetch_page : ℕ → ℕ → ℕ → (List ℕ → Program A) → Program A
  store_page : ℕ → ℕ → List ℕ → Program A → Program A
  put_page : ℕ → Program A → Program A
  read_block : ℕ → (Result (List ℕ) Failed → Program A) → Program A
  write_block : ℕ → List ℕ → (Result Unit Failed → Program A) → Program A

-- what a read tells: where it failed, the bytes aren't looked at
abbrev pub block_read : Result Unit Failed → List ℕ → Result (List ℕ) Failed
block_read (Ok u) bytes = Ok bytes
block_read (Err failed) bytes = Err failed

-- the program, run from one storage and disk to another with this outcome, each call by its step relation
abbrev pub Does : {A S D : Type 0} → (S → StorageCall → S → Type 0) → (D → DiskCall → D → Type 0) → Program A → S → D → A → S → D → Type 0
Does ss ds (done a) s d b s' d' = (b ≡ a) × (s' ≡ s) × (d' ≡ d)
Does {A} {S} {D} ss ds (take_page p k) s d b s' d' = (r : Result Unit Busy) × (m : S) × ss s (Take p r) m × Does ss ds (k r) m d b s' d'
Does {A} {S} {D} ss ds (touch_page p k) s d b s' d' = (r : Result Unit Trap) × (m : S) × ss s (Touch p r) m × Does ss ds (k r) m d b s' d'
Does {A} {S} {D} ss ds (order_page p c k) s d b s' d' = (r : Old) × (m : S) × ss s (Give p c r) m × Does ss ds (k r.done) m d b s' d'
Does {A} {S} {D} ss ds (take_change p k) s d b s' d' = (r : Bool) × (m : S) × ss s (TakeChange p r) m × Does ss ds (k r) m d b s' d'
Does {A} {S} {D} ss ds (fetch_page p off len k) s d b s' d' = (r : List ℕ) × (m : S) × (length r ≡ len) × ss s (Fetch p off r) m × Does ss ds (k r) m d b s' d'
Does {A} {S} {D} ss ds (store_page p off bytes k) s d b s' d' = (m : S) × ss s (Store p off bytes) m × Does ss ds k m d b s' d'
Does {A} {S} {D} ss ds (put_page p k) s d b s' d' = (m : S) × ss s (Put p) m × Does ss ds k m d b s' d'
Does {A} {S} {D} ss ds (read_block n k) s d b s' d' = (r : Result Unit Failed) × (bytes : List ℕ) × (e : D) × ds d (Read n r bytes) e × Does ss ds (k (block_read r bytes)) s e b s' d'
Does {A} {S} {D} ss ds (write_block n bytes k) s d b s' d' = (r : Result Unit Failed) × (e : D) × ds d (Write n bytes r) e × Does ss ds (k r) s e b s' d'

-- the same over a storage alone: a program that reads or writes a block has no such run
abbrev pub DoesAlone : {A S : Type 0} → (S → StorageCall → S → Type 0) → Program A → S → A → S → Type 0
DoesAlone ss p s b t = Does {D = Unit} ss (λ d call e. ⊥) p s tt b t tt

-- one program after another
abbrev pub bind : {A B : Type 0} → Program A → (A → Program B) → Program B
bind (done a) f = f a
bind (take_page p k) f = take_page p (λ r. bind (k r) f)
bind (touch_page p k) f = touch_page p (λ r. bind (k r) f)
bind (order_page p c k) f = order_page p c (λ r. bind (k r) f)
bind (take_change p k) f = take_change p (λ r. bind (k r) f)
bind (fetch_page p off len k) f = fetch_page p off len (λ r. bind (k r) f)
bind (store_page p off bytes k) f = store_page p off bytes (bind k f)
bind (put_page p k) f = put_page p (bind k f)
bind (read_block n k) f = read_block n (λ r. bind (k r) f)
bind (write_block n bytes k) f = write_block n bytes (λ r. bind (k r) f)
