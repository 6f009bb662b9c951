-- How a program's ends follow from the calls that missed on the way there.
use Rattle.std.specs.Prelude.{◌≡◌, ℕ, List, Bool, Option, Some, None, Result, Ok, Err}
use Rattle.std.proofs.Common.{sym, subst}
use Rattle.cmm_types.specs.declared.turn.Why.{Why}
use Rattle.cmm_types.specs.declared.turn.Why.TheVariants.{Busy as WasBusy, NoFrame as HadNoFrame}
use Rattle.cmm_io.specs.DiskCall.{DiskCall}
use Rattle.cmm_io.specs.declared.failed.Failed.{Failed}
use Rattle.cmm_storage.specs.declared.storage.Busy.{Busy}
use Rattle.cmm_storage.specs.declared.storage.Trap.{Trap}
use Rattle.cmm_storage.specs.declared.storage.Trap.TheVariants.{Discarded, Paging, NoFrame}
use Rattle.cmm_storage.specs.StorageCall.{StorageCall, Take, Touch}
use Rattle.cmm_storage.specs.Program.{Program, done, take_page, touch_page, order_page, take_change, fetch_page, store_page, put_page, read_block, write_block, Does, bind, block_read}
use Rattle.guest_rules.specs.Again.{Calls, none, more, IsCalled, HasMissed}

-- the call that missed last
abbrev pub after_take : ℕ → Result Unit Busy → Option Why → Option Why
after_take page (Ok u) last = last
after_take page (Err busy) last = Some (WasBusy page busy.word)

abbrev pub after_touch : Result Unit Trap → Option Why → Option Why
after_touch (Ok u) last = last
after_touch (Err Discarded) last = last
after_touch (Err Paging) last = last
after_touch (Err (NoFrame looks)) last = Some (HadNoFrame looks)

-- whatever the calls answer, this stands at the end of the program
abbrev pub Ends : {A : Type 0} → Program A → Option Why → (Option Why → A → Type 0) → Type 0
Ends (done a) last Q = Q last a
Ends (take_page p k) last Q = (r : Result Unit Busy) → Ends (k r) (after_take p r last) Q
Ends (touch_page p k) last Q = (r : Result Unit Trap) → Ends (k r) (after_touch r last) Q
Ends (order_page p c k) last Q = (r : Bool) → Ends (k r) last Q
Ends (take_change p k) last Q = (r : Bool) → Ends (k r) last Q
Ends (fetch_page p off len k) last Q = (r : List ℕ) → Ends (k r) last Q
Ends (store_page p off bytes k) last Q = Ends k last Q
Ends (put_page p k) last Q = Ends k last Q
Ends (read_block n k) last Q = (r : Result (List ℕ) Failed) → Ends (k r) last Q
Ends (write_block n bytes k) last Q = (r : Result Unit Failed) → Ends (k r) last Q

-- one program after another
pub ends_bind : {A B : Type 0} (p : Program A) (f : A → Program B) (last : Option Why) (Q : Option Why → B → Type 0) → Ends p last (λ l a. Ends (f a) l Q) → Ends (bind p f) last Q
ends_bind (done a) f last Q h = h
ends_bind (take_page p k) f last Q h = λ r. ends_bind (k r) f (after_take p r last) Q (h r)
ends_bind (touch_page p k) f last Q h = λ r. ends_bind (k r) f (after_touch r last) Q (h r)
ends_bind (order_page p c k) f last Q h = λ r. ends_bind (k r) f last Q (h r)
ends_bind (take_change p k) f last Q h = λ r. ends_bind (k r) f last Q (h r)
ends_bind (fetch_page p off len k) f last Q h = λ r. ends_bind (k r) f last Q (h r)
ends_bind (store_page p off bytes k) f last Q h = ends_bind k f last Q h
ends_bind (put_page p k) f last Q h = ends_bind k f last Q h
ends_bind (read_block n k) f last Q h = λ r. ends_bind (k r) f last Q (h r)
ends_bind (write_block n bytes k) f last Q h = λ r. ends_bind (k r) f last Q (h r)

-- what follows at every end
pub ends_map : {A : Type 0} (p : Program A) (last : Option Why) (P Q : Option Why → A → Type 0) → ((l : Option Why) (a : A) → P l a → Q l a) → Ends p last P → Ends p last Q
ends_map (done a) last P Q f h = f last a h
ends_map (take_page p k) last P Q f h = λ r. ends_map (k r) (after_take p r last) P Q f (h r)
ends_map (touch_page p k) last P Q f h = λ r. ends_map (k r) (after_touch r last) P Q f (h r)
ends_map (order_page p c k) last P Q f h = λ r. ends_map (k r) last P Q f (h r)
ends_map (take_change p k) last P Q f h = λ r. ends_map (k r) last P Q f (h r)
ends_map (fetch_page p off len k) last P Q f h = λ r. ends_map (k r) last P Q f (h r)
ends_map (store_page p off bytes k) last P Q f h = ends_map k last P Q f h
ends_map (put_page p k) last P Q f h = ends_map k last P Q f h
ends_map (read_block n k) last P Q f h = λ r. ends_map (k r) last P Q f (h r)
ends_map (write_block n bytes k) last P Q f h = λ r. ends_map (k r) last P Q f (h r)

module _ {S D : Type 0} (ss : S → StorageCall → S → Type 0) (ds : D → DiskCall → D → Type 0) where
  abbrev Last : S → Option Why → S → Type 0
  Last s None t = Unit {0}
  Last s (Some why) t = HasMissed ss s why t

  -- the calls so far, and the one of them that missed last
  record Way (s : S) (last : Option Why) (t : S) : Type 0 where
    calls : Calls ss s t
    missed : Last s last t

  later : (s m t : S) (call c : StorageCall) → IsCalled ss s call m → ss m c t → IsCalled ss s call t
  later s m t call c k step = record { before = k.before; after = k.after; sooner = k.sooner; called = k.called; later = more m t c k.later step }

  missed_later : (s m t : S) (last : Option Why) (c : StorageCall) → Last s last m → ss m c t → Last s last t
  missed_later s m t None c k step = tt
  missed_later s m t (Some (WasBusy page word)) c k step = later s m t _ c k step
  missed_later s m t (Some (HadNoFrame looks)) c (page, k) step = (page, later s m t _ c k step)

  way_on : (s m t : S) (last : Option Why) (c : StorageCall) → Way s last m → ss m c t → Way s last t
  way_on s m t last c way step = record { calls = more m t c way.calls step; missed = missed_later s m t last c way.missed step }

  just : (s m t : S) (call : StorageCall) → Calls ss s m → ss m call t → IsCalled ss s call t
  just s m t call calls step = record { before = m; after = t; sooner = calls; called = step; later = none }

  way_take : (s m t : S) (page : ℕ) (r : Result Unit Busy) (last : Option Why) → Way s last m → ss m (Take page r) t → Way s (after_take page r last) t
  way_take s m t page (Ok u) last way step = way_on s m t last _ way step
  way_take s m t page (Err busy) last way step = record { calls = more m t _ way.calls step; missed = just s m t _ way.calls step }

  way_touch : (s m t : S) (page : ℕ) (r : Result Unit Trap) (last : Option Why) → Way s last m → ss m (Touch page r) t → Way s (after_touch r last) t
  way_touch s m t page (Ok u) last way step = way_on s m t last _ way step
  way_touch s m t page (Err Discarded) last way step = way_on s m t last _ way step
  way_touch s m t page (Err Paging) last way step = way_on s m t last _ way step
  way_touch s m t page (Err (NoFrame looks)) last way step = record { calls = more m t _ way.calls step; missed = (page, just s m t _ way.calls step) }

  -- a run's end, and the way there
  abbrev Arrives : {A : Type 0} → (Option Why → A → Type 0) → S → A → S → Type 0
  Arrives Q s a t = (last : Option Why) × Q last a × Way s last t

  arrives : {A : Type 0} (p : Program A) (Q : Option Why → A → Type 0) (last : Option Why) (s m : S) (d : D) (a : A) (t : S) (e : D) → Way s last m → Ends p last Q → Does ss ds p m d a t e
      → Arrives Q s a t
  arrives (done x) Q last s m d a t e way h (ea, es, ed) = (last, subst (Q last) (sym ea) h, subst (Way s last) (sym es) way)
  arrives (take_page p k) Q last s m d a t e way h (r, n, now, rest) = arrives (k r) Q (after_take p r last) s n d a t e (way_take s m n p r last way now) (h r) rest
  arrives (touch_page p k) Q last s m d a t e way h (r, n, now, rest) = arrives (k r) Q (after_touch r last) s n d a t e (way_touch s m n p r last way now) (h r) rest
  arrives (order_page p c k) Q last s m d a t e way h (r, n, now, rest) = arrives (k r.done) Q last s n d a t e (way_on s m n last _ way now) (h r.done) rest
  arrives (take_change p k) Q last s m d a t e way h (r, n, now, rest) = arrives (k r) Q last s n d a t e (way_on s m n last _ way now) (h r) rest
  arrives (fetch_page p off len k) Q last s m d a t e way h (r, n, size, now, rest) = arrives (k r) Q last s n d a t e (way_on s m n last _ way now) (h r) rest
  arrives (store_page p off bytes k) Q last s m d a t e way h (n, now, rest) = arrives k Q last s n d a t e (way_on s m n last _ way now) h rest
  arrives (put_page p k) Q last s m d a t e way h (n, now, rest) = arrives k Q last s n d a t e (way_on s m n last _ way now) h rest
  arrives (read_block b k) Q last s m d a t e way h (r, bytes, x, now, rest) = arrives (k (block_read r bytes)) Q last s m x a t e way (h (block_read r bytes)) rest
  arrives (write_block b bytes k) Q last s m d a t e way h (r, x, now, rest) = arrives (k r) Q last s m x a t e way (h r) rest

  -- the call that an end names is one of the run's
  pub missed_in : {A : Type 0} (p : Program A) (Q : Option Why → A → Type 0) (why : Why) (s : S) (d : D) (a : A) (t : S) (e : D)
      → ((last : Option Why) → Q last a → last ≡ Some why) → Ends p None Q → Does ss ds p s d a t e → HasMissed ss s why t
  missed_in p Q why s d a t e names h run =
      let k = arrives p Q None s s d a t e (record { calls = none; missed = tt }) h run in
      subst (λ l. Last s l t) (names k.0 k.1) k.2.missed
