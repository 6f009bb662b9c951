-- Runs seen by the views alone, and a run of two programs taken apart.
use Rattle.std.specs.Prelude.{◌≡◌, ℕ, ◌≤◌, refl, Ok, Err}
use Rattle.std.proofs.Common.{subst, ap, sym, inl, inr, arith, ◌∙◌}
use Rattle.std.proofs.lemmas.Bool.{cases_eq}
use Rattle.cmm_io.specs.DiskCall.{DiskCall, Read, Write}
use Rattle.cmm_io.specs.DiskView.{DiskView, DiskFollows, DiskKeeps}
use Rattle.essa_state.specs.PageValue.{MayBecome}
use Rattle.essa_state.specs.Laws.PageValueLaws.{MayBecome-trans}
use Rattle.cmm_storage.specs.declared.storage.Trap.TheVariants.{Discarded, Paging, NoFrame}
use Rattle.cmm_storage.specs.StorageCall.{StorageCall, Take, Touch, Give, TakeChange, Fetch, Store, Put}
use Rattle.cmm_storage.specs.StorageView.{StorageView, Follows, Keeps}
use Rattle.cmm_storage.specs.Program.{Program, done, take_page, touch_page, order_page, take_change, fetch_page, store_page, put_page, read_block, write_block, Does, bind, block_read}

-- the program, run over the views
abbrev pub Seen : {A : Type 0} → Program A → StorageView → DiskView → A → StorageView → DiskView → Type 0
Seen p v d a w e = Does Follows DiskFollows p v d a w e

module _ {S D : Type 0} (ss : S → StorageCall → S → Type 0) (ds : D → DiskCall → D → Type 0) (sv : S → StorageView) (dv : D → DiskView)
    (sm : (s : S) (call : StorageCall) (t : S) → ss s call t → Follows (sv s) call (sv t))
    (dm : (d : D) (call : DiskCall) (e : D) → ds d call e → DiskFollows (dv d) call (dv e)) where
  pub does_seen : {A : Type 0} (p : Program A) (s : S) (d : D) (a : A) (t : S) (e : D) → Does ss ds p s d a t e → Seen p (sv s) (dv d) a (sv t) (dv e)
  does_seen (done x) s d a t e (ea, es, ed) = (ea, ap sv es, ap dv ed)
  does_seen (take_page p k) s d a t e (r, m, now, rest) = (r, sv m, sm s _ m now, does_seen (k r) m d a t e rest)
  does_seen (touch_page p k) s d a t e (r, m, now, rest) = (r, sv m, sm s _ m now, does_seen (k r) m d a t e rest)
  does_seen (order_page p c k) s d a t e (r, m, now, rest) = (r, sv m, sm s _ m now, does_seen (k r.done) m d a t e rest)
  does_seen (take_change p k) s d a t e (r, m, now, rest) = (r, sv m, sm s _ m now, does_seen (k r) m d a t e rest)
  does_seen (fetch_page p off len k) s d a t e (r, m, len_is, now, rest) = (r, sv m, len_is, sm s _ m now, does_seen (k r) m d a t e rest)
  does_seen (store_page p off bytes k) s d a t e (m, now, rest) = (sv m, sm s _ m now, does_seen k m d a t e rest)
  does_seen (put_page p k) s d a t e (m, now, rest) = (sv m, sm s _ m now, does_seen k m d a t e rest)
  does_seen (read_block n k) s d a t e (r, bytes, m, now, rest) = (r, bytes, dv m, dm d _ m now, does_seen (k (block_read r bytes)) s m a t e rest)
  does_seen (write_block n bytes k) s d a t e (r, m, now, rest) = (r, dv m, dm d _ m now, does_seen (k r) s m a t e rest)

-- where the first of two programs ended
pub record Between {A B : Type 0} (p : Program A) (f : A → Program B) (v : StorageView) (d : DiskView) (b : B) (w : StorageView) (e : DiskView) : Type 0 where
  pub answer : A
  pub storage : StorageView
  pub disk : DiskView
  pub first : Seen p v d answer storage disk
  pub second : Seen (f answer) storage disk b w e

pub unbind : {A B : Type 0} (p : Program A) (f : A → Program B) (v : StorageView) (d : DiskView) (b : B) (w : StorageView) (e : DiskView) → Seen (bind p f) v d b w e → Between p f v d b w e
unbind (done a) f v d b w e run = record { answer = a; storage = v; disk = d; first = (refl, refl, refl); second = run }
unbind (take_page p k) f v d b w e (r, m, now, rest) =
    let x = unbind (k r) f m d b w e rest in
    record { answer = x.answer; storage = x.storage; disk = x.disk; first = (r, m, now, x.first); second = x.second }
unbind (touch_page p k) f v d b w e (r, m, now, rest) =
    let x = unbind (k r) f m d b w e rest in
    record { answer = x.answer; storage = x.storage; disk = x.disk; first = (r, m, now, x.first); second = x.second }
unbind (order_page p c k) f v d b w e (r, m, now, rest) =
    let x = unbind (k r.done) f m d b w e rest in
    record { answer = x.answer; storage = x.storage; disk = x.disk; first = (r, m, now, x.first); second = x.second }
unbind (take_change p k) f v d b w e (r, m, now, rest) =
    let x = unbind (k r) f m d b w e rest in
    record { answer = x.answer; storage = x.storage; disk = x.disk; first = (r, m, now, x.first); second = x.second }
unbind (fetch_page p off len k) f v d b w e (r, m, len_is, now, rest) =
    let x = unbind (k r) f m d b w e rest in
    record { answer = x.answer; storage = x.storage; disk = x.disk; first = (r, m, len_is, now, x.first); second = x.second }
unbind (store_page p off bytes k) f v d b w e (m, now, rest) =
    let x = unbind k f m d b w e rest in
    record { answer = x.answer; storage = x.storage; disk = x.disk; first = (m, now, x.first); second = x.second }
unbind (put_page p k) f v d b w e (m, now, rest) =
    let x = unbind k f m d b w e rest in
    record { answer = x.answer; storage = x.storage; disk = x.disk; first = (m, now, x.first); second = x.second }
unbind (read_block n k) f v d b w e (r, bytes, m, now, rest) =
    let x = unbind (k (block_read r bytes)) f v m b w e rest in
    record { answer = x.answer; storage = x.storage; disk = x.disk; first = (r, bytes, m, now, x.first); second = x.second }
unbind (write_block n bytes k) f v d b w e (r, m, now, rest) =
    let x = unbind (k r) f v m b w e rest in
    record { answer = x.answer; storage = x.storage; disk = x.disk; first = (r, m, now, x.first); second = x.second }

-- the page that a call names
abbrev pub page_called : StorageCall → ℕ
page_called (Take page answer) = page
page_called (Touch page answer) = page
page_called (Give page code old) = page
page_called (TakeChange page changed) = page
page_called (Fetch page off bytes) = page
page_called (Store page off bytes) = page
page_called (Put page) = page

pub Follows-Keeps : (v : StorageView) (call : StorageCall) (w : StorageView) → Follows v call w → Keeps v (page_called call) w
Follows-Keeps v (Take page (Ok got)) w h = h.0
Follows-Keeps v (Take page (Err busy)) w h = h.0
Follows-Keeps v (Touch page (Ok got)) w h = h.0
Follows-Keeps v (Touch page (Err Discarded)) w h = h.0
Follows-Keeps v (Touch page (Err Paging)) w h = h.0
Follows-Keeps v (Touch page (Err (NoFrame looks))) w h = h.0
Follows-Keeps v (Give page code old) w h = h.0
Follows-Keeps v (TakeChange page changed) w h = h.0
Follows-Keeps v (Fetch page off bytes) w h = h.0
Follows-Keeps v (Store page off bytes) w h = h.0
Follows-Keeps v (Put page) w h = h.0

pub DiskFollows-Keeps : (d : DiskView) (call : DiskCall) (e : DiskView) → DiskFollows d call e → DiskKeeps d e
DiskFollows-Keeps d (Read block (Ok read) bytes) e h = h.0
DiskFollows-Keeps d (Read block (Err failed) bytes) e h = h.0
DiskFollows-Keeps d (Write block bytes (Ok written)) e h = h.0
DiskFollows-Keeps d (Write block bytes (Err failed)) e h = h.0

-- what a whole run keeps
pub record RunKeeps (v : StorageView) (d : DiskView) (w : StorageView) (e : DiskView) : Type 0 where
  pub pages : w.pages ≡ v.pages
  pub quiet : w.quiet ≡ v.quiet
  pub tells : w.tells ≡ v.tells
  pub faults : v.faults ≤ w.faults
  pub misses : v.misses ≤ w.misses
  pub blocks : e.count ≡ d.count
  pub disk_faults : d.faults ≤ e.faults

RunKeeps-refl : (v : StorageView) (d : DiskView) → RunKeeps v d v d
RunKeeps-refl v d = record { pages = refl; quiet = refl; tells = refl; faults = omega arith; misses = omega arith; blocks = refl; disk_faults = omega arith }

after_call : (v : StorageView) (d : DiskView) (page : ℕ) (m w : StorageView) (e : DiskView) → Keeps v page m → RunKeeps m d w e → RunKeeps v d w e
after_call v d page m w e k r = record {
  pages = r.pages ∙ k.pages;
  quiet = r.quiet ∙ k.quiet;
  tells = r.tells ∙ k.tells;
  faults = omega (arith, r.faults, k.faults);
  misses = omega (arith, r.misses, k.misses);
  blocks = r.blocks;
  disk_faults = r.disk_faults;
}

after_disk_call : (v : StorageView) (d m : DiskView) (w : StorageView) (e : DiskView) → DiskKeeps d m → RunKeeps v m w e → RunKeeps v d w e
after_disk_call v d m w e k r = record {
  pages = r.pages;
  quiet = r.quiet;
  tells = r.tells;
  faults = r.faults;
  misses = r.misses;
  blocks = r.blocks ∙ k.count;
  disk_faults = omega (arith, r.disk_faults, k.faults);
}

pub seen-keeps : {A : Type 0} (p : Program A) (v : StorageView) (d : DiskView) (a : A) (w : StorageView) (e : DiskView) → Seen p v d a w e → RunKeeps v d w e
seen-keeps (done x) v d a w e (ea, es, ed) = subst (λ q. RunKeeps v d q e) (sym es) (subst (λ q. RunKeeps v d v q) (sym ed) (RunKeeps-refl v d))
seen-keeps (take_page p k) v d a w e (r, m, now, rest) = after_call v d p m w e (Follows-Keeps v (Take p r) m now) (seen-keeps (k r) m d a w e rest)
seen-keeps (touch_page p k) v d a w e (r, m, now, rest) = after_call v d p m w e (Follows-Keeps v (Touch p r) m now) (seen-keeps (k r) m d a w e rest)
seen-keeps (order_page p c k) v d a w e (r, m, now, rest) = after_call v d p m w e (Follows-Keeps v (Give p c r) m now) (seen-keeps (k r.done) m d a w e rest)
seen-keeps (take_change p k) v d a w e (r, m, now, rest) = after_call v d p m w e (Follows-Keeps v (TakeChange p r) m now) (seen-keeps (k r) m d a w e rest)
seen-keeps (fetch_page p off len k) v d a w e (r, m, len_is, now, rest) = after_call v d p m w e (Follows-Keeps v (Fetch p off r) m now) (seen-keeps (k r) m d a w e rest)
seen-keeps (store_page p off bytes k) v d a w e (m, now, rest) = after_call v d p m w e (Follows-Keeps v (Store p off bytes) m now) (seen-keeps k m d a w e rest)
seen-keeps (put_page p k) v d a w e (m, now, rest) = after_call v d p m w e (Follows-Keeps v (Put p) m now) (seen-keeps k m d a w e rest)
seen-keeps (read_block n k) v d a w e (r, bytes, m, now, rest) = after_disk_call v d m w e (DiskFollows-Keeps d (Read n r bytes) m now) (seen-keeps (k (block_read r bytes)) v m a w e rest)
seen-keeps (write_block n bytes k) v d a w e (r, m, now, rest) = after_disk_call v d m w e (DiskFollows-Keeps d (Write n bytes r) m now) (seen-keeps (k r) v m a w e rest)

-- one call after another on the same page
pub Keeps-trans : (v w x : StorageView) (page : ℕ) → Keeps v page w → Keeps w page x → Keeps v page x
Keeps-trans v w x page a b = record {
  pages = b.pages ∙ a.pages;
  others = λ i h. MayBecome-trans _ _ _ (a.others i h) (b.others i h);
  faults = omega (arith, a.faults, b.faults);
  misses = omega (arith, a.misses, b.misses);
  quiet = b.quiet ∙ a.quiet;
  tells = b.tells ∙ a.tells;
}

pub Keeps-refl : (v : StorageView) (page : ℕ) → Keeps v page v
Keeps-refl v page = record { pages = refl; others = λ i h. inl refl; faults = omega arith; misses = omega arith; quiet = refl; tells = refl }

-- a call on a page, where the page itself may have changed as the host may change it
pub Keeps-may : (v w : StorageView) (page i : ℕ) → Keeps v page w → MayBecome (v.values page) (w.values page) → MayBecome (v.values i) (w.values i)
Keeps-may v w page i k m = elim (cases_eq i page) [ inl e ↦ rw e m | inr n ↦ k.others i n ]
