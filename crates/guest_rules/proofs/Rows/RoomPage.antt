-- What the making of room does to the page that goes, seen from its views.
use Rattle.std.specs.Prelude.{◌≡◌, ◌<◌, ◌⊎◌, ℕ, length, Bool, true, false, Result, Ok, Err, refl}
use Rattle.std.proofs.Common.{sym, ap, subst, ◌∙◌, inl, inr}
use Rattle.cmm_types.specs.declared.page.Usage.TheVariants.{S}
use Rattle.cmm_types.specs.declared.turn.Why.TheVariants.{Busy as WasBusy}
use Rattle.cmm_io.specs.DiskView.{DiskView}
use Rattle.essa_state.specs.PageValue.{PageValue, IsMadeUnused, MayBecome, is_lost}
use Rattle.cmm_storage.specs.StorageView.{StorageView, Keeps, Misses}
use Rattle.cmm_storage.specs.Program.{take_page}
use Rattle.cmm_storage.specs.Views.{Seen, unbind, Keeps-trans}
use Rattle.guest_pages.specs.PagesView.{info_at}
use Rattle.guest_rules.specs.declared.parts.Parts.{Parts}
use Rattle.guest_rules.specs.declared.outcome.Gone.{Gone}
use Rattle.guest_rules.specs.declared.outcome.Room.{Room}
use Rattle.guest_rules.specs.declared.outcome.Room.TheVariants.{Freed, Locked, Waits, NoPage, Again}
use Rattle.guest_rules.specs.Rows.{freed, make_stable, with_change}
use Rattle.guest_rules.specs.MakeRoom.{behind, locked_to_go, go_known, go_changed, go_stable, go_taken}
use Rattle.guest_rules.proofs.Cases.TurnCases.{GivenBack, AllMay}
use Rattle.guest_rules.proofs.Rows.Held.{Stabled, seen_make_stable}
use Rattle.guest_rules.proofs.Rows.SyncPage.{clean_before}
use Rattle.guest_rules.proofs.Rows.Taken.{CanBeUsed, WasTaken, FoundDiscarded, IsStable, all_may, given_back, seen_gone, stable_taken}

-- the page is clean, and was freed
pub record WasCleared (parts : Parts) (page : ℕ) (v : StorageView) (d : DiskView) (a : Parts) (w : StorageView) (e : DiskView) : Type 0 where
  pub found : PageValue
  pub may : MayBecome (v.values page) found
  pub back : GivenBack page v d w e
  pub there : is_lost found.contents ≡ false
  pub unchanged : found.changed ≡ false
  pub clean : (info_at parts.pages page).dirty ≡ false
  pub unused : IsMadeUnused found (w.values page)
  pub tables : a ≡ behind (freed parts page) page

-- the page is dirty, and was locked
pub record WasLockedToGo (parts : Parts) (page cpu : ℕ) (v : StorageView) (d : DiskView) (a : Parts) (w : StorageView) (e : DiskView) : Type 0 where
  pub found : PageValue
  pub may : MayBecome (v.values page) found
  pub back : GivenBack page v d w e
  pub there : is_lost found.contents ≡ false
  pub dirty : (info_at (with_change parts page found.changed).pages page).dirty ≡ true
  pub value : w.values page ≡ record found { usage = S; changed = false }
  pub tables : a ≡ locked_to_go (with_change parts page found.changed) page cpu

-- what became of the page that goes: it had been discarded or is clean, and is free; it is locked; or it was busy
abbrev pub GoOutcome : Parts → (page cpu : ℕ) → StorageView → DiskView → Parts → Room → StorageView → DiskView → Type 0
GoOutcome parts page cpu v d a Freed w e = FoundDiscarded parts page v d a w e ⊎ WasCleared parts page v d a w e
GoOutcome parts page cpu v d a (Locked its) w e = (its ≡ page) × WasLockedToGo parts page cpu v d a w e
GoOutcome parts page cpu v d a (Waits its owner) w e = ⊥
GoOutcome parts page cpu v d a (NoPage pinned unslotted) w e = ⊥
GoOutcome parts page cpu v d a (Again why) w e = (a ≡ parts) × AllMay v d w e × Misses v w × (e ≡ d)

-- parts the guest's tables, page the page, cpu the processor
module _ (parts : Parts) (page cpu : ℕ) where
  -- the change bit was taken, and not set
  seen_cleared : (found : PageValue) (changed : Bool) (v n q : StorageView) (d : DiskView) (a : Parts) (r : Room) (w : StorageView) (e : DiskView) → IsStable page found v n → Keeps n page q
      → changed ≡ (n.values page).changed → q.values page ≡ record (n.values page) { changed = false } → changed ≡ false → (info_at (with_change parts page changed).pages page).dirty ≡ false
      → Seen {A = Parts × Room} (go_known page cpu (with_change parts page changed) false) q d (a, r) w e → GoOutcome parts page cpu v d a r w e
  seen_cleared found true v n q d a r w e x keeps was value bad clean run = let wrong : true ≡ false = bad in absurd cc
  seen_cleared found false v n q d a r w e x keeps was value same clean
      (old, m, (keeps', nothing, still, holds, is_old, (was_done, unused), _, _), (o, (keeps'', nothing', still', held, kept), (ea, em, ed))) =
      let er : r ≡ Freed = ap (λ y. y.1) ea in
      let count : (q.values page).count ≡ found.count = ap (λ y. y.count) value ∙ ap (λ y. y.count) x.value in
      rw er (inr (record {
        found = found;
        may = x.may;
        back = given_back page v w d e (rw em (Keeps-trans v n o page x.keeps (Keeps-trans n q o page keeps (Keeps-trans q m o page keeps' keeps'')))) (rw em held) ed;
        there = x.there;
        unchanged = sym (was ∙ ap (λ y. y.changed) x.value);
        clean = clean;
        unused = rw (em, kept) (record { usage = unused.usage; changed = unused.changed; stands = unused.stands; count = unused.count ∙ count });
        tables = ap (λ y. y.0) ea;
      }))

  -- the change bit was taken
  seen_known : (found : PageValue) (changed dirty : Bool) (v n q : StorageView) (d : DiskView) (a : Parts) (r : Room) (w : StorageView) (e : DiskView) → page < length parts.pages.infos
      → IsStable page found v n → Keeps n page q → changed ≡ (n.values page).changed → q.values page ≡ record (n.values page) { changed = false }
      → (info_at (with_change parts page changed).pages page).dirty ≡ dirty → Seen {A = Parts × Room} (go_known page cpu (with_change parts page changed) dirty) q d (a, r) w e
      → GoOutcome parts page cpu v d a r w e
  seen_known found changed true v n q d a r w e below x keeps was value dirty (o, (keeps', nothing, still, held, kept), (ea, em, ed)) =
      let er : r ≡ Locked page = ap (λ y. y.1) ea in
      let changed_is : changed ≡ found.changed = was ∙ ap (λ y. y.changed) x.value in
      rw er (
        refl,
        record {
          found = found;
          may = x.may;
          back = given_back page v w d e (rw em (Keeps-trans v n o page x.keeps (Keeps-trans n q o page keeps keeps'))) (rw em held) ed;
          there = x.there;
          dirty = subst (λ b. (info_at (with_change parts page b).pages page).dirty ≡ true) changed_is dirty;
          value = rw em (kept ∙ value ∙ ap (λ (y : PageValue). record y { changed = false }) x.value);
          tables = ap (λ y. y.0) ea ∙ ap (λ b. locked_to_go (with_change parts page b) page cpu) changed_is;
        },
      )
  seen_known found changed false v n q d a r w e below x keeps was value clean run =
      seen_cleared found changed v n q d a r w e x keeps was value (clean_before parts page changed below clean) clean run

  seen_stable : (v m n : StorageView) (d y : DiskView) (after : Parts) (went : Result Unit Gone) (a : Parts) (r : Room) (w : StorageView) (e : DiskView) → page < length parts.pages.infos
      → CanBeUsed parts page v → WasTaken page v m → Stabled parts page m d after went n y → Seen (go_stable page cpu after went) n y (a, r) w e → GoOutcome parts page cpu v d a r w e
  seen_stable v m n d y after (Ok u) a r w e below can taken (stays, tables, there, value) (changed, q, (keeps', nothing', still', holds', was, value', _), run) =
      let x = stable_taken parts page v m n d y after can taken (stays, tables, there, value) in
      let moved : Seen (go_changed page cpu parts changed) q y (a, r) w e = subst (λ p. Seen (go_changed page cpu p changed) q y (a, r) w e) tables run in
      let run' : Seen (go_changed page cpu parts changed) q d (a, r) w e = subst (λ p. Seen (go_changed page cpu parts changed) q p (a, r) w e) stays.disk moved in
      seen_known (m.values page) changed (info_at (with_change parts page changed).pages page).dirty v n q d a r w e below x keeps' was value' refl run'
  seen_stable v m n d y after (Err gone) a r w e below can taken (handled, lost) run =
      let s = seen_gone parts after Freed page v m n d y (a, r) w e taken lost handled run in
      rw s.0 (inl s.1)

  -- the page that goes is taken
  pub seen_go : (v : StorageView) (d : DiskView) (a : Parts) (r : Room) (w : StorageView) (e : DiskView) → page < length parts.pages.infos → CanBeUsed parts page v
      → Seen (take_page page (go_taken parts page cpu)) v d (a, r) w e → GoOutcome parts page cpu v d a r w e
  seen_go v d a r w e below can (Err busy, m, (keeps, misses, is_busy, held, may), (ea, em, ed)) =
      let er : r ≡ Again (WasBusy page busy.word) = ap (λ q. q.1) ea in
      rw er (ap (λ q. q.0) ea, all_may page v w d e (rw em keeps) (rw em held) (rw em may) ed, rw em misses, ed)
  seen_go v d a r w e below can (Ok u, m, (keeps, nothing, still, holds, may, is_value, quiet, _), run) =
      let x = unbind (make_stable parts page) (λ went. go_stable page cpu went.0 went.1) m d (a, r) w e run in
      let h = seen_make_stable parts page m d x.answer.0 x.answer.1 x.storage x.disk x.first in
      seen_stable v m x.storage d x.disk x.answer.0 x.answer.1 a r w e below can (record { keeps = keeps; may = may; quiet = quiet }) h x.second
