-- What a look at a page for a sync does, seen from its views.
use Rattle.std.specs.Prelude.{◌≡◌, ◌<◌, ℕ, length, Bool, true, false, None, Result, Ok, Err, refl}
use Rattle.std.proofs.Common.{sym, ap, subst, ◌∙◌}
use Rattle.cmm_types.specs.declared.page.Usage.TheVariants.{S}
use Rattle.cmm_types.specs.declared.turn.Why.TheVariants.{Busy as WasBusy}
use Rattle.cmm_io.specs.DiskView.{DiskView}
use Rattle.essa_state.specs.PageValue.{PageValue, MayBecome, is_lost}
use Rattle.cmm_storage.specs.StorageView.{StorageView, Keeps, Misses}
use Rattle.cmm_storage.specs.Views.{Seen, unbind, Keeps-trans}
use Rattle.guest_pages.specs.PagesView.{info_at, with_dirty}
use Rattle.guest_pages.specs.Laws.PagesLaws.{info_at-with_info_same}
use Rattle.guest_rules.specs.declared.parts.Parts.{Parts}
use Rattle.guest_rules.specs.declared.outcome.Gone.{Gone}
use Rattle.guest_rules.specs.declared.outcome.Synced.{Synced}
use Rattle.guest_rules.specs.declared.outcome.Synced.TheVariants.{Clean, Locked, Gone as WasGone, Waits as IsLocked, Again as SyncAgain}
use Rattle.guest_rules.specs.Rows.{make_stable, with_change}
use Rattle.guest_rules.specs.Syncs.{locked, sync_owned, sync_known, sync_changed, sync_stable}
use Rattle.guest_rules.proofs.Cases.TurnCases.{GivenBack, AllMay}
use Rattle.guest_rules.proofs.Rows.Held.{Stabled, seen_make_stable}
use Rattle.guest_rules.proofs.Rows.Taken.{CanBeUsed, WasTaken, FoundDiscarded, IsStable, WasThere, all_may, given_back, seen_gone, stable_taken, stable_same, settle}

-- the page is clean
pub record WasClean (parts : Parts) (page : ℕ) (v : StorageView) (d : DiskView) (w : StorageView) (e : DiskView) : Type 0 where
  pub found : PageValue
  pub is : WasThere parts page found v d parts w e
  pub unchanged : found.changed ≡ false
  pub clean : (info_at parts.pages page).dirty ≡ false

-- the page is dirty, and is locked
pub record WasLocked (parts : Parts) (page cpu : ℕ) (v : StorageView) (d : DiskView) (a : Parts) (w : StorageView) (e : DiskView) : Type 0 where
  pub found : PageValue
  pub may : MayBecome (v.values page) found
  pub back : GivenBack page v d w e
  pub there : is_lost found.contents ≡ false
  pub dirty : (info_at (with_change parts page found.changed).pages page).dirty ≡ true
  pub value : w.values page ≡ record found { usage = S; changed = false }
  pub tables : a ≡ locked (with_change parts page found.changed) page cpu

-- what became of a page that nobody has locked
abbrev pub LookOutcome : Parts → (page cpu : ℕ) → StorageView → DiskView → Parts → Synced → StorageView → DiskView → Type 0
LookOutcome parts page cpu v d a Clean w e = (a ≡ parts) × WasClean parts page v d w e
LookOutcome parts page cpu v d a Locked w e = WasLocked parts page cpu v d a w e
LookOutcome parts page cpu v d a WasGone w e = FoundDiscarded parts page v d a w e
LookOutcome parts page cpu v d a (IsLocked owner) w e = ⊥
LookOutcome parts page cpu v d a (SyncAgain why) w e = (a ≡ parts) × AllMay v d w e × Misses v w × (e ≡ d)

-- a page that is clean after its change bit moved into what is known of it was clean before, and unchanged
pub clean_before : (parts : Parts) (page : ℕ) (changed : Bool) → page < length parts.pages.infos → (info_at (with_change parts page changed).pages page).dirty ≡ false → changed ≡ false
unfolding with_dirty
clean_before parts page true below clean =
    let bad : true ≡ false = sym (ap (λ q. q.dirty) (info_at-with_info_same parts.pages page (record (info_at parts.pages page) { dirty = true }) below)) ∙ clean in cc
clean_before parts page false below clean = refl

-- parts the guest's tables, page the page, cpu the processor
module _ (parts : Parts) (page cpu : ℕ) where
  -- the change bit was taken, and not set
  seen_clean : (found : PageValue) (changed : Bool) (v n q : StorageView) (d : DiskView) (a : Parts) (r : Synced) (w : StorageView) (e : DiskView) → CanBeUsed parts page v → IsStable page found v n
      → Keeps n page q → changed ≡ (n.values page).changed → q.values page ≡ record (n.values page) { changed = false } → changed ≡ false
      → (info_at (with_change parts page changed).pages page).dirty ≡ false → Seen {A = Parts × Synced} (sync_known page cpu (with_change parts page changed) false) q d (a, r) w e
      → LookOutcome parts page cpu v d a r w e
  seen_clean found true v n q d a r w e can x keeps was value bad clean run = let wrong : true ≡ false = bad in absurd cc
  seen_clean found false v n q d a r w e can x keeps was value same clean run =
      let unchanged : found.changed ≡ false = sym (was ∙ ap (λ y. y.changed) x.value) in
      let still : q.values page ≡ n.values page = value ∙ ap (λ b. record (n.values page) { changed = b }) was in
      let s = settle parts Clean page found v q d (a, r) w e can.hinted (stable_same page found v n q x keeps still) run in
      let tables : a ≡ parts = s.is.rehinted.tables ∙ ap (λ b. with_change parts page b) unchanged in
      let is : WasThere parts page found v d parts w e = subst (λ y. WasThere parts page found v d y w e) tables s.is in
      rw s.answer (tables, record { found = found; is = is; unchanged = unchanged; clean = clean })

  -- the change bit was taken
  seen_known : (found : PageValue) (changed dirty : Bool) (v n q : StorageView) (d : DiskView) (a : Parts) (r : Synced) (w : StorageView) (e : DiskView) → page < length parts.pages.infos
      → CanBeUsed parts page v → IsStable page found v n → Keeps n page q → changed ≡ (n.values page).changed → q.values page ≡ record (n.values page) { changed = false }
      → (info_at (with_change parts page changed).pages page).dirty ≡ dirty → Seen {A = Parts × Synced} (sync_known page cpu (with_change parts page changed) dirty) q d (a, r) w e
      → LookOutcome parts page cpu v d a r w e
  seen_known found changed true v n q d a r w e below can x keeps was value dirty (o, (keeps', nothing, still, held, value'), (ea, em, ed)) =
      let er : r ≡ Locked = ap (λ y. y.1) ea in
      let changed_is : changed ≡ found.changed = was ∙ ap (λ y. y.changed) x.value in
      rw er (record {
        found = found;
        may = x.may;
        back = given_back page v w d e (rw em (Keeps-trans v n o page x.keeps (Keeps-trans n q o page keeps keeps'))) (rw em held) ed;
        there = x.there;
        dirty = subst (λ b. (info_at (with_change parts page b).pages page).dirty ≡ true) changed_is dirty;
        value = rw em (value' ∙ value ∙ ap (λ (y : PageValue). record y { changed = false }) x.value);
        tables = ap (λ y. y.0) ea ∙ ap (λ b. locked (with_change parts page b) page cpu) changed_is;
      })
  seen_known found changed false v n q d a r w e below can x keeps was value clean run =
      seen_clean found changed v n q d a r w e can x keeps was value (clean_before parts page changed below clean) clean run

  seen_stable : (v m n : StorageView) (d y : DiskView) (after : Parts) (went : Result Unit Gone) (a : Parts) (r : Synced) (w : StorageView) (e : DiskView) → page < length parts.pages.infos
      → CanBeUsed parts page v → WasTaken page v m → Stabled parts page m d after went n y → Seen (sync_stable page cpu after went) n y (a, r) w e → LookOutcome parts page cpu v d a r w e
  seen_stable v m n d y after (Ok u) a r w e below can taken (stays, tables, there, value) (changed, q, (keeps', nothing', still', holds', was, value', _), run) =
      let x = stable_taken parts page v m n d y after can taken (stays, tables, there, value) in
      let moved : Seen (sync_changed page cpu parts changed) q y (a, r) w e = subst (λ p. Seen (sync_changed page cpu p changed) q y (a, r) w e) tables run in
      let run' : Seen (sync_changed page cpu parts changed) q d (a, r) w e = subst (λ p. Seen (sync_changed page cpu parts changed) q p (a, r) w e) stays.disk moved in
      seen_known (m.values page) changed (info_at (with_change parts page changed).pages page).dirty v n q d a r w e below can x keeps' was value' refl run'
  seen_stable v m n d y after (Err gone) a r w e below can taken (handled, lost) run =
      let s = seen_gone parts after WasGone page v m n d y (a, r) w e taken lost handled run in
      rw s.0 s.1

  pub seen_look : (v : StorageView) (d : DiskView) (a : Parts) (r : Synced) (w : StorageView) (e : DiskView) → page < length parts.pages.infos → CanBeUsed parts page v
      → Seen (sync_owned parts page cpu None) v d (a, r) w e → LookOutcome parts page cpu v d a r w e
  seen_look v d a r w e below can (Err busy, m, (keeps, misses, is_busy, held, may), (ea, em, ed)) =
      let er : r ≡ SyncAgain (WasBusy page busy.word) = ap (λ q. q.1) ea in
      rw er (ap (λ q. q.0) ea, all_may page v w d e (rw em keeps) (rw em held) (rw em may) ed, rw em misses, ed)
  seen_look v d a r w e below can (Ok u, m, (keeps, nothing, still, holds, may, is_value, quiet, _), run) =
      let x = unbind (make_stable parts page) (λ went. sync_stable page cpu went.0 went.1) m d (a, r) w e run in
      let h = seen_make_stable parts page m d x.answer.0 x.answer.1 x.storage x.disk x.first in
      seen_stable v m x.storage d x.disk x.answer.0 x.answer.1 a r w e below can (record { keeps = keeps; may = may; quiet = quiet }) h x.second
