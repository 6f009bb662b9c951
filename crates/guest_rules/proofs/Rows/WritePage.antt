-- What a write of a page's bytes does, seen from its views.
use Rattle.std.specs.Prelude.{◌≡◌, ℕ, List, true, false, Result, Ok, Err}
use Rattle.std.proofs.Common.{sym, ap, subst, ◌∙◌}
use Rattle.cmm_types.specs.declared.page.Usage.TheVariants.{S, U}
use Rattle.cmm_io.specs.DiskView.{DiskView}
use Rattle.essa_state.specs.PageValue.{PageValue, Bytes, MayBecome, is_blank}
use Rattle.cmm_storage.specs.declared.storage.Trap.{Trap}
use Rattle.cmm_storage.specs.StorageView.{StorageView, Follows, Keeps, bytes_of, stored_value}
use Rattle.cmm_types.specs.Bytes.{with_bytes}
use Rattle.cmm_storage.specs.StorageCall.{Touch}
use Rattle.cmm_storage.specs.Program.{done, put_page, bind}
use Rattle.cmm_storage.specs.Views.{Seen, unbind, Keeps-trans}
use Rattle.guest_pages.specs.PagesView.{info_at}
use Rattle.guest_rules.specs.declared.parts.Parts.{Parts}
use Rattle.guest_rules.specs.declared.outcome.Gone.{Gone}
use Rattle.guest_rules.specs.declared.outcome.Missed.{Missed}
use Rattle.guest_rules.specs.declared.outcome.Missed.TheVariants.{Gone as WasGone}
use Rattle.guest_rules.specs.Hint.{hint}
use Rattle.guest_rules.specs.Rows.{make_stable, rehint, dirtied, with_change, write_page, write_stable, write_touched}
use Rattle.guest_rules.proofs.Cases.TurnCases.{GivenBack}
use Rattle.guest_rules.proofs.Rows.Held.{IsUsed, Stabled, rehinted_value, seen_make_stable, seen_settle}
use Rattle.guest_rules.proofs.Rows.Taken.{CanBeUsed, WasTaken, IsStable, given_back, seen_gone, stable_taken, touched_stable}
use Rattle.guest_rules.proofs.Rows.MissedPage.{MissOutcome, seen_busy, seen_untouched}

-- a page that becomes dirty is stable, and stays as dirty
pub record CanBeDirty (parts : Parts) (page : ℕ) : Type 0 where
  pub stable : hint (info_at (dirtied parts page).pages page) ≡ S
  pub again : dirtied (dirtied parts page) page ≡ dirtied parts page

-- the bytes stand among those that the page was found with, and it is dirty
pub record HasWritten (parts : Parts) (page off : ℕ) (v : StorageView) (d : DiskView) (a : Parts) (w : StorageView) (e : DiskView) (bytes : List ℕ) : Type 0 where
  pub tables : a ≡ dirtied parts page
  pub back : GivenBack page v d w e
  pub found : PageValue
  pub may : MayBecome (v.values page) found
  pub all : List ℕ
  pub are : found.contents ≡ Bytes all
  pub value : w.values page ≡ record found { usage = S; changed = false; contents = Bytes (with_bytes all off bytes) }

abbrev pub WriteOutcome : Parts → ℕ → ℕ → List ℕ → StorageView → DiskView → Parts → Result Unit Missed → StorageView → DiskView → Type 0
WriteOutcome parts page off bytes v d a (Ok u) w e = HasWritten parts page off v d a w e bytes
WriteOutcome parts page off bytes v d a (Err missed) w e = MissOutcome parts page v d a missed w e

used_dirty : (parts : Parts) (page : ℕ) → CanBeDirty parts page → IsUsed (dirtied parts page) page
used_dirty parts page dirty false h = let bad : S ≡ U = sym dirty.stable ∙ h in cc
used_dirty parts page dirty true h = let bad : S ≡ U = sym dirty.stable ∙ ap (λ (q : Parts). hint (info_at q.pages page)) (sym dirty.again) ∙ h in cc

-- the page has the new bytes, and its change bit is set
record IsWritten (page off : ℕ) (bytes : List ℕ) (found : PageValue) (v o : StorageView) : Type 0 where
  keeps : Keeps v page o
  all : List ℕ
  are : found.contents ≡ Bytes all
  value : o.values page ≡ record found { usage = S; changed = true; contents = Bytes (with_bytes all off bytes) }

-- parts the guest's tables, page the page, off where in it, bytes what is written, v and w its storage before and after, d and e its disk before and after, a the tables after, r the answer
module _ (parts : Parts) (page off : ℕ) (bytes : List ℕ) (v : StorageView) (d : DiskView) (a : Parts) (r : Result Unit Missed) (w : StorageView) (e : DiskView) where
  -- its hint is told again, and it is given back
  settle_written : (found : PageValue) (o : StorageView) → CanBeDirty parts page → MayBecome (v.values page) found → IsWritten page off bytes found v o
      → Seen {A = Parts × Result Unit Missed} (bind (rehint (dirtied parts page) page) (λ after. put_page page (done (after, Ok tt)))) o d (a, r) w e → WriteOutcome parts page off bytes v d a r w e
  settle_written found o dirty may x run =
      let s = seen_settle {R = Result Unit Missed} (dirtied parts page) (Ok tt) page o d (a, r) w e (used_dirty parts page dirty) (ap (λ q. q.usage) x.value)
      (ap (λ q. is_blank q.contents) x.value) run in
      let tables : a ≡ dirtied parts page = s.tables ∙ ap (λ (q : PageValue). with_change (dirtied parts page) page q.changed) x.value ∙ dirty.again in
      let old : PageValue = record found { usage = S; changed = true; contents = Bytes (with_bytes x.all off bytes) } in
      let value : w.values page ≡ record found { usage = S; changed = false; contents = Bytes (with_bytes x.all off bytes) } =
      s.value ∙ ap (λ q. rehinted_value q page (o.values page)) tables ∙ ap (λ q. rehinted_value (dirtied parts page) page q) x.value
      ∙ ap (λ u. let q : PageValue = record old { usage = u; changed = false } in q) dirty.stable in
      rw s.answer (record {
        tables = tables;
        back = given_back page v w d e (Keeps-trans v o w page x.keeps s.keeps) s.held s.disk;
        found = found;
        may = may;
        all = x.all;
        are = x.are;
        value = value;
      })

  seen_touched : (found : PageValue) (n m : StorageView) (trap : Result Unit Trap) → CanBeUsed parts page v → CanBeDirty parts page → IsStable page found v n → Follows n (Touch page trap) m
      → Seen (write_touched page off bytes parts trap) m d (a, r) w e → WriteOutcome parts page off bytes v d a r w e
  seen_touched found n m (Ok u) can dirty x follows (o, (keeps, nothing, still, held, value, _), run) =
      let y = touched_stable page found v n m can.tells x follows in
      let stored : o.values page ≡ record found { usage = S; changed = true; contents = Bytes (with_bytes y.all off bytes) } =
      value
      ∙ ap (λ t. stored_value t (m.values page) off bytes) (y.stable.keeps.tells ∙ can.tells)
      ∙ ap (λ c. let q : PageValue = record (m.values page) { changed = true; contents = Bytes (with_bytes (bytes_of c) off bytes) } in q) y.here
      ∙ ap (λ (q : PageValue). let z : PageValue = record q { changed = true; contents = Bytes (with_bytes y.all off bytes) } in z) y.stable.value in
      settle_written found o dirty x.may (record { keeps = Keeps-trans v m o page y.stable.keeps keeps; all = y.all; are = y.are; value = stored }) run
  seen_touched found n m (Err trap) can dirty x follows run =
      let s = seen_untouched {R = Unit {0}} parts page found v n m d trap (a, r) w e can x follows run in
      rw s.1 s.2

  seen_stable : (m n : StorageView) (y : DiskView) (after : Parts) (went : Result Unit Gone) → CanBeUsed parts page v → CanBeDirty parts page → WasTaken page v m
      → Stabled parts page m d after went n y → Seen (write_stable page off bytes after went) n y (a, r) w e → WriteOutcome parts page off bytes v d a r w e
  seen_stable m n y after (Ok u) can dirty taken (stays, tables, there, value) (trap, o, follows, run) =
      let x = stable_taken parts page v m n d y after can taken (stays, tables, there, value) in
      let moved : Seen (write_touched page off bytes parts trap) o y (a, r) w e = subst (λ q. Seen (write_touched page off bytes q trap) o y (a, r) w e) tables run in
      let run' : Seen (write_touched page off bytes parts trap) o d (a, r) w e = subst (λ q. Seen (write_touched page off bytes parts trap) o q (a, r) w e) stays.disk moved in
      seen_touched (m.values page) n o trap can dirty x follows run'
  seen_stable m n y after (Err gone) can dirty taken (handled, lost) run =
      let s = seen_gone parts after (Err WasGone) page v m n d y (a, r) w e taken lost handled run in
      rw s.0 s.1

  pub seen_write_page : CanBeUsed parts page v → CanBeDirty parts page → Seen (write_page parts page off bytes) v d (a, r) w e → WriteOutcome parts page off bytes v d a r w e
  unfolding write_page
  seen_write_page can dirty (Err busy, m, follows, run) =
      let s = seen_busy {R = Unit {0}} parts page v m d busy (a, r) w e follows run in
      rw s.1 s.2
  seen_write_page can dirty (Ok u, m, (keeps, nothing, still, holds, may, is_value, quiet, _), run) =
      let x = unbind (make_stable parts page) (λ went. write_stable page off bytes went.0 went.1) m d (a, r) w e run in
      let h = seen_make_stable parts page m d x.answer.0 x.answer.1 x.storage x.disk x.first in
      seen_stable m x.storage x.disk x.answer.0 x.answer.1 can dirty (record { keeps = keeps; may = may; quiet = quiet }) h x.second
