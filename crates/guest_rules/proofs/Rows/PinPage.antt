-- What a pin or an unpin does to the page of its place, seen from its views.
use Rattle.std.specs.Prelude.{◌≡◌, ℕ, Bool, Result, Ok, Err}
use Rattle.std.proofs.Common.{ap, subst}
use Rattle.cmm_types.specs.declared.turn.Why.TheVariants.{Busy as WasBusy}
use Rattle.cmm_io.specs.DiskView.{DiskView}
use Rattle.essa_state.specs.PageValue.{PageValue}
use Rattle.cmm_storage.specs.StorageView.{StorageView, Misses}
use Rattle.cmm_storage.specs.Views.{Seen, unbind}
use Rattle.guest_rules.specs.declared.parts.Parts.{Parts}
use Rattle.guest_rules.specs.declared.outcome.Gone.{Gone}
use Rattle.guest_rules.specs.declared.outcome.Placed.{Placed}
use Rattle.guest_rules.specs.declared.outcome.Placed.TheVariants.{Done as PlaceDone, Gone as PlaceGone, Again as PlaceAgain}
use Rattle.guest_rules.specs.Rows.{make_stable, pinned, pin_page, pin_stable}
use Rattle.guest_rules.proofs.Cases.TurnCases.{AllMay}
use Rattle.guest_rules.proofs.Rows.Held.{Stabled, IsUsed, seen_make_stable}
use Rattle.guest_rules.proofs.Rows.Taken.{CanBeUsed, WasTaken, FoundDiscarded, WasThere, all_may, seen_gone, stable_taken, settle}

-- a pin never fails: it touches nothing
abbrev pub PinOutcome : Parts → (page slot index : ℕ) → (pins : Bool) → StorageView → DiskView → Parts → Placed → StorageView → DiskView → Type 0
PinOutcome parts page slot index pins v d a PlaceDone w e = (found : PageValue) × WasThere (pinned parts page slot index pins) page found v d a w e
PinOutcome parts page slot index pins v d a PlaceGone w e = FoundDiscarded parts page v d a w e
PinOutcome parts page slot index pins v d a (PlaceAgain why) w e = (a ≡ parts) × AllMay v d w e × Misses v w × (e ≡ d)

seen_stable : (parts : Parts) (page slot index : ℕ) (pins : Bool) (v m n : StorageView) (d y : DiskView) (after : Parts) (went : Result Unit Gone) (a : Parts) (r : Placed) (w : StorageView)
    (e : DiskView)
    → CanBeUsed parts page v → IsUsed (pinned parts page slot index pins) page → WasTaken page v m → Stabled parts page m d after went n y
    → Seen (pin_stable page slot index pins after went) n y (a, r) w e → PinOutcome parts page slot index pins v d a r w e
seen_stable parts page slot index pins v m n d y after (Ok u) a r w e can used taken (stays, tables, there, value) run =
    let x = stable_taken parts page v m n d y after can taken (stays, tables, there, value) in
    let moved : Seen (pin_stable page slot index pins parts (Ok tt)) n y (a, r) w e = subst (λ q. Seen (pin_stable page slot index pins q (Ok tt)) n y (a, r) w e) tables run in
    let run' : Seen (pin_stable page slot index pins parts (Ok tt)) n d (a, r) w e = subst (λ q. Seen (pin_stable page slot index pins parts (Ok tt)) n q (a, r) w e) stays.disk moved in
    let s = settle (pinned parts page slot index pins) PlaceDone page (m.values page) v n d (a, r) w e used x run' in
    rw s.answer (m.values page, s.is)
seen_stable parts page slot index pins v m n d y after (Err gone) a r w e can used taken (handled, lost) run =
    let s = seen_gone parts after PlaceGone page v m n d y (a, r) w e taken lost handled run in
    rw s.0 s.1

pub seen_pin_page : (parts : Parts) (page slot index : ℕ) (pins : Bool) (v : StorageView) (d : DiskView) (a : Parts) (r : Placed) (w : StorageView) (e : DiskView)
    → CanBeUsed parts page v → IsUsed (pinned parts page slot index pins) page → Seen (pin_page parts page slot index pins) v d (a, r) w e
    → PinOutcome parts page slot index pins v d a r w e
unfolding pin_page
seen_pin_page parts page slot index pins v d a r w e can used (Err busy, m, (keeps, misses, is_busy, held, may), (ea, em, ed)) =
    let er : r ≡ PlaceAgain (WasBusy page busy.word) = ap (λ q. q.1) ea in
    rw er (ap (λ q. q.0) ea, all_may page v w d e (rw em keeps) (rw em held) (rw em may) ed, rw em misses, ed)
seen_pin_page parts page slot index pins v d a r w e can used (Ok u, m, (keeps, nothing, still, holds, may, is_value, quiet, _), run) =
    let x = unbind (make_stable parts page) (λ went. pin_stable page slot index pins went.0 went.1) m d (a, r) w e run in
    let h = seen_make_stable parts page m d x.answer.0 x.answer.1 x.storage x.disk x.first in
    seen_stable parts page slot index pins v m x.storage d x.disk x.answer.0 x.answer.1 a r w e can used (record { keeps = keeps; may = may; quiet = quiet }) h x.second
