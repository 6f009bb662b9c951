-- What the setting of an entry does, seen from its views.
use Rattle.std.specs.Prelude.{◌≡◌, ℕ, Bool, Result, Ok, Err}
use Rattle.std.proofs.Common.{ap, subst}
use Rattle.cmm_types.specs.declared.turn.Why.TheVariants.{Busy as WasBusy}
use Rattle.cmm_io.specs.DiskView.{DiskView}
use Rattle.essa_state.specs.PageValue.{PageValue}
use Rattle.cmm_storage.specs.StorageView.{StorageView, Misses}
use Rattle.cmm_storage.specs.Program.{done, put_page, bind}
use Rattle.cmm_storage.specs.Views.{Seen, unbind}
use Rattle.guest_rules.specs.declared.parts.Parts.{Parts}
use Rattle.guest_rules.specs.declared.outcome.Gone.{Gone}
use Rattle.guest_rules.specs.declared.outcome.Placed.{Placed}
use Rattle.guest_rules.specs.declared.outcome.Placed.TheVariants.{Done as PlaceDone, Gone as PlaceGone, Again as PlaceAgain}
use Rattle.guest_rules.specs.Rows.{make_stable, rehint, mapped, resolve, resolve_stable}
use Rattle.guest_rules.proofs.Cases.TurnCases.{AllMay}
use Rattle.guest_rules.proofs.Rows.Held.{Stabled, IsUsed, seen_make_stable}
use Rattle.guest_rules.proofs.Rows.Taken.{CanBeUsed, WasTaken, FoundDiscarded, WasThere, all_may, seen_gone, stable_taken, settle}

abbrev pub ResolveOutcome : Parts → (page slot index : ℕ) → (writable : Bool) → StorageView → DiskView → Parts → Placed → StorageView → DiskView → Type 0
ResolveOutcome parts page slot index writable v d a PlaceDone w e = (found : PageValue) × WasThere (mapped parts page slot index writable) page found v d a w e
ResolveOutcome parts page slot index writable v d a PlaceGone w e = FoundDiscarded parts page v d a w e
ResolveOutcome parts page slot index writable v d a (PlaceAgain why) w e = (a ≡ parts) × AllMay v d w e × Misses v w × (e ≡ d)

seen_stable : (parts : Parts) (page slot index : ℕ) (writable : Bool) (v m n : StorageView) (d y : DiskView) (after : Parts) (went : Result Unit Gone) (a : Parts) (r : Placed) (w : StorageView)
    (e : DiskView)
    → CanBeUsed parts page v → IsUsed (mapped parts page slot index writable) page → WasTaken page v m → Stabled parts page m d after went n y
    → Seen (resolve_stable page slot index writable after went) n y (a, r) w e → ResolveOutcome parts page slot index writable v d a r w e
seen_stable parts page slot index writable v m n d y after (Ok u) a r w e can used taken (stays, tables, there, value) run =
    let x = stable_taken parts page v m n d y after can taken (stays, tables, there, value) in
    let moved : Seen {A = Parts × Placed} (bind (rehint (mapped parts page slot index writable) page) (λ q. put_page page (done (q, PlaceDone)))) n y (a, r) w e =
    subst (λ q. Seen {A = Parts × Placed} (bind (rehint (mapped q page slot index writable) page) (λ q. put_page page (done (q, PlaceDone)))) n y (a, r) w e) tables run in
    let run' : Seen {A = Parts × Placed} (bind (rehint (mapped parts page slot index writable) page) (λ q. put_page page (done (q, PlaceDone)))) n d (a, r) w e =
    subst (λ q. Seen {A = Parts × Placed} (bind (rehint (mapped parts page slot index writable) page) (λ q. put_page page (done (q, PlaceDone)))) n q (a, r) w e) stays.disk moved in
    let s = settle (mapped parts page slot index writable) PlaceDone page (m.values page) v n d (a, r) w e used x run' in
    rw s.answer (m.values page, s.is)
seen_stable parts page slot index writable v m n d y after (Err gone) a r w e can used taken (handled, lost) run =
    let s = seen_gone parts after PlaceGone page v m n d y (a, r) w e taken lost handled run in
    rw s.0 s.1

pub seen_resolve : (parts : Parts) (page slot index : ℕ) (writable : Bool) (v : StorageView) (d : DiskView) (a : Parts) (r : Placed) (w : StorageView) (e : DiskView)
    → CanBeUsed parts page v → IsUsed (mapped parts page slot index writable) page → Seen (resolve parts page slot index writable) v d (a, r) w e
    → ResolveOutcome parts page slot index writable v d a r w e
unfolding resolve
seen_resolve parts page slot index writable v d a r w e can used (Err busy, m, (keeps, misses, is_busy, held, may), (ea, em, ed)) =
    let er : r ≡ PlaceAgain (WasBusy page busy.word) = ap (λ q. q.1) ea in
    rw er (ap (λ q. q.0) ea, all_may page v w d e (rw em keeps) (rw em held) (rw em may) ed, rw em misses, ed)
seen_resolve parts page slot index writable v d a r w e can used (Ok u, m, (keeps, nothing, still, holds, may, is_value, quiet, _), run) =
    let x = unbind (make_stable parts page) (λ went. resolve_stable page slot index writable went.0 went.1) m d (a, r) w e run in
    let h = seen_make_stable parts page m d x.answer.0 x.answer.1 x.storage x.disk x.first in
    seen_stable parts page slot index writable v m x.storage d x.disk x.answer.0 x.answer.1 a r w e can used (record { keeps = keeps; may = may; quiet = quiet }) h x.second
