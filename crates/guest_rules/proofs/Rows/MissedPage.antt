-- Where a read or a write doesn't reach its page: what the turn did to it, seen from its views.
use Rattle.std.specs.Prelude.{◌≡◌, ◌⊎◌, ℕ, true, false, Result, Err}
use Rattle.std.proofs.Common.{sym, ap, inl, inr, ◌∙◌}
use Rattle.cmm_types.specs.declared.command.Cause.TheVariants.{Disk, Paging as PagingCause, NoPage}
use Rattle.cmm_types.specs.declared.turn.Why.TheVariants.{Busy as WasBusy, NoFrame as HadNoFrame}
use Rattle.cmm_io.specs.Faults.{HasRisen}
use Rattle.cmm_io.specs.DiskView.{DiskView}
use Rattle.essa_state.specs.PageValue.{PageValue, is_lost}
use Rattle.cmm_storage.specs.declared.storage.Busy.{Busy}
use Rattle.cmm_storage.specs.declared.storage.Trap.{Trap}
use Rattle.cmm_storage.specs.declared.storage.Trap.TheVariants.{Discarded, Paging, NoFrame}
use Rattle.cmm_storage.specs.StorageView.{StorageView, Follows, Misses}
use Rattle.cmm_storage.specs.StorageCall.{Take, Touch}
use Rattle.cmm_storage.specs.Program.{done, put_page, bind}
use Rattle.cmm_storage.specs.Views.{Seen}
use Rattle.guest_rules.specs.declared.parts.Parts.{Parts}
use Rattle.guest_rules.specs.declared.outcome.Missed.{Missed}
use Rattle.guest_rules.specs.declared.outcome.Missed.TheVariants.{Gone as WasGone, Again as MissedAgain, Fail as MissedFail}
use Rattle.guest_rules.specs.Rows.{rehint, missed_by}
use Rattle.guest_rules.proofs.Cases.TurnCases.{AllMay}
use Rattle.guest_rules.proofs.Rows.Taken.{CanBeUsed, FoundDiscarded, IsStable, WasThere, all_may, risen_around, misses_around, stable_same, settle}

-- why the page wasn't reached
abbrev pub MissOutcome : Parts → ℕ → StorageView → DiskView → Parts → Missed → StorageView → DiskView → Type 0
MissOutcome parts page v d a WasGone w e = FoundDiscarded parts page v d a w e
MissOutcome parts page v d a (MissedAgain why) w e = (((a ≡ parts) × AllMay v d w e × (e ≡ d)) ⊎ ((found : PageValue) × WasThere parts page found v d a w e)) × Misses v w
MissOutcome parts page v d a (MissedFail PagingCause) w e = ((found : PageValue) × WasThere parts page found v d a w e) × HasRisen v.faults w.faults
MissOutcome parts page v d a (MissedFail Disk) w e = ⊥
MissOutcome parts page v d a (MissedFail (NoPage pinned unslotted)) w e = ⊥

-- the answer of a read or write that didn't reach its page
abbrev pub IsMissed : {R : Type 0} → Parts → ℕ → StorageView → DiskView → Parts × Result R Missed → StorageView → DiskView → Type 0
IsMissed {R} parts page v d a w e = (missed : Missed) × (a.1 ≡ Err missed) × MissOutcome parts page v d a.0 missed w e

-- the page was busy
pub seen_busy : {R : Type 0} (parts : Parts) (page : ℕ) (v m : StorageView) (d : DiskView) (busy : Busy) (a : Parts × Result R Missed) (w : StorageView) (e : DiskView)
    → Follows v (Take page (Err busy)) m → Seen {A = Parts × Result R Missed} (done (parts, Err (MissedAgain (WasBusy page busy.word)))) m d a w e → IsMissed parts page v d a w e
seen_busy parts page v m d busy a w e (keeps, misses, is_busy, held, may) (ea, em, ed) =
    (MissedAgain (WasBusy page busy.word), ap (λ q. q.1) ea, (inl (ap (λ q. q.0) ea, all_may page v w d e (rw em keeps) (rw em held) (rw em may) ed, ed), rw em misses))

-- the page was made stable, but couldn't be touched
pub seen_untouched : {R : Type 0} (parts : Parts) (page : ℕ) (found : PageValue) (v n m : StorageView) (d : DiskView) (trap : Trap) (a : Parts × Result R Missed) (w : StorageView) (e : DiskView)
    → CanBeUsed parts page v → IsStable page found v n → Follows n (Touch page (Err trap)) m
    → Seen {A = Parts × Result R Missed} (bind (rehint parts page) (λ after. put_page page (done (after, Err (missed_by trap))))) m d a w e → IsMissed parts page v d a w e
seen_untouched parts page found v n m d Discarded a w e can x (keeps, nothing, still, same, lost, _) run =
    let bad : true ≡ false = sym lost ∙ ap (λ q. is_lost q.contents) x.value ∙ x.there in absurd cc
seen_untouched {R} parts page found v n m d Paging a w e can x (keeps, nothing, same, there, fresh, risen, _, _) run =
    let s = settle {R = Result R Missed} parts (Err (MissedFail PagingCause)) page found v m d a w e can.hinted (stable_same page found v n m x keeps same.1) run in
    (MissedFail PagingCause, s.answer, ((found, s.is), risen_around v.faults n.faults m.faults w.faults x.keeps.faults risen s.keeps.faults))
seen_untouched {R} parts page found v n m d (NoFrame looks) a w e can x (keeps, misses, same, there, fresh, _, _) run =
    let s = settle {R = Result R Missed} parts (Err (MissedAgain (HadNoFrame looks))) page found v m d a w e can.hinted (stable_same page found v n m x keeps same.1) run in
    (MissedAgain (HadNoFrame looks), s.answer, (inr (found, s.is), misses_around v n m w page x.keeps misses s.keeps))
