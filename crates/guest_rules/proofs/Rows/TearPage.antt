-- What the taking off of a page from a mapping of pages of its own does, seen from its views.
use Rattle.std.specs.Prelude.{◌≡◌, ℕ, Ok, Err}
use Rattle.std.proofs.Common.{ap}
use Rattle.cmm_types.specs.declared.turn.Why.TheVariants.{Busy as WasBusy}
use Rattle.cmm_io.specs.DiskView.{DiskView}
use Rattle.essa_state.specs.PageValue.{PageValue, IsMadeUnused, MayBecome}
use Rattle.cmm_storage.specs.StorageView.{StorageView, Misses}
use Rattle.cmm_storage.specs.Views.{Seen, Keeps-trans}
use Rattle.guest_rules.specs.declared.parts.Parts.{Parts}
use Rattle.guest_rules.specs.declared.outcome.Placed.{Placed}
use Rattle.guest_rules.specs.declared.outcome.Placed.TheVariants.{Done as PlaceDone, Gone as PlaceGone, Again as PlaceAgain}
use Rattle.guest_rules.specs.Rows.{freed, released, tear_page}
use Rattle.guest_rules.proofs.Cases.TurnCases.{GivenBack, AllMay}
use Rattle.guest_rules.proofs.Rows.Taken.{all_may, given_back}

-- the page was freed, with its swap slot
pub record WasTornOff (parts : Parts) (slot index page : ℕ) (v : StorageView) (d : DiskView) (a : Parts) (w : StorageView) (e : DiskView) : Type 0 where
  pub found : PageValue
  pub may : MayBecome (v.values page) found
  pub back : GivenBack page v d w e
  pub unused : IsMadeUnused found (w.values page)
  pub tables : a ≡ released (freed parts page) slot index

abbrev pub TearOutcome : Parts → (slot index page : ℕ) → StorageView → DiskView → Parts → Placed → StorageView → DiskView → Type 0
TearOutcome parts slot index page v d a PlaceDone w e = WasTornOff parts slot index page v d a w e
TearOutcome parts slot index page v d a PlaceGone w e = ⊥
TearOutcome parts slot index page v d a (PlaceAgain why) w e = (a ≡ parts) × AllMay v d w e × Misses v w × (e ≡ d)

pub seen_tear_page : (parts : Parts) (slot index page : ℕ) (v : StorageView) (d : DiskView) (a : Parts) (r : Placed) (w : StorageView) (e : DiskView)
    → Seen (tear_page parts slot index page) v d (a, r) w e → TearOutcome parts slot index page v d a r w e
unfolding tear_page
seen_tear_page parts slot index page v d a r w e (Err busy, m, (keeps, misses, is_busy, held, may), (ea, em, ed)) =
    let er : r ≡ PlaceAgain (WasBusy page busy.word) = ap (λ q. q.1) ea in
    rw er (ap (λ q. q.0) ea, all_may page v w d e (rw em keeps) (rw em held) (rw em may) ed, rw em misses, ed)
seen_tear_page parts slot index page v d a r w e (
  Ok u,
  m,
  (keeps, nothing, still, holds, may, is_value, quiet, _),
  (was, n, (keeps', nothing', still', holds', is_old, (was_done, unused), _, _), (o, (keeps'', nothing'', still'', held, kept), (ea, em, ed))),
) =
    let er : r ≡ PlaceDone = ap (λ q. q.1) ea in
    rw er (record {
      found = m.values page;
      may = may;
      back = given_back page v w d e (rw em (Keeps-trans v m o page keeps (Keeps-trans m n o page keeps' keeps''))) (rw em held) ed;
      unused = rw (em, kept) unused;
      tables = ap (λ q. q.0) ea;
    })
