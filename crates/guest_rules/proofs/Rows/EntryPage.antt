-- What a load and a store through an entry do, seen from their views.
use Rattle.std.specs.Prelude.{◌≡◌, ℕ, List, true, Result, Ok, Err, length, take, drop}
use Rattle.std.proofs.Common.{ap, ◌∙◌}
use Rattle.cmm_types.specs.declared.command.Cause.TheVariants.{Disk, Paging as PagingCause, NoPage}
use Rattle.cmm_types.specs.declared.turn.Why.TheVariants.{Busy as WasBusy, NoFrame as HadNoFrame}
use Rattle.cmm_io.specs.Faults.{HasRisen}
use Rattle.cmm_io.specs.DiskView.{DiskView}
use Rattle.essa_state.specs.PageValue.{PageValue, Bytes, MayBecome}
use Rattle.cmm_storage.specs.declared.storage.Trap.{Trap}
use Rattle.cmm_storage.specs.declared.storage.Trap.TheVariants.{Discarded, Paging, NoFrame}
use Rattle.cmm_storage.specs.StorageView.{StorageView, Follows, Misses, bytes_of, told, touched_contents}
use Rattle.cmm_types.specs.Bytes.{with_bytes}
use Rattle.cmm_storage.specs.StorageCall.{Touch}
use Rattle.cmm_storage.specs.Program.{done, put_page}
use Rattle.cmm_storage.specs.Views.{Seen, unbind, Keeps-trans}
use Rattle.guest_rules.specs.declared.parts.Parts.{Parts}
use Rattle.guest_rules.specs.declared.outcome.Missed.{Missed}
use Rattle.guest_rules.specs.declared.outcome.Missed.TheVariants.{Gone as WasGone, Again as MissedAgain, Fail as MissedFail}
use Rattle.guest_rules.specs.Rows.{handler, touch_missed, load_page, load_touched, store_through, store_touched}
use Rattle.guest_rules.proofs.Cases.TurnCases.{GivenBack, AllMay}
use Rattle.guest_rules.proofs.Rows.Values.{filled_may, touched_same}
use Rattle.guest_rules.proofs.Rows.Held.{seen_handler}
use Rattle.guest_rules.proofs.Rows.Taken.{CanBeUsed, WasTaken, FoundDiscarded, all_may, given_back, risen_around, misses_around, taken_same, seen_gone}

-- why the page wasn't reached. Its tables are as they were but where it had been discarded
abbrev pub EntryMiss : Parts → ℕ → StorageView → DiskView → Parts → Missed → StorageView → DiskView → Type 0
EntryMiss parts page v d a WasGone w e = FoundDiscarded parts page v d a w e
EntryMiss parts page v d a (MissedAgain why) w e = (a ≡ parts) × AllMay v d w e × Misses v w × (e ≡ d)
EntryMiss parts page v d a (MissedFail PagingCause) w e = (a ≡ parts) × AllMay v d w e × HasRisen v.faults w.faults
EntryMiss parts page v d a (MissedFail Disk) w e = ⊥
EntryMiss parts page v d a (MissedFail (NoPage pinned unslotted)) w e = ⊥

-- the answer of a load or store that didn't reach its page
abbrev IsMiss : {A : Type 0} → Parts → ℕ → StorageView → DiskView → Parts → Result A Missed → StorageView → DiskView → Type 0
IsMiss {A} parts page v d a r w e = (missed : Missed) × (r ≡ Err missed) × EntryMiss parts page v d a missed w e

seen_missed : {A : Type 0} (parts : Parts) (page : ℕ) (v m n : StorageView) (d : DiskView) (trap : Trap) (a : Parts × Result A Missed) (w : StorageView) (e : DiskView)
    → WasTaken page v m → Follows m (Touch page (Err trap)) n → Seen {A = Parts × Result A Missed} (touch_missed page parts trap) n d a w e → IsMiss parts page v d a.0 a.1 w e
seen_missed {A} parts page v m n d Discarded a w e taken (keeps, nothing, still, same, lost, _) run =
    let x = unbind (handler parts page) (λ q. put_page page (done (q, Err WasGone))) n d a w e run in
    let h = seen_handler parts page n d x.answer x.storage x.disk x.first in
    let s = seen_gone {R = Result A Missed} parts x.answer (Err WasGone) page v n x.storage d x.disk a w e (taken_same page v m n taken keeps same.1) (rw same.1 lost) h x.second in
    (WasGone, s.0, s.1)
seen_missed parts page v m n d Paging a w e taken (keeps, nothing, same, there, fresh, risen, _, _) (o, (keeps', nothing', still', held, value), (ea, em, ed)) =
    let after = taken_same page v m n taken keeps same.1 in
    let may : MayBecome (v.values page) (o.values page) = rw value after.may in (
      MissedFail PagingCause,
      ap (λ q. q.1) ea,
      (
        ap (λ q. q.0) ea,
        rw em (all_may page v o d e (Keeps-trans v n o page after.keeps keeps') held may ed),
        rw em (risen_around v.faults m.faults n.faults o.faults taken.keeps.faults risen keeps'.faults),
      ),
    )
seen_missed parts page v m n d (NoFrame looks) a w e taken (keeps, misses, same, there, fresh, _, _) (o, (keeps', nothing', still', held, value), (ea, em, ed)) =
    let after = taken_same page v m n taken keeps same.1 in
    let may : MayBecome (v.values page) (o.values page) = rw value after.may in (
      MissedAgain (HadNoFrame looks),
      ap (λ q. q.1) ea,
      (
        ap (λ q. q.0) ea,
        rw em (all_may page v o d e (Keeps-trans v n o page after.keeps keeps') held may ed),
        rw em (misses_around v m n o page taken.keeps misses keeps'),
        ed,
      ),
    )

-- the page's bytes
record HasBytes (page : ℕ) (v n : StorageView) : Type 0 where
  taken : WasTaken page v n
  all : List ℕ
  are : (n.values page).contents ≡ Bytes all

-- a touched page keeps its bytes
touched : (parts : Parts) (page : ℕ) (v m n : StorageView) → CanBeUsed parts page v → WasTaken page v m → Follows m (Touch page (Ok tt)) n → HasBytes page v n
touched parts page v m n can taken (keeps, nothing, holds, there, value, whole, _, _) =
    let filled = filled_may (v.values page) (m.values page) can.usage taken.may can.filled in
    let contents : touched_contents m.tells (m.values page).contents ≡ (m.values page).contents = touched_same m.tells (m.values page).contents filled there in
    let all = whole (taken.keeps.tells ∙ can.tells) in
    record { taken = taken_same page v m n taken keeps (value ∙ ap (λ q. record (m.values page) { contents = q }) contents); all = all.all; are = all.are }

-- bytes of those that the page has were loaded
pub record HasLoaded (page off len : ℕ) (v : StorageView) (d : DiskView) (w : StorageView) (e : DiskView) (bytes : List ℕ) : Type 0 where
  pub may : AllMay v d w e
  pub all : List ℕ
  pub are : (w.values page).contents ≡ Bytes all
  pub loaded : bytes ≡ take len (drop off all)

abbrev pub LoadOutcome : Parts → ℕ → ℕ → ℕ → StorageView → DiskView → Parts → Result (List ℕ) Missed → StorageView → DiskView → Type 0
LoadOutcome parts page off len v d a (Ok bytes) w e = (a ≡ parts) × HasLoaded page off len v d w e bytes
LoadOutcome parts page off len v d a (Err missed) w e = EntryMiss parts page v d a missed w e

load_touch : (parts : Parts) (page off len : ℕ) (v m n : StorageView) (d : DiskView) (trap : Result Unit Trap) (a : Parts) (r : Result (List ℕ) Missed) (w : StorageView) (e : DiskView)
    → CanBeUsed parts page v → WasTaken page v m → Follows m (Touch page trap) n → Seen (load_touched page off len parts trap) n d (a, r) w e → LoadOutcome parts page off len v d a r w e
load_touch parts page off len v m n d (Ok u) a r w e can taken follows
    (bytes, o, size, (keeps', nothing', still', held', bytes_are, _), (q, (keeps'', nothing'', still'', held'', value), (ea, em, ed))) =
    let x = touched parts page v m n can taken follows in
    let same : q.values page ≡ n.values page = value ∙ held'.1 in
    let may : MayBecome (v.values page) (q.values page) = rw same x.taken.may in
    let er : r ≡ Ok bytes = ap (λ q. q.1) ea in
    let loaded : bytes ≡ take len (drop off x.all) =
    bytes_are (x.taken.keeps.tells ∙ can.tells) ∙ ap (λ q. take (length bytes) (drop off (bytes_of q))) x.are ∙ ap (λ q. take q (drop off x.all)) size in
    rw er (
      ap (λ q. q.0) ea,
      record {
        may = rw em (all_may page v q d e (Keeps-trans v n q page x.taken.keeps (Keeps-trans n o q page keeps' keeps'')) held'' may ed);
        all = x.all;
        are = rw em (ap (λ q. q.contents) same ∙ x.are);
        loaded = loaded;
      },
    )
load_touch parts page off len v m n d (Err trap) a r w e can taken follows run =
    let s = seen_missed parts page v m n d trap (a, r) w e taken follows run in
    rw s.1 s.2

pub seen_load_page : (parts : Parts) (page off len : ℕ) (v : StorageView) (d : DiskView) (a : Parts) (r : Result (List ℕ) Missed) (w : StorageView) (e : DiskView)
    → CanBeUsed parts page v → Seen (load_page parts page off len) v d (a, r) w e → LoadOutcome parts page off len v d a r w e
unfolding load_page
seen_load_page parts page off len v d a r w e can (Err busy, m, (keeps, misses, is_busy, held, may), (ea, em, ed)) =
    let er : r ≡ Err (MissedAgain (WasBusy page busy.word)) = ap (λ q. q.1) ea in
    rw er (ap (λ q. q.0) ea, all_may page v w d e (rw em keeps) (rw em held) (rw em may) ed, rw em misses, ed)
seen_load_page parts page off len v d a r w e can (Ok u, m, (keeps, nothing, still, holds, may, is_value, quiet, _), (trap, n, follows, run)) =
    load_touch parts page off len v m n d trap a r w e can (record { keeps = keeps; may = may; quiet = quiet }) follows run

-- the bytes stand among those that the page was found with, and its change bit is set
pub record HasStored (page off : ℕ) (v : StorageView) (d : DiskView) (w : StorageView) (e : DiskView) (bytes : List ℕ) : Type 0 where
  pub back : GivenBack page v d w e
  pub found : PageValue
  pub may : MayBecome (v.values page) found
  pub all : List ℕ
  pub are : found.contents ≡ Bytes all
  pub value : w.values page ≡ record found { changed = true; contents = Bytes (with_bytes all off bytes) }

abbrev pub StoreOutcome : Parts → ℕ → ℕ → List ℕ → StorageView → DiskView → Parts → Result Unit Missed → StorageView → DiskView → Type 0
StoreOutcome parts page off bytes v d a (Ok u) w e = (a ≡ parts) × HasStored page off v d w e bytes
StoreOutcome parts page off bytes v d a (Err missed) w e = EntryMiss parts page v d a missed w e

store_touch : (parts : Parts) (page off : ℕ) (bytes : List ℕ) (v m n : StorageView) (d : DiskView) (trap : Result Unit Trap) (a : Parts) (r : Result Unit Missed) (w : StorageView) (e : DiskView)
    → CanBeUsed parts page v → WasTaken page v m → Follows m (Touch page trap) n → Seen (store_touched page off bytes parts trap) n d (a, r) w e → StoreOutcome parts page off bytes v d a r w e
store_touch parts page off bytes v m n d (Ok u) a r w e can taken follows (o, (keeps', nothing', still', held', value', _), (q, (keeps'', nothing'', still'', held'', value), (ea, em, ed))) =
    let x = touched parts page v m n can taken follows in
    let er : r ≡ Ok tt = ap (λ q. q.1) ea in
    let stored : Bytes (told n.tells (with_bytes (bytes_of (n.values page).contents) off bytes)) ≡ Bytes (with_bytes x.all off bytes) =
    ap (λ q. Bytes (told q (with_bytes (bytes_of (n.values page).contents) off bytes))) (x.taken.keeps.tells ∙ can.tells) ∙ ap (λ q. Bytes (with_bytes (bytes_of q) off bytes)) x.are in
    rw er (
      ap (λ q. q.0) ea,
      record {
        back = given_back page v w d e (rw em (Keeps-trans v n q page x.taken.keeps (Keeps-trans n o q page keeps' keeps''))) (rw em held'') ed;
        found = n.values page;
        may = x.taken.may;
        all = x.all;
        are = x.are;
        value = rw em (value ∙ value' ∙ ap (λ q. record (n.values page) { changed = true; contents = q }) stored);
      },
    )
store_touch parts page off bytes v m n d (Err trap) a r w e can taken follows run =
    let s = seen_missed parts page v m n d trap (a, r) w e taken follows run in
    rw s.1 s.2

pub seen_store_through : (parts : Parts) (page off : ℕ) (bytes : List ℕ) (v : StorageView) (d : DiskView) (a : Parts) (r : Result Unit Missed) (w : StorageView) (e : DiskView)
    → CanBeUsed parts page v → Seen (store_through parts page off bytes) v d (a, r) w e → StoreOutcome parts page off bytes v d a r w e
unfolding store_through
seen_store_through parts page off bytes v d a r w e can (Err busy, m, (keeps, misses, is_busy, held, may), (ea, em, ed)) =
    let er : r ≡ Err (MissedAgain (WasBusy page busy.word)) = ap (λ q. q.1) ea in
    rw er (ap (λ q. q.0) ea, all_may page v w d e (rw em keeps) (rw em held) (rw em may) ed, rw em misses, ed)
seen_store_through parts page off bytes v d a r w e can (Ok u, m, (keeps, nothing, still, holds, may, is_value, quiet, _), (trap, n, follows, run)) =
    store_touch parts page off bytes v m n d trap a r w e can (record { keeps = keeps; may = may; quiet = quiet }) follows run
