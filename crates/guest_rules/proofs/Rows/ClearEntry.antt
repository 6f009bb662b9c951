-- What the clearing of an entry does to the page that it showed, seen from its views.
use Rattle.std.specs.Prelude.{◌≡◌, ◌<◌, ℕ, ◌-◌, length, Result, Some, Ok, Err}
use Rattle.std.proofs.Common.{ap, subst, ◌∙◌}
use Rattle.cmm_types.specs.declared.page.Tag.{Tag}
use Rattle.cmm_types.specs.declared.turn.Why.TheVariants.{Busy as WasBusy}
use Rattle.cmm_types.specs.Sums.{one_if}
use Rattle.cmm_io.specs.DiskView.{DiskView}
use Rattle.essa_state.specs.PageValue.{PageValue}
use Rattle.cmm_storage.specs.StorageView.{StorageView, Misses}
use Rattle.cmm_storage.specs.Views.{Seen, unbind}
use Rattle.guest_pages.specs.PagesView.{info_at, with_writers}
use Rattle.guest_pages.specs.Laws.PagesLaws.{info_at-with_info_same, length-with_info}
use Rattle.guest_maps.specs.declared.slot.Pte.{Pte}
use Rattle.guest_rules.specs.declared.parts.Parts.{Parts}
use Rattle.guest_rules.specs.declared.outcome.Gone.{Gone}
use Rattle.guest_rules.specs.declared.outcome.Placed.{Placed}
use Rattle.guest_rules.specs.declared.outcome.Placed.TheVariants.{Done as PlaceDone, Gone as PlaceGone, Again as PlaceAgain}
use Rattle.guest_rules.specs.Rows.{make_stable, unmapped, clear_entry, clear_stable}
use Rattle.guest_rules.proofs.Cases.TurnCases.{AllMay}
use Rattle.guest_rules.proofs.Ready.Ready.{is_used}
use Rattle.guest_rules.proofs.Rows.Held.{Stabled, IsUsed, seen_make_stable}
use Rattle.guest_rules.proofs.Rows.Taken.{CanBeUsed, WasTaken, FoundDiscarded, WasThere, all_may, seen_gone, stable_taken, settle}

-- its page has a tag still
pub is_used_unmapped : (parts : Parts) (slot index : ℕ) (pte : Pte) (tag : Tag) → pte.page < length parts.pages.infos → (info_at parts.pages pte.page).tag ≡ Some tag
    → IsUsed (unmapped parts slot index pte) pte.page
unfolding unmapped with_writers
is_used_unmapped parts slot index pte tag below tagged =
    let info = record (info_at parts.pages pte.page) { writers = (info_at parts.pages pte.page).writers - one_if pte.writable } in
    is_used (unmapped parts slot index pte) pte.page tag (rw (length-with_info parts.pages pte.page info) below)
    (ap (λ q. q.tag) (info_at-with_info_same parts.pages pte.page info below) ∙ tagged)

abbrev pub ClearOutcome : Parts → (slot index : ℕ) → Pte → StorageView → DiskView → Parts → Placed → StorageView → DiskView → Type 0
ClearOutcome parts slot index pte v d a PlaceDone w e = (found : PageValue) × WasThere (unmapped parts slot index pte) pte.page found v d a w e
ClearOutcome parts slot index pte v d a PlaceGone w e = FoundDiscarded parts pte.page v d a w e
ClearOutcome parts slot index pte v d a (PlaceAgain why) w e = (a ≡ parts) × AllMay v d w e × Misses v w × (e ≡ d)

seen_stable : (parts : Parts) (slot index : ℕ) (pte : Pte) (v m n : StorageView) (d y : DiskView) (after : Parts) (went : Result Unit Gone) (a : Parts) (r : Placed) (w : StorageView)
    (e : DiskView)
    → CanBeUsed parts pte.page v → IsUsed (unmapped parts slot index pte) pte.page → WasTaken pte.page v m → Stabled parts pte.page m d after went n y
    → Seen (clear_stable slot index pte after went) n y (a, r) w e → ClearOutcome parts slot index pte v d a r w e
seen_stable parts slot index pte v m n d y after (Ok u) a r w e can used taken (stays, tables, there, value) run =
    let x = stable_taken parts pte.page v m n d y after can taken (stays, tables, there, value) in
    let moved : Seen (clear_stable slot index pte parts (Ok tt)) n y (a, r) w e = subst (λ q. Seen (clear_stable slot index pte q (Ok tt)) n y (a, r) w e) tables run in
    let run' : Seen (clear_stable slot index pte parts (Ok tt)) n d (a, r) w e = subst (λ q. Seen (clear_stable slot index pte parts (Ok tt)) n q (a, r) w e) stays.disk moved in
    let s = settle (unmapped parts slot index pte) PlaceDone pte.page (m.values pte.page) v n d (a, r) w e used x run' in
    rw s.answer (m.values pte.page, s.is)
seen_stable parts slot index pte v m n d y after (Err gone) a r w e can used taken (handled, lost) run =
    let s = seen_gone parts after PlaceGone pte.page v m n d y (a, r) w e taken lost handled run in
    rw s.0 s.1

pub seen_clear_entry : (parts : Parts) (slot index : ℕ) (pte : Pte) (v : StorageView) (d : DiskView) (a : Parts) (r : Placed) (w : StorageView) (e : DiskView)
    → CanBeUsed parts pte.page v → IsUsed (unmapped parts slot index pte) pte.page → Seen (clear_entry parts slot index pte) v d (a, r) w e
    → ClearOutcome parts slot index pte v d a r w e
unfolding clear_entry
seen_clear_entry parts slot index pte v d a r w e can used (Err busy, m, (keeps, misses, is_busy, held, may), (ea, em, ed)) =
    let er : r ≡ PlaceAgain (WasBusy pte.page busy.word) = ap (λ q. q.1) ea in
    rw er (ap (λ q. q.0) ea, all_may pte.page v w d e (rw em keeps) (rw em held) (rw em may) ed, rw em misses, ed)
seen_clear_entry parts slot index pte v d a r w e can used (Ok u, m, (keeps, nothing, still, holds, may, is_value, quiet, _), run) =
    let x = unbind (make_stable parts pte.page) (λ went. clear_stable slot index pte went.0 went.1) m d (a, r) w e run in
    let h = seen_make_stable parts pte.page m d x.answer.0 x.answer.1 x.storage x.disk x.first in
    seen_stable parts slot index pte v m x.storage d x.disk x.answer.0 x.answer.1 a r w e can used (record { keeps = keeps; may = may; quiet = quiet }) h x.second
