-- How many turns an unmap has left at least, over a storage that never misses.
use Rattle.std.specs.Prelude.{◌≡◌, ◌≤◌, ◌+◌, ℕ, refl}
use Rattle.std.proofs.Common.{sym, subst, ◌∙◌}
use Rattle.cmm_types.specs.declared.page.Tag.{Tag}
use Rattle.cmm_types.specs.declared.command.Op.TheVariants.{Unmap}
use Rattle.cmm_storage.specs.StorageView.{StorageView}
use Rattle.guest_maps.specs.MapsView.{slot_at}
use Rattle.guest_rules.specs.declared.processor.Phase.TheVariants.{Start, Fill, Room as AtRoom, Teardown}
use Rattle.guest_rules.specs.GuestState.{GuestState, processor_at}
use Rattle.guest_rules.specs.Turns.{mapping_pages}
use Rattle.guest_rules.specs.Alone.{pages_to_tear}
use Rattle.guest_rules.proofs.Cases.TurnCases.{Wants}
use Rattle.guest_rules.proofs.Bound.Ranks.{OpRank, no_tag, served, has_page, fills_own, has_none, has_lost, room_clean, pages_out_own}
use Rattle.guest_rules.proofs.Bound.Ranks.{needs_room, fills, pages_out, at_look, at_write, unmaps, tears, starts_not_fills, wants_not_unmap}

unmap_wants_none : (g : GuestState) (cpu number : ℕ) (tag : Tag) → Wants g cpu (Unmap number) tag → ⊥
unmap_wants_none g cpu number tag wants = wants_not_unmap g cpu (Unmap number) tag number wants refl

-- one that isn't answered yet has a turn for each page of its mapping, and one before
pub rank-unmaps : (g : GuestState) (v : StorageView) (cpu number left : ℕ) → (processor_at g cpu).phase ≡ Start → OpRank g v cpu (Unmap number) left
    → (pages_to_tear g cpu number Start + 1 ≤ left) × (2 ≤ left)
rank-unmaps g v cpu number left start (no_tag start' short none h) = absurd short
rank-unmaps g v cpu number left start (served has is h) = absurd (unmap_wants_none g cpu number has.tag has.wants)
rank-unmaps g v cpu number left start (has_page has h) = absurd (unmap_wants_none g cpu number has.tag has.wants)
rank-unmaps g v cpu number left start (fills_own page tag phase wants tagged h) = absurd (unmap_wants_none g cpu number tag wants)
rank-unmaps g v cpu number left start (has_none tag start' wants none some h) = absurd (unmap_wants_none g cpu number tag wants)
rank-unmaps g v cpu number left start (has_lost has h) = absurd (unmap_wants_none g cpu number has.tag has.wants)
rank-unmaps g v cpu number left start (room_clean next k h) = absurd (unmap_wants_none g cpu number k.needs.tag k.needs.wants)
rank-unmaps g v cpu number left start (pages_out_own out k h) = absurd (unmap_wants_none g cpu number k.tag k.wants)
rank-unmaps g v cpu number left start (needs_room k full h) = absurd (unmap_wants_none g cpu number k.tag k.wants)
rank-unmaps g v cpu number left start (fills page phase h) = absurd (starts_not_fills g cpu page start phase)
rank-unmaps g v cpu number left start (pages_out out at h) = let bad : Start ≡ AtRoom out = sym start ∙ at in absurd cc
rank-unmaps g v cpu number left start (at_look file index is looks h some) = absurd (cc is)
rank-unmaps g v cpu number left start (at_write file index page is phase h some) = absurd (cc is)
rank-unmaps g v cpu number left start (unmaps other is start' h some) =
    let same : other ≡ number = cc in (subst (λ n. pages_to_tear g cpu n Start + 1 ≤ left) same h, some)
rank-unmaps g v cpu number left start (tears other slot index is phase h some) = let bad : Start ≡ Teardown slot index = sym start ∙ phase in absurd cc

-- and one that was has one for each page from its index on
pub rank-tears : (g : GuestState) (v : StorageView) (cpu number slot index left : ℕ) → (processor_at g cpu).phase ≡ Teardown slot index → OpRank g v cpu (Unmap number) left
    → mapping_pages (slot_at g.parts.maps slot) ≤ left + index
rank-tears g v cpu number slot index left tear (no_tag start short none h) = absurd short
rank-tears g v cpu number slot index left tear (served has is h) = absurd (unmap_wants_none g cpu number has.tag has.wants)
rank-tears g v cpu number slot index left tear (has_page has h) = absurd (unmap_wants_none g cpu number has.tag has.wants)
rank-tears g v cpu number slot index left tear (fills_own page tag phase wants tagged h) = absurd (unmap_wants_none g cpu number tag wants)
rank-tears g v cpu number slot index left tear (has_none tag start wants none some h) = absurd (unmap_wants_none g cpu number tag wants)
rank-tears g v cpu number slot index left tear (has_lost has h) = absurd (unmap_wants_none g cpu number has.tag has.wants)
rank-tears g v cpu number slot index left tear (room_clean next k h) = absurd (unmap_wants_none g cpu number k.needs.tag k.needs.wants)
rank-tears g v cpu number slot index left tear (pages_out_own out k h) = absurd (unmap_wants_none g cpu number k.tag k.wants)
rank-tears g v cpu number slot index left tear (needs_room k full h) = absurd (unmap_wants_none g cpu number k.tag k.wants)
rank-tears g v cpu number slot index left tear (fills page phase h) = let bad : Teardown slot index ≡ Fill page = sym tear ∙ phase in absurd cc
rank-tears g v cpu number slot index left tear (pages_out out at h) = let bad : Teardown slot index ≡ AtRoom out = sym tear ∙ at in absurd cc
rank-tears g v cpu number slot index left tear (at_look file i is looks h some) = absurd (cc is)
rank-tears g v cpu number slot index left tear (at_write file i page is phase h some) = absurd (cc is)
rank-tears g v cpu number slot index left tear (unmaps other is start h some) = let bad : Start ≡ Teardown slot index = sym start ∙ tear in absurd cc
rank-tears g v cpu number slot index left tear (tears other at i is phase h some) =
    let both : Teardown at i ≡ Teardown slot index = sym phase ∙ tear in
    let slots : at ≡ slot = cc in
    let indices : i ≡ index = cc in
    subst (λ n. mapping_pages (slot_at g.parts.maps slot) ≤ left + n) indices (subst (λ n. mapping_pages (slot_at g.parts.maps n) ≤ left + i) slots h)
