-- How many turns are left at least while a guest has no free page, over a storage that never misses.
use Rattle.std.specs.Prelude.{◌≡◌, ◌⊎◌, ◌≤◌, ℕ, false, true, Some}
use Rattle.std.proofs.Common.{arith, inl, inr, sym, subst, ◌∙◌}
use Rattle.cmm_types.specs.declared.page.Tag.{Tag}
use Rattle.cmm_types.specs.declared.command.Op.{Op}
use Rattle.cmm_storage.specs.StorageView.{StorageView}
use Rattle.guest_pages.specs.PagesView.{info_at}
use Rattle.guest_rules.specs.declared.processor.Phase.TheVariants.{Start, Fill, Room as AtRoom, SyncWrite, Teardown}
use Rattle.guest_rules.specs.GuestState.{GuestState, processor_at}
use Rattle.guest_rules.proofs.Cases.TurnCases.{SeeksRoom, Goes}
use Rattle.guest_rules.proofs.Causes.SyncPhases.{looks_not_pages_out}
use Rattle.guest_rules.proofs.Bound.Ranks.{OpRank, no_tag, served, has_page, fills_own, has_none, has_lost, room_clean, pages_out_own, needs_room, fills, pages_out}
use Rattle.guest_rules.proofs.Bound.Ranks.{at_look, at_write, unmaps, tears, PagesOutOwn, not_none, starts_not_fills, wants_not_none, wants_not_sync, wants_not_unmap}

-- a processor whose command needs room has at least 5 turns left
pub rank-seeks : (g : GuestState) (v : StorageView) (cpu : ℕ) (op : Op) (left : ℕ) → SeeksRoom g cpu op → OpRank g v cpu op left → 5 ≤ left
rank-seeks g v cpu op left k (no_tag start short none h) = absurd (wants_not_none g cpu op k.tag k.wants none)
rank-seeks g v cpu op left k (served has is h) = absurd (not_none g v cpu op false k.tag k.wants k.none has)
rank-seeks g v cpu op left k (has_page has h) = absurd (not_none g v cpu op false k.tag k.wants k.none has)
rank-seeks g v cpu op left k (fills_own page tag phase wants tagged h) = absurd (starts_not_fills g cpu page k.starts.start phase)
rank-seeks g v cpu op left k (has_none tag start wants none some h) = absurd (some k.full)
rank-seeks g v cpu op left k (has_lost has h) = h
rank-seeks g v cpu op left k (room_clean page its h) = h
rank-seeks g v cpu op left k (pages_out_own page its h) = omega (arith, h)
rank-seeks g v cpu op left k (needs_room needs full h) = omega (arith, h)
rank-seeks g v cpu op left k (fills page phase h) = omega (arith, h)
rank-seeks g v cpu op left k (pages_out page phase h) = omega (arith, h)
rank-seeks g v cpu op left k (at_look file index is looks h some) = absurd (wants_not_sync g cpu op k.tag file k.wants is)
rank-seeks g v cpu op left k (at_write file index page is phase h some) = absurd (wants_not_sync g cpu op k.tag file k.wants is)
rank-seeks g v cpu op left k (unmaps number is start h some) = absurd (wants_not_unmap g cpu op k.tag number k.wants is)
rank-seeks g v cpu op left k (tears number slot index is phase h some) = absurd (wants_not_unmap g cpu op k.tag number k.wants is)

-- the page is known to be dirty, or is changed
abbrev pub IsUnclean : GuestState → StorageView → (page : ℕ) → Type 0
IsUnclean g v page = (info_at g.parts.pages page).dirty ≡ false → (v.values page).changed ≡ false → ⊥

starts_not_out : (g : GuestState) (cpu page : ℕ) → (processor_at g cpu).phase ≡ Start → (processor_at g cpu).phase ≡ AtRoom page → ⊥
starts_not_out g cpu page start out = let bad : Start ≡ AtRoom page = sym start ∙ out in cc

-- and 7 where the page that goes has to be written first
pub rank-unclean : (g : GuestState) (v : StorageView) (cpu : ℕ) (op : Op) (tag : Tag) (page left : ℕ) → SeeksRoom g cpu op → Goes g tag page → IsUnclean g v page → OpRank g v cpu op left → 7 ≤ left
rank-unclean g v cpu op tag page left k goes unclean (no_tag start short none h) = absurd (wants_not_none g cpu op k.tag k.wants none)
rank-unclean g v cpu op tag page left k goes unclean (served has is h) = absurd (not_none g v cpu op false k.tag k.wants k.none has)
rank-unclean g v cpu op tag page left k goes unclean (has_page has h) = absurd (not_none g v cpu op false k.tag k.wants k.none has)
rank-unclean g v cpu op tag page left k goes unclean (fills_own page' tag' phase wants tagged h) = absurd (starts_not_fills g cpu page' k.starts.start phase)
rank-unclean g v cpu op tag page left k goes unclean (has_none tag' start wants none some h) = absurd (some k.full)
rank-unclean g v cpu op tag page left k goes unclean (has_lost has h) = absurd (not_none g v cpu op true k.tag k.wants k.none has)
rank-unclean g v cpu op tag page left k goes unclean (room_clean page' its h) =
    let both : Some page' ≡ Some page = sym its.first ∙ goes.first in
    let same : page' ≡ page = cc in
    absurd (unclean (subst (λ n. (info_at g.parts.pages n).dirty ≡ false) same its.clean) (subst (λ n. (v.values n).changed ≡ false) same its.unchanged))
rank-unclean g v cpu op tag page left k goes unclean (pages_out_own page' its h) = absurd (starts_not_out g cpu page' k.starts.start its.phase)
rank-unclean g v cpu op tag page left k goes unclean (needs_room needs full h) = h
rank-unclean g v cpu op tag page left k goes unclean (fills page' phase h) = omega (arith, h)
rank-unclean g v cpu op tag page left k goes unclean (pages_out page' phase h) = omega (arith, h)
rank-unclean g v cpu op tag page left k goes unclean (at_look file index is looks h some) = absurd (wants_not_sync g cpu op k.tag file k.wants is)
rank-unclean g v cpu op tag page left k goes unclean (at_write file index page' is phase h some) = absurd (wants_not_sync g cpu op k.tag file k.wants is)
rank-unclean g v cpu op tag page left k goes unclean (unmaps number is start h some) = absurd (wants_not_unmap g cpu op k.tag number k.wants is)
rank-unclean g v cpu op tag page left k goes unclean (tears number slot index is phase h some) = absurd (wants_not_unmap g cpu op k.tag number k.wants is)

-- one that writes a page back has at least 6, where that page goes next, and 8 otherwise
pub rank-pages_out : (g : GuestState) (v : StorageView) (cpu : ℕ) (op : Op) (page left : ℕ) → (processor_at g cpu).phase ≡ AtRoom page → OpRank g v cpu op left
    → (PagesOutOwn g v cpu op page × (6 ≤ left)) ⊎ (8 ≤ left)
rank-pages_out g v cpu op page left phase (no_tag start short none h) = absurd (starts_not_out g cpu page start phase)
rank-pages_out g v cpu op page left phase (served has is h) = absurd (starts_not_out g cpu page has.start phase)
rank-pages_out g v cpu op page left phase (has_page has h) = absurd (starts_not_out g cpu page has.start phase)
rank-pages_out g v cpu op page left phase (fills_own page' tag at wants tagged h) = let bad : Fill page' ≡ AtRoom page = sym at ∙ phase in absurd cc
rank-pages_out g v cpu op page left phase (has_none tag start wants none some h) = absurd (starts_not_out g cpu page start phase)
rank-pages_out g v cpu op page left phase (has_lost has h) = absurd (starts_not_out g cpu page has.start phase)
rank-pages_out g v cpu op page left phase (room_clean page' its h) = absurd (starts_not_out g cpu page its.needs.start phase)
rank-pages_out g v cpu op page left phase (pages_out_own page' its h) =
    let both : AtRoom page' ≡ AtRoom page = sym its.phase ∙ phase in
    let same : page' ≡ page = cc in
    inl (subst (PagesOutOwn g v cpu op) same its, h)
rank-pages_out g v cpu op page left phase (needs_room needs full h) = absurd (starts_not_out g cpu page needs.start phase)
rank-pages_out g v cpu op page left phase (fills page' at h) = let bad : Fill page' ≡ AtRoom page = sym at ∙ phase in absurd cc
rank-pages_out g v cpu op page left phase (pages_out page' at h) = inr h
rank-pages_out g v cpu op page left phase (at_look file index is looks h some) = absurd (looks_not_pages_out g cpu index page looks phase)
rank-pages_out g v cpu op page left phase (at_write file index page' is at h some) = let bad : SyncWrite index page' ≡ AtRoom page = sym at ∙ phase in absurd cc
rank-pages_out g v cpu op page left phase (unmaps number is start h some) = absurd (starts_not_out g cpu page start phase)
rank-pages_out g v cpu op page left phase (tears number slot index is at h some) = let bad : Teardown slot index ≡ AtRoom page = sym at ∙ phase in absurd cc
