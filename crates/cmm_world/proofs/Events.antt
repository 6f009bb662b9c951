-- What an event in range names.
use Rattle.std.specs.Prelude.{◌≡◌, ◌<◌, ℕ, List, length, map, slice_index_or, slice_set}
use Rattle.std.proofs.Common.{sym, ap, subst, ◌∙◌}
use Rattle.std.proofs.lemmas.List.{get_or-map, length-map, map-set, set-get_or}
use Rattle.std.proofs.lemmas.Option.{slice_get_within, get_or_from_slice_get}
use Rattle.cmm_types.specs.declared.plan.GuestPlan.{GuestPlan}
use Rattle.cmm_types.specs.InRange.{GuestHas}
use Rattle.host_plain.specs.HostState.{pages_of}
use Rattle.guest_rules.specs.GuestState.{GuestState, opening_guest}
use Rattle.cmm_types.specs.NoPlan.{no_plan}
use Rattle.cmm_world.specs.WorldState.{WorldState, guest_at}
use Rattle.cmm_world.specs.WorldView.{plans_of}
use Rattle.cmm_world.specs.WorldFit.{IsWorld}

-- the guest is there, and its plan has what is named
pub record Named (w : WorldState) (guest : ℕ) (Has : GuestPlan → Type 0) : Type 0 where
  pub below : guest < length w.guests
  pub has : Has (guest_at w guest).plan

pub named : (w : WorldState) (guest : ℕ) (Has : GuestPlan → Type 0) → GuestHas (plans_of w) guest Has → Named w guest Has
named w guest Has (plan, there, has) =
    let lt : guest < length w.guests = rw length-map at (slice_get_within (plans_of w) guest plan there) in
    let its : (guest_at w guest).plan ≡ plan =
    sym (get_or-map (λ (g : GuestState). g.plan) w.guests guest (opening_guest no_plan) no_plan lt) ∙ get_or_from_slice_get (plans_of w) guest plan no_plan there in
    record { below = lt; has = subst Has (sym its) has }

-- a page that an event names is one of its guest's on the host
pub page_there : (w : WorldState) (guest page : ℕ) → IsWorld w → GuestHas (plans_of w) guest (λ plan. page < plan.pages) → page < pages_of w.host guest
page_there w guest page world has =
    let n = named w guest (λ plan. page < plan.pages) has in
    rw (world.fit guest n.below).sizes.pages n.has

-- and a processor is one of its guest's
pub cpu_there : (w : WorldState) (guest cpu : ℕ) → IsWorld w → GuestHas (plans_of w) guest (λ plan. cpu < length plan.cpus)
    → (guest < length w.guests) × (cpu < length (guest_at w guest).processors)
cpu_there w guest cpu world has =
    let n = named w guest (λ plan. cpu < length plan.cpus) has in
    (n.below, rw (world.fit guest n.below).sizes.processors n.has)

-- a guest that keeps its plan leaves the plans
pub plans_kept : (guests : List GuestState) (guest : ℕ) (g : GuestState) → guest < length guests → g.plan ≡ (slice_index_or guests guest (opening_guest no_plan)).plan
    → map (λ (g : GuestState). g.plan) (slice_set guests guest g) ≡ map (λ (g : GuestState). g.plan) guests
plans_kept guests guest g below same =
    map-set (λ (g : GuestState). g.plan) guests guest g
    ∙ ap (slice_set (map (λ (g : GuestState). g.plan) guests) guest) (same ∙ sym (get_or-map (λ (g : GuestState). g.plan) guests guest (opening_guest no_plan) no_plan below))
    ∙ set-get_or (map (λ (g : GuestState). g.plan) guests) guest no_plan
