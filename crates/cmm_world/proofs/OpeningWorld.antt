-- In a world before its first event every guest fits.
use Rattle.std.specs.Prelude.{◌≡◌, ◌<◌, ℕ, ◌+◌, List, length, map, sum, take, slice_index_or}
use Rattle.std.proofs.Common.{refl, sym, ap, arith, ◌∙◌}
use Rattle.std.proofs.lemmas.List.{get_or-map, length-map}
use Rattle.cmm_types.specs.declared.plan.GuestPlan.{GuestPlan}
use Rattle.cmm_types.specs.declared.plan.Scenario.{Scenario}
use Rattle.cmm_types.specs.InRange.{ScenarioInRange, GuestInRange}
use Rattle.cmm_io.specs.DiskState.{DiskState, disk_view, opening_disk}
use Rattle.cmm_io.specs.FailurePlan.{failure_plan_of}
use Rattle.cmm_io.proofs.DiskBlocks.{length-disk_of}
use Rattle.cmm_io.proofs.Counted.{counted-opening}
use Rattle.essa_state.specs.PageBody.{actual}
use Rattle.host_plain.specs.MemoryState.{body_at, word_at}
use Rattle.essa_state.specs.StateWord.{opening_word}
use Rattle.host_plain.specs.HostState.{HostState, pages_of, pager_of, no_pager, list_place, served, host_view}
use Rattle.host_plain.proofs.Opening.{opening_word-at}
use Rattle.host_plain.proofs.Starts.{start-at, next_start}
use Rattle.guest_rules.specs.GuestState.{GuestState, opening_guest}
use Rattle.essa_state.specs.PageValue.{opening_value}
use Rattle.guest_rules.specs.Fit.{Fit}
use Rattle.guest_rules.proofs.Opening.Opening.{Fit-opening}
use Rattle.cmm_types.specs.NoPlan.{no_plan, plan_at}
use Rattle.cmm_world.specs.WorldState.{WorldState, guest_at, disk_at, opening_host, opening_world}
use Rattle.cmm_world.specs.WorldFit.{IsWorld}
use Rattle.cmm_world.specs.Failures.{AreCounted}

pages_at : (plan : Scenario) (guest : ℕ) → guest < length plan.guests → pages_of (served (opening_host plan) guest) guest ≡ (plan_at plan guest).pages
pages_at plan guest below =
    let counts = map (λ (g : GuestPlan). g.pages) plan.guests in
    let size : length counts ≡ length plan.guests = length-map plan.guests (λ g. g.pages) in
    let here = start-at counts guest (omega (arith, size)) in
    let there = start-at counts (guest + 1) (omega (arith, size)) in
    let next = next_start counts guest (sum (take guest counts)) (rw size below) refl in
    let its : slice_index_or counts guest 0 ≡ (plan_at plan guest).pages = get_or-map (λ (g : GuestPlan). g.pages) plan.guests guest no_plan 0 below in
    omega (arith, here, there, next, its)

fresh_at : (plan : Scenario) (guest page : ℕ) → (host_view (served (opening_host plan) guest)).values page ≡ opening_value
fresh_at plan guest page =
    let h = served (opening_host plan) guest in
    let word : word_at h.memory (list_place h page) ≡ opening_word = opening_word-at _ (list_place h page) in
    ap (λ w. actual w (body_at h.memory (list_place h page))) word

fits_at : (plan : Scenario) (guest : ℕ) → guest < length plan.guests → GuestInRange (plan_at plan guest)
    → Fit (opening_guest (plan_at plan guest)) (host_view (served (opening_host plan) guest)) (disk_view (opening_disk (plan_at plan guest)))
fits_at plan guest below range =
    Fit-opening (plan_at plan guest) _ _ range (record {
      pages = pages_at plan guest below;
      values = λ page lt. fresh_at plan guest page;
      none_held = refl;
      tells = refl;
      count = length-disk_of (plan_at plan guest).files (plan_at plan guest).swap;
      blocks = refl;
    })

counted_at : (plan : GuestPlan) → AreCounted (opening_guest plan) (opening_disk plan) (failure_plan_of plan.pager_fail)
counted_at plan = record { by_disk = omega arith; by_pager = omega arith; disk_calls = counted-opening plan.disk_fail; pager_calls = counted-opening plan.pager_fail }

pub opening_fits : (plan : Scenario) → ScenarioInRange plan → IsWorld (opening_world plan)
unfolding opening_world
opening_fits plan range = record {
  few = rw length-map range.guests.few;
  disks = length-map plan.guests opening_disk ∙ sym (length-map plan.guests opening_guest);
  pagers = length-map plan.guests _ ∙ sym (length-map plan.guests opening_guest);
  none_held = refl;
  fit = λ guest lt.
      let below : guest < length plan.guests = rw length-map at lt in
      let its : guest_at (opening_world plan) guest ≡ opening_guest (plan_at plan guest) = get_or-map opening_guest plan.guests guest no_plan (opening_guest no_plan) below in
      let disk : disk_at (opening_world plan) guest ≡ opening_disk (plan_at plan guest) = get_or-map opening_disk plan.guests guest no_plan (opening_disk no_plan) below in
      rw (its, disk) (fits_at plan guest below (range.guests.each guest no_plan below));
  failures = λ guest lt.
      let below : guest < length plan.guests = rw length-map at lt in
      let its : guest_at (opening_world plan) guest ≡ opening_guest (plan_at plan guest) = get_or-map opening_guest plan.guests guest no_plan (opening_guest no_plan) below in
      let disk : disk_at (opening_world plan) guest ≡ opening_disk (plan_at plan guest) = get_or-map opening_disk plan.guests guest no_plan (opening_disk no_plan) below in
      let pager : pager_of (opening_host plan) guest ≡ failure_plan_of (plan_at plan guest).pager_fail =
      get_or-map (λ (g : GuestPlan). failure_plan_of g.pager_fail) plan.guests guest no_plan no_pager below in
      rw (its, disk, pager) (counted_at (plan_at plan guest));
}

-- a world of opened parts is the one before its first event
pub opening_parts : (plan : Scenario) (guests : List GuestState) (disks : List DiskState) (host : HostState) → guests ≡ map opening_guest plan.guests
    → disks ≡ map opening_disk plan.guests → host ≡ opening_host plan → ◌≡◌ {A = WorldState} (record { guests = guests; disks = disks; host = host }) (opening_world plan)
unfolding opening_world
opening_parts plan guests disks host its_guests its_disks its_host = λ i. record { guests = its_guests i; disks = its_disks i; host = its_host i }
