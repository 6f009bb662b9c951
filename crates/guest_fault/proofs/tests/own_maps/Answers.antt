use Rattle.std.proofs.Common.{◌≡◌, Some, refl, sym, ap, subst, arith, ◌∙◌}
use Rattle.cmm_types.specs.declared.plan.TheConstants.{MAX_MAPPING_SLOTS}
use Rattle.guest_maps.specs.declared.slot.Shown.TheVariants.{Anon}
use Rattle.guest_maps.specs.MapsView.{MapsView, opening_maps, find_slot, free_slot, with_slot_mapped, IsPlace}
use Rattle.guest_maps.specs.Laws.MapsLaws.{find_slot-opening, IsPlace-with_mapping}
use Rattle.guest_fault.proofs.tests.own_maps.Goals as goal

first : free_slot (opening_maps 1 MAX_MAPPING_SLOTS) ≡ Some 0
unfolding opening_maps
first = refl

pub add-requires-clause-new : goal.add-requires-clause-new
add-requires-clause-new c = ap (λ (m : MapsView). find_slot m 0 0) c.in_ok-maps.ensures ∙ find_slot-opening 1 MAX_MAPPING_SLOTS 0 0

pub returns-clause-place : goal.returns-clause-place
returns-clause-place c =
    let free : free_slot c.in_ok-maps.maps ≡ Some 0 = ap (λ (m : MapsView). free_slot m) c.in_ok-maps.ensures ∙ first in
    let both : Some 0 ≡ Some c.add.result = sym free ∙ c.add.ensures.slot in
    let slot : c.add.result ≡ 0 = cc in
    let value = c.add.ensures.value ∙ ap (λ n. with_slot_mapped c.in_ok-maps.maps n 0 0 Anon 1) slot in
    subst (λ (m : MapsView). IsPlace m 0 0) (sym value) (IsPlace-with_mapping c.in_ok-maps.maps 0 0 0 Anon 1 0 free (omega arith))
