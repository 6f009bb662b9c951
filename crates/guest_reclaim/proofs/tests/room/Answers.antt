use Rattle.std.proofs.Common.{ap, ◌∙◌, rules}
use Rattle.cmm_types.specs.declared.plan.TheConstants.{MAX_MAPPING_SLOTS}
use Rattle.guest_maps.specs.MapsView.{MapsView}
use Rattle.guest_maps.specs.Laws.MapsLaws.{pages-opening}
use Rattle.guest_reclaim.proofs.ThreePages.{three_can}
use Rattle.guest_reclaim.proofs.tests.room.Goals as goal

pub make_room-answer-requires : goal.make_room-answer-requires
make_room-answer-requires c =
    let shown = ap (λ (maps : MapsView). maps.pages) c.in_ok-open-2.ensures ∙ pages-opening 3 MAX_MAPPING_SLOTS in
    record {
      can = three_can _ _ c.known-first.result c.known-second.result c.known-third.result c.in_ok-three_pages.ensures c.in_ok-open.ensures shown c.known-first.ensures
          c.known-second.ensures c.known-third.ensures (record { pages = search rules; none_held = search rules });
    }
