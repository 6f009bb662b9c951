use Rattle.std.proofs.Common.{arith, rules, ap, ◌∙◌}
use Rattle.cmm_types.specs.declared.plan.TheConstants.{MAX_MAPPING_SLOTS}
use Rattle.guest_pages.specs.PagesView.{popped, with_info}
use Rattle.guest_cache.specs.CacheView.{with_page}
use Rattle.guest_maps.specs.MapsView.{MapsView}
use Rattle.guest_maps.specs.Laws.MapsLaws.{pages-opening}
use Rattle.guest_io.proofs.sync_tests.look.Goals as goal

pub sync_page-synced-requires : goal.sync_page-synced-requires
unfolding popped with_info with_page
sync_page-synced-requires c = record {
  takes = record {
    in_use = record {
      below = search rules;
      shown = omega (arith, ap (λ (m : MapsView). m.pages) c.in_ok-open-3.ensures ∙ pages-opening 1 MAX_MAPPING_SLOTS);
      not_free = search rules;
      tag = search rules;
    };
    there = search rules;
    none_held = search rules;
  };
}
