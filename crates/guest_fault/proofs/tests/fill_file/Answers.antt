use Rattle.std.proofs.Common.{[], arith, rules, ap, ◌∙◌}
use Rattle.std.proofs.lemmas.List.Elements.{All-nil, All-cons}
use Rattle.cmm_types.specs.InRange.{FileInRange}
use Rattle.cmm_types.specs.declared.plan.TheConstants.{MAX_MAPPING_SLOTS}
use Rattle.guest_pages.specs.PagesView.{popped, with_tag, with_info}
use Rattle.guest_cache.specs.CacheView.{with_page}
use Rattle.guest_maps.specs.MapsView.{MapsView}
use Rattle.guest_maps.specs.Laws.MapsLaws.{pages-opening}
use Rattle.guest_fault.proofs.tests.fill_file.Goals as goal

pub open-requires-5-clause-ranges : goal.open-requires-5-clause-ranges
open-requires-5-clause-ranges c = All-cons FileInRange c.in_ok-file.file [] c.in_ok-file.ensures.range (All-nil FileInRange)

pub fill-filled-requires : goal.fill-filled-requires
unfolding popped with_tag with_info with_page
fill-filled-requires c = record {
  fills = record {
    takes = record {
      in_use = record {
        below = search rules;
        shown = omega (arith, ap (λ (m : MapsView). m.pages) c.in_ok-open-3.ensures ∙ pages-opening 1 MAX_MAPPING_SLOTS);
        not_free = search rules;
        tag = search rules;
      };
      there = search rules;
      none_held = search rules;
    };
    block = search rules;
  };
}
