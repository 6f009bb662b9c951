use Rattle.std.proofs.Common.{arith, rules, ap, ◌∙◌}
use Rattle.cmm_types.specs.declared.plan.TheConstants.{MAX_MAPPING_SLOTS}
use Rattle.guest_pages.specs.PagesView.{popped}
use Rattle.guest_maps.specs.MapsView.{MapsView}
use Rattle.guest_maps.specs.Laws.MapsLaws.{pages-opening}
use Rattle.guest_io.proofs.tests.one_page.Goals as goal

pub returns : goal.returns
unfolding popped
returns c = record {
  below = search rules;
  shown = omega (arith, ap (λ (m : MapsView). m.pages) c.in_ok-open-2.ensures ∙ pages-opening 1 MAX_MAPPING_SLOTS);
  not_free = search rules;
  tag = search rules;
}
