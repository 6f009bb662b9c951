use Rattle.std.proofs.Common.{◌≡◌, ◌<◌, ◌∙◌, ap, arith, map, subst, sym, All}
use Rattle.std.proofs.lemmas.List.Elements.{All-map}
use Rattle.cmm_types.specs.declared.plan.GuestPlan.{GuestPlan}
use Rattle.cmm_world.proofs.open.open_host.Goals as goal

-- every guest has a page
pub open-requires-2-clause-each : goal.open-requires-2-clause-each
open-requires-2-clause-each c =
    let pages = map (λ (guest : GuestPlan). guest.pages) in
    let made : c.as_slice-2.result.now ≡ pages c.args.plan.now.guests = c.as_slice-2.ensures.value ∙ c.in_ok-counts.ensures ∙ ap pages c.as_slice-plans.ensures in
    subst (All (λ count. 0 < count)) (sym made)
    (All-map (λ count. 0 < count) (λ (guest : GuestPlan). guest.pages) c.args.plan.now.guests (λ k d below. omega (arith, (c.requires.guests.each k d below).some_page)))
