use Rattle.std.proofs.Common.{◌≡◌, ◌≤◌, length, arith, subst}
use Rattle.std.proofs.lemmas.Grind.{common_steps}
use Rattle.cmm_types.specs.declared.plan.TheConstants.{MAX_TOTAL_PAGES}
use Rattle.host_plain.specs.HostState.{HostState, IsHost, first_place}
use Rattle.host_plain.proofs.Places.{place-below}
use Rattle.host_plain.proofs.host.Host.list_place.Goals as goal

pub returns-clause-within : goal.returns-clause-within
returns-clause-within c =
    let is : IsHost c.args.self.now = subst (λ (h : HostState). IsHost h) c.self.view_is c.self.invariant in
    let same : c.index.result.now ≡ first_place c.args.self.now c.args.self.now.guest = grind (arith, common_steps) in
    omega (arith, same, place-below c.args.self.now c.args.self.now.guest c.args.page is is.guest c.requires)

pub overflow_add-result : goal.overflow_add-result
overflow_add-result c =
    let is : IsHost c.args.self.now = subst (λ (h : HostState). IsHost h) c.self.view_is c.self.invariant in
    let most : length c.args.self.now.memory.words ≤ MAX_TOTAL_PAGES = is.memory.few in
    omega (arith, most, returns-clause-within c)
