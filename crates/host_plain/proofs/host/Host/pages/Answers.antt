use Rattle.std.proofs.Common.{◌≡◌, ◌+◌, ◌≤◌, length, arith, subst}
use Rattle.std.proofs.lemmas.Grind.{common_steps}
use Rattle.cmm_types.specs.declared.plan.TheConstants.{MAX_TOTAL_PAGES}
use Rattle.host_plain.specs.HostState.{HostState, IsHost, first_place}
use Rattle.host_plain.proofs.Places.{span-of}
use Rattle.host_plain.proofs.host.Host.pages.Goals as goal

pub overflow_cast-result : goal.overflow_cast-result
overflow_cast-result c =
    let is : IsHost c.args.self.now = subst (λ (h : HostState). IsHost h) c.self.view_is c.self.invariant in
    let span = span-of c.args.self.now c.args.self.now.guest is is.guest in
    let most : length c.args.self.now.memory.words ≤ MAX_TOTAL_PAGES = is.memory.few in
    let start : c.index-2.result.now ≡ first_place c.args.self.now c.args.self.now.guest = grind (arith, common_steps) in
    let end : c.index.result.now ≡ first_place c.args.self.now (c.args.self.now.guest + 1) = grind (arith, common_steps) in
    omega (arith, start, end, span.start, span.end, most)
