use Rattle.std.proofs.Common.{ℕ, ◌≡◌, ◌+◌, length, arith, subst, ap, List, ◌-◌, ◌∙◌, ◌≤◌, take, drop}
use Rattle.std.proofs.lemmas.Grind.{common_steps}
use Rattle.host_plain.specs.HostState.{HostState, IsHost, first_place}
use Rattle.host_plain.proofs.Places.{span-of}
use Rattle.essa_state.specs.declared.fields.Fields.{Fields}
use Rattle.host_plain.proofs.host.Host.words.Goals as goal

part-length : (words : List Fields) (start end : ℕ) → end ≤ length words → length (take (end - start) (drop start words)) ≡ end - start
part-length words start end within = grind (arith, common_steps)

pub part-requires : goal.part-requires
part-requires c =
    let is : IsHost c.args.self.now = subst (λ (h : HostState). IsHost h) c.self.view_is c.self.invariant in
    let span = span-of c.args.self.now c.args.guest is c.requires in
    let start : c.index.result.now ≡ first_place c.args.self.now c.args.guest = grind (arith, common_steps) in
    let end : c.index-2.result.now ≡ first_place c.args.self.now (c.args.guest + 1) = grind (arith, common_steps) in
    let all : c.words.result.now ≡ c.args.self.now.memory.words = grind (arith, common_steps) in
    record {
      order = omega (arith, start, end, span.start);
      within = omega (arith, end, span.end, ap length all);
    }

pub returns-clause-count : goal.returns-clause-count
returns-clause-count c =
    let is : IsHost c.args.self.now = subst (λ (h : HostState). IsHost h) c.self.view_is c.self.invariant in
    let span = span-of c.args.self.now c.args.guest is c.requires in
    let start : c.index.result.now ≡ first_place c.args.self.now c.args.guest = grind (arith, common_steps) in
    let end : c.index-2.result.now ≡ first_place c.args.self.now (c.args.guest + 1) = grind (arith, common_steps) in
    let all : c.words.result.now ≡ c.args.self.now.memory.words = grind (arith, common_steps) in
    ap (λ (ws : List Fields). length ws) c.part.ensures ∙ part-length c.words.result.now c.index.result.now c.index-2.result.now (omega (arith, end, span.end, ap length all))
    ∙ ap (λ n. n - c.index.result.now) end ∙ ap (λ n. first_place c.args.self.now (c.args.guest + 1) - n) start
