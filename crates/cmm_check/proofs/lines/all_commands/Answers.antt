use Rattle.std.proofs.Common.{◌≡◌, ◌<◌, length, get_or, ap, ◌∙◌, subst, arith}
use Rattle.std.proofs.lemmas.List.Sums.{sum_by_more_le}
use Rattle.cmm_types.specs.declared.plan.CpuPlan.{CpuPlan}
use Rattle.cmm_flat.specs.Laws.CommandLaws.{all_commands-bound}
use Rattle.cmm_check.proofs.lines.all_commands.Goals as goal

pub overflow_add-count : goal.overflow_add-count
overflow_add-count c =
    let below : c.loop-cpu.cpu-index < length c.args.plan.now.cpus = subst (λ cpus. c.loop-cpu.cpu-index < length cpus) c.loop-cpu.invariant.0 c.loop-cpu-test.true in
    let is : c.cpu-item.result ≡ get_or c.args.plan.now.cpus c.loop-cpu.cpu-index c.cpu-item.result =
    c.cpu-item.is ∙ ap (λ cpus. get_or cpus c.loop-cpu.cpu-index c.cpu-item.result) c.loop-cpu.invariant.0
    in
    let number : c.len-count.result ≡ length (get_or c.args.plan.now.cpus c.loop-cpu.cpu-index c.cpu-item.result).commands =
    c.len-count.ensures ∙ ap (λ (cpu : CpuPlan). length cpu.commands) is
    in
    omega (
      arith,
      c.loop-cpu.invariant.1,
      number,
      sum_by_more_le (λ (cpu : CpuPlan). length cpu.commands) c.args.plan.now.cpus c.loop-cpu.cpu-index c.cpu-item.result below,
      all_commands-bound c.args.plan.now c.requires,
    )
