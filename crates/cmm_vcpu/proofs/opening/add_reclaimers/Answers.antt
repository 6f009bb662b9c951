use Rattle.std.proofs.Common.{sym, subst, ◌∙◌, ◌+◌, List}
use Rattle.state_words.specs.SeatView.{WordsView}
use Rattle.cmm_vcpu.specs.Machines.{GroupState, IsReady}
use Rattle.cmm_vcpu.proofs.OpenGroups.{ReclaimersSo, reclaimers_more}
use Rattle.cmm_vcpu.proofs.opening.add_reclaimers.Goals as goal

pub loop-preserved : goal.loop-preserved
loop-preserved c =
    let now = c.loop.invariant in
    let made = c.open_reclaimer.ensures in
    let more =
    reclaimers_more c.args.tables.now.words.items c.args.pool.now c.args.groups.now.items c.loop.groups.items c.loop.counter c.in_ok-open_reclaimer.field-0 now.3
    (subst (λ (ws : List WordsView). IsReady ws c.args.pool.now c.in_ok-open_reclaimer.field-0) now.0 c.in_ok-open_reclaimer.ensures.ready) in (
      made.words ∙ now.0,
      made.hosts ∙ now.1,
      made.same ∙ now.2,
      subst (λ (gs : List GroupState). ReclaimersSo c.args.tables.now.words.items c.args.pool.now c.args.groups.now.items gs (c.loop.counter + 1)) (sym c.in_ok-push.ensures.items) more,
    )
