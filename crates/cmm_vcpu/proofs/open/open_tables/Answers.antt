use Rattle.std.proofs.Common.{rules, arith, ap, ◌∙◌, ◌≡◌, ◌<◌, ◌+◌, length, take, slice_index_or}
use Rattle.cmm_types.specs.declared.plan.GuestPlan.{GuestPlan}
use Rattle.cmm_vcpu.proofs.TablesMore.{tables_more, tables_same}
use Rattle.cmm_vcpu.proofs.open.open_tables.Goals as goal

pub loop-plan-preserved : goal.loop-plan-preserved
loop-plan-preserved c =
    let now = c.loop-plan.invariant in
    let index = c.loop-plan.plan-index in
    let plan : GuestPlan = c.plan-item.result in
    let made = c.in_ok-words.ensures in
    let below : index < length c.args.plans.now = search (rules, arith) in
    let is : plan ≡ slice_index_or c.args.plans.now index plan = c.plan-item.is in
    let more =
    tables_more c.args.plans.now index plan c.args.pool.now c.loop-plan.tables.words.items c.loop-plan.tables.guests.items c.loop-plan.tables.hosts.items c.in_ok-words.words c.in_ok-words.guest
    c.in_ok-words.host below now.1 (made.pages ∙ ap (λ (p : GuestPlan). p.pages) is) made.house made.guest made.guest_seat made.first made.host made.host_idle in (
      made.same ∙ now.0,
      tables_same (take (index + 1) c.args.plans.now) c.args.pool.now _ _ _ _ _ _ c.in_ok-push.ensures.items c.in_ok-push-2.ensures.items c.in_ok-push-3.ensures.items more,
    )
