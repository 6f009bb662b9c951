use Rattle.std.proofs.Common.{rules, arith, subst, ◌≡◌, ℕ, ◌<◌, List, length, slice_index_or}
use Rattle.cmm_vcpu.specs.Machines.{GroupState, IsReady, HasEnded, no_group}
use Rattle.cmm_vcpu.proofs.GroupsEnded.{group_over, still_ready}
use Rattle.cmm_vcpu.proofs.groups.run_groups.Goals as goal

pub look_at_all-requires : goal.look_at_all-requires
look_at_all-requires g c =
    let before : List GroupState = c.args.groups.now in
    let mid : List GroupState = c.for_each_mut.new.s in
    let size : length mid ≡ length before = search (rules, arith) in
    let ready : (i : ℕ) → i < length mid → IsReady c.args.words.now c.args.pool.now (slice_index_or mid i no_group) =
    λ i lt.
    let below : i < length before = omega (arith, lt, size) in
    let change = (c.for_each_mut.ensures i no_group below).1 in
    let done : HasEnded change.argument.now change.after_call.now = change.call in
    let ended : HasEnded (slice_index_or before i no_group) (slice_index_or mid i no_group) =
    subst (λ (q : GroupState). HasEnded q (slice_index_or mid i no_group)) change.argument_is (subst (λ (q : GroupState). HasEnded change.argument.now q) change.left done) in
    still_ready c.args.words.now c.args.pool.now (slice_index_or before i no_group) (slice_index_or mid i no_group) (c.requires.ready i below) ended in
    record { ready = ready }

pub returns-clause-each : goal.returns-clause-each
returns-clause-each g c =
    let before : List GroupState = c.args.groups.now in
    let mid : List GroupState = c.for_each_mut.new.s in
    let size : length mid ≡ length before = search (rules, arith) in
    λ i lt.
    let change = (c.for_each_mut.ensures i no_group lt).1 in
    let done : HasEnded change.argument.now change.after_call.now = change.call in
    let ended : HasEnded (slice_index_or before i no_group) (slice_index_or mid i no_group) =
    subst (λ (q : GroupState). HasEnded q (slice_index_or mid i no_group)) change.argument_is (subst (λ (q : GroupState). HasEnded change.argument.now q) change.left done) in
    group_over (slice_index_or before i no_group) (slice_index_or mid i no_group) (slice_index_or c.look_at_all.new.groups i no_group) ended (c.look_at_all.ensures.each i (omega (arith, lt, size)))
