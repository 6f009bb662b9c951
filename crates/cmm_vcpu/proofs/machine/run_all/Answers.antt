use Rattle.std.proofs.Common.{rules, arith, refl, sym, subst, ◌≡◌, ℕ, ◌<◌, List, length, slice_index_or}
use Rattle.std.proofs.lemmas.List.{with_items_is}
use Rattle.std.specs.Vec.{with_items}
use Rattle.cmm_vcpu.specs.Machines.{GroupState, MachineState, GroupOver, AllHaveRun, no_group}
use Rattle.cmm_vcpu.specs.contracts.machine.Machine.{the_view}
use Rattle.cmm_vcpu.proofs.GroupsEnded.{all_have_run}
use Rattle.cmm_vcpu.proofs.machine.run_all.Goals as goal

pub returns : goal.returns
returns g c =
    let m : MachineState = the_view c.machine.inside in
    let before : List GroupState = c.as_mut_slice.result.now in
    let after : List GroupState = c.run_groups.new.groups in
    let n : MachineState = record m { groups = (with_items c.machine.inside.groups after).items } in
    let lent : before ≡ m.groups = search rules in
    let size : length after ≡ c.machine.inside.groups.len = search (rules, arith) in
    let back : n.groups ≡ after = with_items_is c.machine.inside.groups after size in
    let each : (i : ℕ) → i < length before → GroupOver (slice_index_or before i no_group) (slice_index_or after i no_group) = c.run_groups.ensures.each in
    subst (λ (q : MachineState). AllHaveRun q n) c.machine.view_is
    (all_have_run m n c.machine.invariant.0 refl
    (subst (λ (gs : List GroupState). (i : ℕ) → i < length gs → GroupOver (slice_index_or gs i no_group) (slice_index_or n.groups i no_group)) lent
    (subst (λ (gs : List GroupState). (i : ℕ) → i < length before → GroupOver (slice_index_or before i no_group) (slice_index_or gs i no_group)) (sym back) each)))
