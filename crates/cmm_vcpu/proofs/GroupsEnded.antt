-- Groups that have run.
use Rattle.std.specs.Prelude.{◌≡◌, ◌<◌, ◌≤◌, ◌+◌, ℕ, List, length, map, is_some, true, false, Option, Some, None, slice_set, slice_index_or}
use Rattle.std.proofs.Common.{refl, sym, ap, subst, arith, inl, inr, ◌∙◌}
use Rattle.std.proofs.lemmas.Bool.{cases_eq}
use Rattle.std.proofs.lemmas.List.{get_or-set_same, get_or-set_other, length-set}
use Rattle.cmm_types.specs.declared.plan.GuestPlan.{GuestPlan}
use Rattle.cmm_flat.specs.Legal.{Complete}
use Rattle.state_words.specs.SeatView.{WordsView, Seated}
use Rattle.frame_pool.specs.Seats.{PoolId, PoolSeatView}
use Rattle.guest_rules.specs.GuestState.{GuestState}
use Rattle.host_shared.specs.Reclaiming.{CanReclaim}
use Rattle.guest_rules.specs.FailsAsPlanned.{FailsAsPlanned}
use Rattle.cmm_vcpu.specs.KernelState.{KernelState, HasRun, own_words}
use Rattle.cmm_vcpu.specs.LastLooks.{HasLooked}
use Rattle.cmm_vcpu.specs.Machines.{ReclaimerState, GroupState, MachineState, IsMachine, IsReady, KernelReady, ReclaimerReady}
use Rattle.cmm_vcpu.specs.Machines.{HasEnded, KernelEnded, ReclaimerEnded, KernelLooked, GroupLooked, HasLastLooks, KernelLooks, GroupOver, AllHaveRun, kernel_in, group_at, no_group}

-- seats of the same words and the same pool as before
pub can_again : (words : List WordsView) (pool : PoolId) (before after : List Seated) (seat other : PoolSeatView) → CanReclaim words pool before seat → CanReclaim words pool after other
    → CanReclaim (map (λ (q : Seated). q.words) before) seat.pool after other
can_again words pool before after seat other can again =
    subst (λ ws. CanReclaim ws seat.pool after other) (sym can.seats_are) (subst (λ p. CanReclaim words p after other) (sym can.of_pool) again)

run_looked : (plan : GuestPlan) (k l : KernelState) → HasRun plan k → HasLooked k l → HasRun plan l
run_looked plan k l run looked = record {
  plan_is = ap (λ (g : GuestState). g.plan) looked.guest ∙ run.plan_is;
  kernel = looked.kernel;
  complete = subst (λ (g : GuestState). Complete plan g.journal) (sym looked.guest) run.complete;
  failures = subst (λ (g : GuestState). FailsAsPlanned plan g.journal) (sym looked.guest) run.failures;
}

kernel_ended : (before mid after : Option KernelState) → KernelEnded before mid → KernelLooked mid after → KernelEnded before after
kernel_ended None mid after ended looked = subst (λ (q : Option KernelState). KernelLooked q after) ended looked
kernel_ended (Some k) None after ended looked = absurd ended
kernel_ended (Some k) (Some l) None ended looked = absurd looked
kernel_ended (Some k) (Some l) (Some n) ended looked = (run_looked k.guest.plan l n ended.0 looked, looked.words ∙ ended.1, looked.own ∙ ended.2, looked.pool ∙ ended.3)

kernel_looks : (mid after : Option KernelState) → KernelLooked mid after → KernelLooks after
kernel_looks None after looked = subst KernelLooks (sym looked) tt
kernel_looks (Some l) None looked = absurd looked
kernel_looks (Some l) (Some n) looked = record { looks = looked.looks; faults = looked.faults }

pub group_over : (g m h : GroupState) → HasEnded g m → GroupLooked m h → GroupOver g h
group_over g m h ended looked = record {
  ended = record {
    cpus = ap (λ (l : List ℕ). length l) looked.cpus ∙ ended.cpus;
    kernel = kernel_ended g.kernel m.kernel h.kernel ended.kernel looked.kernel;
    reclaimer = subst (λ (r : Option ReclaimerState). ReclaimerEnded g.reclaimer r) (sym looked.reclaimer) ended.reclaimer;
  };
  looks = kernel_looks m.kernel h.kernel looked.kernel;
}

-- a group that has run is as ready as before
kernel_ready : (words : List WordsView) (pool : PoolId) (threads more : ℕ) (before after : Option KernelState) → KernelReady words pool threads before → more ≡ threads
    → KernelEnded before after → KernelReady words pool more after
kernel_ready words pool threads more None after ready same ended = subst (λ (q : Option KernelState). KernelReady words pool more q) (sym ended) tt
kernel_ready words pool threads more (Some k) None ready same ended = absurd ended
kernel_ready words pool threads more (Some k) (Some l) ready same ended = record {
  words_are = ended.1 ∙ ready.words_are;
  pool_is = ended.3 ∙ ready.pool_is;
  threads_few = subst (λ (p : GuestPlan). more ≤ length p.cpus) (sym ended.0.plan_is) (omega (arith, ready.threads_few, same));
}

reclaimer_ready : (words : List WordsView) (pool : PoolId) (before after : Option ReclaimerState) → ReclaimerReady words pool before → ReclaimerEnded before after → ReclaimerReady words pool after
reclaimer_ready words pool None after ready ended = subst (λ (q : Option ReclaimerState). ReclaimerReady words pool q) (sym ended) tt
reclaimer_ready words pool (Some r) None ready ended = absurd ended
reclaimer_ready words pool (Some r) (Some s) ready ended =
    subst (λ (ws : List WordsView). CanReclaim ws pool s.seats s.pool) ready.seats_are
    (subst (λ (p : PoolId). CanReclaim (map (λ (q : Seated). q.words) r.seats) p s.seats s.pool) ready.of_pool ended)

pub still_ready : (words : List WordsView) (pool : PoolId) (g h : GroupState) → IsReady words pool g → HasEnded g h → IsReady words pool h
still_ready words pool g h ready ended = record {
  kernel = kernel_ready words pool (length g.cpus) (length h.cpus) g.kernel h.kernel ready.kernel ended.cpus ended.kernel;
  reclaimer = reclaimer_ready words pool g.reclaimer h.reclaimer ready.reclaimer ended.reclaimer;
}

-- the groups after the first of them were looked at
pub record LooksOver (first now : List GroupState) (count : ℕ) : Type 0 where
  pub size : length now ≡ length first
  pub done : (j : ℕ) → j < count → GroupLooked (slice_index_or first j no_group) (slice_index_or now j no_group)
  pub left : (j : ℕ) → count ≤ j → slice_index_or now j no_group ≡ slice_index_or first j no_group

pub looks_start : (first : List GroupState) → LooksOver first first 0
looks_start first = record { size = refl; done = λ j lt. absurd (omega (arith, lt)); left = λ j le. refl }

pub over_more : (first now : List GroupState) (i : ℕ) (g : GroupState) → i < length now → LooksOver first now i → GroupLooked (slice_index_or now i no_group) g
    → LooksOver first (slice_set now i g) (i + 1)
over_more first now i g below over looked = record {
  size = length-set now i g ∙ over.size;
  done = λ j lt. elim (cases_eq j i) [
    | inl here ↦ subst (λ (q : ℕ). GroupLooked (slice_index_or first q no_group) (slice_index_or (slice_set now i g) q no_group)) (sym here) at
    | inr other ↦ subst (λ (q : GroupState). GroupLooked (slice_index_or first j no_group) q) (sym (get_or-set_other now i j g no_group other)) (over.done j (omega (arith, lt, other)))
  ];
  left = λ j le. get_or-set_other now i j g no_group (omega (arith, le)) ∙ over.left j (omega (arith, le));
}
  where
    at : GroupLooked (slice_index_or first i no_group) (slice_index_or (slice_set now i g) i no_group)
    at =
        subst (λ (q : GroupState). GroupLooked (slice_index_or first i no_group) q) (sym (get_or-set_same now i g no_group below))
        (subst (λ (q : GroupState). GroupLooked q g) (over.left i (omega arith)) looked)

ended_run : (before after : Option KernelState) → is_some before ≡ true → KernelEnded before after → HasRun (kernel_in before).guest.plan (kernel_in after)
ended_run None after some ended = let bad : false ≡ true = some in absurd cc
ended_run (Some k) None some ended = absurd ended
ended_run (Some k) (Some l) some ended = ended.0

looks_of : (before after : Option KernelState) → is_some before ≡ true → KernelEnded before after → KernelLooks after → HasLastLooks (kernel_in after)
looks_of None after some ended looks = let bad : false ≡ true = some in absurd cc
looks_of (Some k) None some ended looks = absurd ended
looks_of (Some k) (Some l) some ended looks = looks

some_after : (before after : Option KernelState) → is_some before ≡ true → KernelEnded before after → is_some after ≡ true
some_after None after some ended = let bad : false ≡ true = some in absurd cc
some_after (Some k) None some ended = absurd ended
some_after (Some k) (Some l) some ended = refl

own_after : (before after : Option KernelState) → is_some before ≡ true → KernelEnded before after → own_words (kernel_in after) ≡ own_words (kernel_in before)
own_after None after some ended = let bad : false ≡ true = some in absurd cc
own_after (Some k) None some ended = absurd ended
own_after (Some k) (Some l) some ended = ended.2

-- where each group has run and was looked at, every guest's processors are done, and its words are known
pub all_have_run : (m n : MachineState) → IsMachine m → n.guests ≡ m.guests → ((i : ℕ) → i < length m.groups → GroupOver (group_at m i) (group_at n i)) → AllHaveRun m n
all_have_run m n machine count over = record {
  count = count;
  each = λ guest lt. ended_run (group_at m guest).kernel (group_at n guest).kernel (machine.kernels guest lt) (at guest lt).ended.kernel;
  looks = λ guest lt. (found guest lt).looks;
  faults = λ guest lt. (found guest lt).faults;
}
  where
    at : (guest : ℕ) → guest < m.guests → GroupOver (group_at m guest) (group_at n guest)
    at guest lt = over guest (omega (arith, lt, machine.there))

    found : (guest : ℕ) → guest < m.guests → HasLastLooks (kernel_in (group_at n guest).kernel)
    found guest lt = looks_of (group_at m guest).kernel (group_at n guest).kernel (machine.kernels guest lt) (at guest lt).ended.kernel (at guest lt).looks

-- and it is a machine again
pub machine_after : (m : MachineState) (after : List GroupState) → IsMachine m → length after ≡ length m.groups
    → ((i : ℕ) → i < length m.groups → GroupOver (group_at m i) (slice_index_or after i no_group)) → IsMachine (record m { groups = after })
machine_after m after machine size over = record {
  few = machine.few;
  there = omega (arith, size, machine.there);
  few_groups = omega (arith, size, machine.few_groups);
  few_pages = machine.few_pages;
  ready = λ i lt. still_ready m.words m.pool (group_at m i) (slice_index_or after i no_group) (machine.ready i (omega (arith, lt, size))) (over i (omega (arith, lt, size))).ended;
  kernels = λ i lt. some_after (group_at m i).kernel (slice_index_or after i no_group).kernel (machine.kernels i lt) (over i (omega (arith, lt, machine.there))).ended.kernel;
  tables = machine.tables;
  owned = λ i lt. machine.owned i lt
      ∙ ap (λ (w : WordsView). Some w) (sym (own_after (group_at m i).kernel (slice_index_or after i no_group).kernel (machine.kernels i lt) (over i (omega (arith, lt, machine.there))).ended.kernel));
  seated = machine.seated;
  region_is = machine.region_is;
}
