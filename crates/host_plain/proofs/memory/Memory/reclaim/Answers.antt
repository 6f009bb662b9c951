use Rattle.std.proofs.Common.{◌≡◌, ◌≤◌, ◌+◌, ◌∙◌, ap, sym, arith, true, false, None, Some}
use Rattle.host_clock.specs.Victim.{victim_of}
use Rattle.host_plain.specs.MemoryState.{MemoryState}
use Rattle.host_plain.specs.HostMoves.{Reclaimed, reclaimed}
use Rattle.host_plain.proofs.Calling.{so_far, ends-at, none-more, failed-more, one-more, reclaimed-next, reclaimed-first}
use Rattle.host_plain.proofs.memory.Memory.reclaim.Goals as goal
use Rattle.host_plain.proofs.memory.Memory.reclaim.Goals.{In_default, Then-is_err, Else-is_err, After-loop-moved}

pub loop-moved-init : goal.loop-moved-init
loop-moved-init c = reclaimed-first c.args.self.now c.args.pager.now

-- no victim is left
none : (c : In_default) → reclaimed c.args.self.now c.args.pager.now c.args.count ≡ so_far c.loop-moved.moved false c.loop-moved.self c.loop-moved.pager
none c =
    let gone : victim_of c.loop-moved.self.words c.loop-moved.self.hand ≡ None =
    ap (λ (m : MemoryState). victim_of m.words m.hand) (sym c.self.view_is) ∙ sym c.in_default.ensures.chosen in
    let most : c.loop-moved.moved ≤ c.args.count = c.loop-moved.auto.moved-end in
    ends-at c.args.self.now c.args.pager.now c.loop-moved.moved c.args.count (so_far c.loop-moved.moved false c.loop-moved.self c.loop-moved.pager) c.loop-moved.invariant most
    (none-more c.loop-moved.moved c.loop-moved.self c.loop-moved.pager gone)

-- a put failed
failed : (c : Then-is_err) → reclaimed c.args.self.now c.args.pager.now c.args.count ≡ so_far c.loop-moved.moved true c.evict_at.new.self c.evict_at.new.pager
failed c =
    let found : victim_of c.loop-moved.self.words c.loop-moved.self.hand ≡ Some (c.in-Some.place, c.in-Some.hand) =
    ap (λ (m : MemoryState). victim_of m.words m.hand) (sym c.self.view_is) ∙ sym c.in-Some.ensures.chosen in
    let more : c.loop-moved.moved + 1 ≤ c.args.count = omega (arith, c.loop-moved-test.true) in
    let now : reclaimed c.args.self.now c.args.pager.now (c.loop-moved.moved + 1) ≡ so_far c.loop-moved.moved true c.evict_at.new.self c.evict_at.new.pager =
    reclaimed-next c.args.self.now c.args.pager.now c.loop-moved.moved (so_far c.loop-moved.moved false c.loop-moved.self c.loop-moved.pager) _ c.loop-moved.invariant
    (one-more c.loop-moved.moved c.loop-moved.self c.loop-moved.pager (c.in-Some.place, c.in-Some.hand) false c.evict_at.new.self c.evict_at.new.pager found
    (sym c.if-is_err.ensures.negation ∙ c.evict_at.ensures.done) c.evict_at.ensures.memory c.evict_at.ensures.pager) in
    ends-at c.args.self.now c.args.pager.now (c.loop-moved.moved + 1) c.args.count (so_far c.loop-moved.moved true c.evict_at.new.self c.evict_at.new.pager) now more
    (failed-more c.loop-moved.moved c.evict_at.new.self c.evict_at.new.pager)

pub loop-moved-preserved : goal.loop-moved-preserved
loop-moved-preserved c =
    let found : victim_of c.loop-moved.self.words c.loop-moved.self.hand ≡ Some (c.in-Some.place, c.in-Some.hand) =
    ap (λ (m : MemoryState). victim_of m.words m.hand) (sym c.self.view_is) ∙ sym c.in-Some.ensures.chosen in
    reclaimed-next c.args.self.now c.args.pager.now c.loop-moved.moved (so_far c.loop-moved.moved false c.loop-moved.self c.loop-moved.pager) _ c.loop-moved.invariant
    (one-more c.loop-moved.moved c.loop-moved.self c.loop-moved.pager (c.in-Some.place, c.in-Some.hand) true c.evict_at.new.self c.evict_at.new.pager found
    (sym c.if-is_err.ensures.negation ∙ c.evict_at.ensures.done) c.evict_at.ensures.memory c.evict_at.ensures.pager)

-- all of them were moved
all : (c : After-loop-moved) → reclaimed c.args.self.now c.args.pager.now c.args.count ≡ so_far c.args.count false c.loop-moved.self c.loop-moved.pager
all c =
    let last : c.loop-moved.moved ≡ c.args.count = omega (arith, c.loop-moved-test.false, c.loop-moved.auto.moved-end) in
    ap (reclaimed c.args.self.now c.args.pager.now) (sym last) ∙ c.loop-moved.invariant ∙ ap (λ n. so_far n false c.loop-moved.self c.loop-moved.pager) last

pub returns-in_default-clause-count : goal.returns-in_default-clause-count
returns-in_default-clause-count c = ap (λ (r : Reclaimed). r.count) (sym (none c))

pub returns-in_default-clause-paging : goal.returns-in_default-clause-paging
returns-in_default-clause-paging c = ap (λ (r : Reclaimed). r.paging) (sym (none c))

pub returns-in_default-clause-memory : goal.returns-in_default-clause-memory
returns-in_default-clause-memory c = ap (λ (r : Reclaimed). r.memory) (sym (none c))

pub returns-in_default-clause-pager : goal.returns-in_default-clause-pager
returns-in_default-clause-pager c = ap (λ (r : Reclaimed). r.pager) (sym (none c))

pub returns-then-is_err-clause-count : goal.returns-then-is_err-clause-count
returns-then-is_err-clause-count c = ap (λ (r : Reclaimed). r.count) (sym (failed c))

pub returns-then-is_err-clause-paging : goal.returns-then-is_err-clause-paging
returns-then-is_err-clause-paging c = ap (λ (r : Reclaimed). r.paging) (sym (failed c))

pub returns-then-is_err-clause-memory : goal.returns-then-is_err-clause-memory
returns-then-is_err-clause-memory c = ap (λ (r : Reclaimed). r.memory) (sym (failed c))

pub returns-then-is_err-clause-pager : goal.returns-then-is_err-clause-pager
returns-then-is_err-clause-pager c = ap (λ (r : Reclaimed). r.pager) (sym (failed c))

pub returns-clause-count : goal.returns-clause-count
returns-clause-count c = ap (λ (r : Reclaimed). r.count) (sym (all c))

pub returns-clause-paging : goal.returns-clause-paging
returns-clause-paging c = ap (λ (r : Reclaimed). r.paging) (sym (all c))

pub returns-clause-memory : goal.returns-clause-memory
returns-clause-memory c = ap (λ (r : Reclaimed). r.memory) (sym (all c))

pub returns-clause-pager : goal.returns-clause-pager
returns-clause-pager c = ap (λ (r : Reclaimed). r.pager) (sym (all c))
