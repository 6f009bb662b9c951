-- What calls leave of a storage's supply.
use Rattle.std.specs.Prelude.{◌≡◌, ℕ, zero, suc, ◌+◌, ◌≤◌, List, Result, Ok, Err}
use Rattle.std.proofs.Common.{arith, ap, ◌∙◌}
use Rattle.cmm_io.specs.FailurePlan.{FailurePlan, after_next}
use Rattle.cmm_io.specs.declared.failed.Failed.{Failed}
use Rattle.cmm_pager.specs.PagerCall.{PagerCall, Get}
use Rattle.cmm_pager.specs.PagerFollows.{PagerFollows}
use Rattle.cmm_pager.specs.PagerStep.{PagerStep, block_tells}
use Rattle.frame_pool.specs.Seats.{PoolSeatView}
use Rattle.host_shared.specs.Reclaiming.{PutsOnce, freed_of, given_more}
use Rattle.host_shared.specs.PagerCalls.{after_calls, PagerCalled, GetsOnce}
use Rattle.host_shared.specs.Finding.{KeepsSupply}
use Rattle.host_shared.specs.declared.reclaim.Outcome.{Outcome}
use Rattle.host_shared.specs.declared.reclaim.Outcome.TheVariants.{Discarded, Preserved, Aged, Left, Busy, Paging}
use Rattle.host_shared.specs.declared.search.Supply.{Supply}

pub called_none : (p q : FailurePlan) → q ≡ p → PagerCalled p q
called_none p q same = (0, same)

pub called_once : (p q : FailurePlan) → q ≡ after_next p → PagerCalled p q
called_once p q once = (1, once)

calls-add : (more calls : ℕ) (p : FailurePlan) → after_calls more (after_calls calls p) ≡ after_calls (more + calls) p
calls-add zero calls p = let e : calls ≡ 0 + calls = omega arith in ap (λ (n : ℕ). after_calls n p) e
calls-add (suc more) calls p = let e : suc (more + calls) ≡ suc more + calls = omega arith in ap after_next (calls-add more calls p) ∙ ap (λ (n : ℕ). after_calls n p) e

pub called_on : (p q r : FailurePlan) → PagerCalled p q → PagerCalled q r → PagerCalled p r
called_on p q r first second = (second.0 + first.0, second.1 ∙ ap (after_calls second.0) first.1 ∙ calls-add second.0 first.0 p)

-- a step of the pager in memory
abbrev pub MemStep : FailurePlan → PagerCall (List ℕ) → FailurePlan → Type 0
MemStep p call q = PagerStep p call q × PagerFollows block_tells p.faults call q.faults

pub puts_called : (outcome : Outcome) (p q : FailurePlan) → PutsOnce MemStep outcome p q → PagerCalled p q
puts_called Discarded p q same = called_none p q same
puts_called Preserved p q (before, after, bytes, step) = called_once p q step.0.2
puts_called Aged p q same = called_none p q same
puts_called (Left raw) p q same = called_none p q same
puts_called (Busy raw) p q same = called_none p q same
puts_called Paging p q (before, after, bytes, failed, step) = called_once p q step.0.2

got : (block : List ℕ) (answer : Result Unit Failed) (bytes : List ℕ) (p q : FailurePlan) → MemStep p (Get block answer bytes) q → q ≡ after_next p
got block (Ok done) bytes p q step = step.0.2
got block (Err failed) bytes p q step = step.0.1

pub gets_called : (p q : FailurePlan) → GetsOnce MemStep p q → PagerCalled p q
gets_called p q once = called_once p q (got once.0 once.1 once.2 p q once.3)

pub keeps_none : (s t : Supply) → t.seat.pool ≡ s.seat.pool → t.pager ≡ s.pager → KeepsSupply s t
keeps_none s t pool same = let faults : t.pager.faults ≡ s.pager.faults = ap (λ (p : FailurePlan). p.faults) same in
    record { pool = pool; calls = called_none s.pager t.pager same; faults = omega arith }

pub keeps_on : (s t u : Supply) → KeepsSupply s t → KeepsSupply t u → KeepsSupply s u
keeps_on s t u first second = record {
  pool = second.pool ∙ first.pool;
  calls = called_on s.pager t.pager u.pager first.calls second.calls;
  faults = omega (arith, first.faults, second.faults);
}

-- a reclaim with the supply's seat and pager
pub keeps_reclaim : (s t : Supply) (outcome : Outcome) → PutsOnce MemStep outcome s.pager t.pager → t.seat ≡ given_more s.seat (freed_of outcome) → s.pager.faults ≤ t.pager.faults → KeepsSupply s t
keeps_reclaim s t outcome puts given falls = record { pool = ap (λ (q : PoolSeatView). q.pool) given; calls = puts_called outcome s.pager t.pager puts; faults = falls }

-- calls of the pager, and a frame that was given back
pub keeps_called : (s t : Supply) → t.seat.pool ≡ s.seat.pool → PagerCalled s.pager t.pager → s.pager.faults ≤ t.pager.faults → KeepsSupply s t
keeps_called s t pool calls falls = record { pool = pool; calls = calls; faults = falls }
