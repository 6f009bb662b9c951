use Rattle.std.proofs.Common.{◌≡◌, ◌-◌}
use Rattle.cmm_check.specs.Verdict.{events_fit}
use Rattle.cmm_check.proofs.verdict.events.Given as goal

abbrev pub invariant-loop-number : goal.invariant-loop-number
invariant-loop-number l = events_fit 0 l.count l.text ≡ events_fit l.number (l.count - l.number) l.rest
