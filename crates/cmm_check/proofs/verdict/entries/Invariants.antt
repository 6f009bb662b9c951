use Rattle.std.proofs.Common.{◌≡◌, ◌-◌, length}
use Rattle.cmm_check.specs.Journal.{no_lines_walked}
use Rattle.cmm_check.specs.Verdict.{entries_fit}
use Rattle.cmm_check.proofs.verdict.entries.Given as goal

abbrev pub invariant-loop : goal.invariant-loop
invariant-loop l = (entries_fit l.plan (no_lines_walked l.plan) l.count l.text ≡ entries_fit l.plan l.journal (l.count - l.counter) l.rest) × (length l.journal.walk.cpus ≡ length l.plan.cpus)
