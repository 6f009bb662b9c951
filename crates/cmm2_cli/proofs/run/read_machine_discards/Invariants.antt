use Rattle.std.proofs.Common.{◌<◌, ◌^◌, ℕ}
use Rattle.cmm2_cli.specs.Running.{looked_discards}
use Rattle.cmm2_cli.proofs.run.read_machine_discards.Given as goal

-- so it is of the guests so far
abbrev pub invariant-loop-guest : goal.invariant-loop-guest
invariant-loop-guest l = (guest : ℕ) → guest < l.guest → looked_discards l.machine guest < 2 ^ 64
