use Rattle.std.proofs.Common.{◌<◌, ◌^◌, ℕ}
use Rattle.cmm_world.specs.WorldView.{discards_of}
use Rattle.cmm2_cli.proofs.numbers.read_discards.Given as goal

-- so it is of the guests so far
abbrev pub invariant-loop-guest : goal.invariant-loop-guest
invariant-loop-guest l = (guest : ℕ) → guest < l.guest → discards_of l.world.state guest < 2 ^ 64
