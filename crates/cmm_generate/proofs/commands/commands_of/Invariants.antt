use Rattle.std.proofs.Common.{◌≡◌, ◌++◌, drop}
use Rattle.cmm_generate.specs.Generated.{commands_of}
use Rattle.cmm_generate.proofs.commands.commands_of.Given as goal

abbrev pub invariant-loop-j : goal.invariant-loop-j
invariant-loop-j l = commands_of l.guest l.cpu 0 l.ops ≡ l.its.items ++ commands_of l.guest l.cpu l.j (drop l.j l.ops)
