use Rattle.std.proofs.Common.{◌≡◌, take}
use Rattle.guest_core.proofs.copies.copy_commands.Given as goal

abbrev pub invariant-loop-op : goal.invariant-loop-op
invariant-loop-op l = l.copies.items ≡ take l.op-index l.commands
