use Rattle.std.proofs.Common.{◌≡◌, replicate}
use Rattle.essa_state.specs.PageValue.{opening_value}
use Rattle.cmm_storage.proofs.noisy.NoisyStorage.open.Given as goal

abbrev pub invariant-loop : goal.invariant-loop
invariant-loop l = l.all.items ≡ replicate l.counter opening_value
