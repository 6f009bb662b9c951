use Rattle.std.proofs.Common.{◌≡◌, length}
use Rattle.cmm_generate.specs.Draws.{Draws, below, times}
use Rattle.cmm_generate.proofs.numbers.bytes.Given as goal

abbrev pub invariant-loop : goal.invariant-loop
invariant-loop l = record {
  drawn : Draws (times l.counter (below 256)) l.fn.numbers.number l.numbers.number l.bytes.items;
  count : length l.bytes.items ≡ l.counter;
}
