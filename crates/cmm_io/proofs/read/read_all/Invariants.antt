use Rattle.std.proofs.Common.{◌≡◌, ◌≤◌, ◌+◌, ◌-◌, vec_len}
use Rattle.cmm_io.specs.SourceBytes.{HasTaken}
use Rattle.cmm_io.proofs.read.read_all.Given as goal

-- what was read was taken, and no read failed
abbrev pub invariant-loop-piece : goal.invariant-loop-piece
invariant-loop-piece g l = record {
  most : vec_len l.bytes ≤ l.limit + 1;
  taken : HasTaken g.S.Source.rest g.S.Source.given l.fn.src l.src l.bytes.items;
  no_fault : g.S.Source.faults l.src ≡ g.S.Source.faults l.fn.src;
}

abbrev pub decreases-loop-piece : goal.decreases-loop-piece
decreases-loop-piece g l = l.limit + 1 - vec_len l.bytes
