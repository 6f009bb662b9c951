use Rattle.std.proofs.Common.{◌≡◌, ◌≤◌, ◌+◌, vec_capacity, vec_len}
use Rattle.std.specs.Vec.Iter.{into_iter_len}
use Rattle.cmm_pager.proofs.mem_pager.MemBlock.open_all.Given as goal

abbrev pub invariant-loop-bytes : goal.invariant-loop-bytes
invariant-loop-bytes l = (l.blocks.items ≡ l.yielded) × (vec_len l.blocks + into_iter_len l.bytes-iterator ≤ vec_capacity l.blocks)
