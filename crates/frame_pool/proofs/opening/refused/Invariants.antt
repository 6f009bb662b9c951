use Rattle.std.proofs.Common.{◌≡◌, ◌+◌, ◌≤◌, map, Some, vec_len, vec_capacity}
use Rattle.std.specs.Vec.Iter.{into_iter_len}
use Rattle.page_arena.specs.FrameView.{FrameView}
use Rattle.frame_pool.proofs.opening.refused.Given as goal

abbrev pub invariant-loop-slot : goal.invariant-loop-slot
invariant-loop-slot l = record { items : map (λ (f : FrameView). Some f) l.emptied.items ≡ l.yielded; room : vec_len l.emptied + into_iter_len l.slot-iterator ≤ vec_capacity l.emptied }
