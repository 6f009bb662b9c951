use Rattle.std.proofs.Common.{◌≡◌, ◌+◌, ◌≤◌, map, Some, vec_len, vec_capacity}
use Rattle.std.specs.Vec.Iter.{drain_len}
use Rattle.page_arena.specs.FrameView.{FrameView}
use Rattle.frame_pool.proofs.opening.slots_of.Given as goal

abbrev pub invariant-loop-frame : goal.invariant-loop-frame
invariant-loop-frame l = record { items : l.slots.items ≡ map (λ (f : FrameView). Some f) l.yielded; room : vec_len l.slots + drain_len l.frame-iterator ≤ vec_capacity l.slots }
