use Rattle.std.proofs.Common.{◌≡◌, ◌≤◌, ◌+◌, All, map, replicate, vec_capacity, vec_len}
use Rattle.std.specs.List.{range_with_len}
use Rattle.std.specs.Vec.Iter.{into_iter_items, into_iter_len}
use Rattle.cmm_types.specs.declared.page.TheConstants.{PAGE}
use Rattle.page_arena.specs.FrameView.{zero_frame}
use Rattle.page_arena.proofs.region.Region.new.Given as goal

abbrev pub invariant-loop-bytes : goal.invariant-loop-bytes
invariant-loop-bytes l =
    (l.frames.items ≡ map (zero_frame (record { name = l.mark; count = l.count })) (range_with_len 0 l.number))
    × (vec_len l.frames + into_iter_len l.bytes-iterator ≤ vec_capacity l.frames)
    × (l.number + into_iter_len l.bytes-iterator ≡ l.count)
    × All (λ bytes. bytes ≡ replicate PAGE 0) (into_iter_items l.bytes-iterator)
