use Rattle.std.proofs.Common.{◌≡◌, ◌≤◌, length, take, vec_capacity}
use Rattle.std_alloc.specs.Vec.{vec_ptr}
use Rattle.page_pieces.proofs.piece.copied.Given as goal

abbrev pub invariant-loop-byte : goal.invariant-loop-byte
invariant-loop-byte l =
    (l.room.items ≡ take l.byte-index l.bytes)
    × (l.byte-index ≤ length l.bytes)
    × (vec_capacity l.room ≡ vec_capacity l.fn.room)
    × (vec_ptr l.room ≡ vec_ptr l.fn.room)
