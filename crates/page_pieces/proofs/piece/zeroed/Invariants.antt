use Rattle.std.proofs.Common.{◌≡◌, replicate, vec_capacity}
use Rattle.std_alloc.specs.Vec.{vec_ptr}
use Rattle.page_pieces.proofs.piece.zeroed.Given as goal

abbrev pub invariant-loop : goal.invariant-loop
invariant-loop l =
    (l.room.items ≡ replicate l.counter 0)
    × (vec_capacity l.room ≡ vec_capacity l.fn.room)
    × (vec_ptr l.room ≡ vec_ptr l.fn.room)
