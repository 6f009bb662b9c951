use Rattle.std.proofs.Common.{◌≡◌, ◌≤◌, ◌+◌, replicate, vec_capacity}
use denote.RawPtr.{InBlock}
use Rattle.cmm_types.specs.declared.page.TheConstants.{PAGE}
use Rattle.page_pieces.proofs.piece.pieces.Given as goal

abbrev pub invariant-loop : goal.invariant-loop
invariant-loop l =
    (l.made.items ≡ replicate l.counter (replicate PAGE 0))
    × (l.fn.count ≤ vec_capacity l.made)
    × InBlock l.ptr
    × (l.rest.ptr ≡ l.ptr)
    × (l.rest.count + l.counter ≡ l.fn.count)
    × (l.rest.life ≡ l.block.value.life)
