-- Room names no thread.
use Rattle.std.proofs.Common.{ℕ}
use base.Shift.{Keyless}
use denote.RawPtr.{Ptr, block_ptr, null_ptr}
use Rattle.page_pieces.specs.Ownership.{room_owns}

pub room_owns-keyless : (p : Ptr) (n : ℕ) → Keyless (room_owns p n)
room_owns-keyless (block_ptr b o) n = tt
room_owns-keyless null_ptr n = tt
