-- What a frame is once its bytes, lent for writing, come back.
use Rattle.std.specs.Prelude.{ℕ, List}
use Rattle.std.specs.Borrow.{Lends, MutBor, Fml, u8, Array}
use Rattle.page_arena.specs.FrameView.{FrameView, frame_with_bytes}
use Rattle.page_arena.specs.contracts.frame.Frame.{the_row}

-- the frame ends with the bytes that were left behind the slice, and keeps its region and its number
abbrev pub LendsBytes : MutBor FrameView → MutBor (List ℕ) → Fml
LendsBytes frame bytes = Lends the_row (Array u8 0) frame bytes (frame_with_bytes frame.now)
