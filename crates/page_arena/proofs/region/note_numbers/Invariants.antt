use Rattle.std.proofs.Common.{◌≡◌, ◌<◌, ℕ, false, take, length, get_or}
use Rattle.page_arena.specs.FrameView.{has_number}
use Rattle.page_arena.proofs.region.note_numbers.Given as goal

abbrev pub invariant-loop-frame : goal.invariant-loop-frame
invariant-loop-frame l = (k : ℕ) → k < length l.back → get_or l.back k false ≡ has_number (take l.frame-index l.frames) k
