use Rattle.std.proofs.Common.{◌≡◌, ◌+◌, ◌<◌, ◌≤◌, ℕ, false, get_or, ◌++◌}
use Rattle.std.specs.Prelude.{vec_len, vec_capacity}
use Rattle.std.specs.Mem.Slots.{slots_filled, slots_items, slots_len}
use Rattle.std.specs.Mem.Slots.Ownership.{Filled}
use Rattle.frame_pool.specs.Closing.{count_out}
use Rattle.frame_pool.proofs.Ending.{frames_in}
use Rattle.frame_pool.proofs.closing.close.Given as goal

abbrev pub invariant-loop-place : goal.invariant-loop-place
invariant-loop-place l = record {
  words : l.closed.words ≡ l.initial.closed.words;
  items : slots_items l.closed.slots ≡ slots_items l.initial.closed.slots;
  count : slots_len l.closed.slots ≡ slots_len l.initial.closed.slots;
  full : Filled (slots_filled l.closed.slots) l.place (slots_len l.closed.slots);
  taken : (k : ℕ) → k < l.place → get_or (slots_filled l.closed.slots) k false ≡ false;
  into : l.into.items ≡ l.fn.into.items ++ frames_in (slots_items l.initial.closed.words) (slots_items l.initial.closed.slots) l.place;
  room : vec_len l.into + l.frames ≤ vec_capacity l.into + l.place;
  out : l.out ≡ count_out (slots_items l.initial.closed.words) l.place;
}
