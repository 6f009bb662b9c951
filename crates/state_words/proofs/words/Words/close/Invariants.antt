use Rattle.std.proofs.Common.{◌≡◌, ◌<◌, ◌+◌, ℕ, get_or, false, take, count_by}
use Rattle.std.specs.Prelude.{vec_len, vec_capacity}
use Rattle.std.specs.Mem.Slots.{slots_filled, slots_len, slots_items}
use Rattle.std.specs.Mem.Slots.Ownership.{Filled}
use Rattle.state_words.specs.Closing.{is_busy_number, HasComeBack}
use Rattle.state_words.proofs.words.Words.close.Given as goal

abbrev pub invariant-loop-page : goal.invariant-loop-page
invariant-loop-page g l =
    (l.closed.words ≡ l.initial.closed.words)
    × (slots_items l.closed.slots ≡ slots_items l.initial.closed.slots)
    × (slots_len l.closed.slots ≡ slots_len l.initial.closed.slots)
    × Filled (slots_filled l.closed.slots) l.page (slots_len l.closed.slots)
    × ((k : ℕ) → k < l.page → get_or (slots_filled l.closed.slots) k false ≡ false)
    × (vec_len l.into + l.busy ≡ vec_len l.initial.into + l.page)
    × (vec_capacity l.into ≡ vec_capacity l.initial.into)
    × HasComeBack g.B.Body.house l.fn.self.house l.initial.into.items l.into.items l.busy l.page
    × (count_by is_busy_number (take l.page (slots_items l.initial.closed.words)) ≡ l.busy)
