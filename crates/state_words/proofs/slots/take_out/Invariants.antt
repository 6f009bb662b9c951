use Rattle.std.proofs.Common.{◌≡◌, ◌+◌, ◌++◌, reverse, is_some, true}
use Rattle.std.specs.Prelude.{All, vec_len, vec_capacity}
use Rattle.state_words.specs.Slots.{bodies_in}
use Rattle.state_words.proofs.slots.take_out.Given as goal

abbrev pub invariant-loop-slot : goal.invariant-loop-slot
invariant-loop-slot g l =
    (bodies_in l.initial.slots.items ≡ bodies_in l.slots.items ++ reverse l.bodies.items)
    × All (λ slot. is_some slot ≡ true) l.slots.items
    × (vec_len l.slots + vec_len l.bodies ≡ vec_len l.initial.slots)
    × (vec_capacity l.bodies ≡ vec_capacity l.initial.bodies)

abbrev pub decreases-loop-slot : goal.decreases-loop-slot
decreases-loop-slot g l = vec_len l.slots
