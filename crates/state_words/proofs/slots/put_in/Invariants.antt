use Rattle.std.proofs.Common.{◌≡◌, ◌+◌, ◌++◌, map, reverse, Some}
use Rattle.std.specs.Prelude.{vec_len, vec_capacity}
use Rattle.state_words.proofs.slots.put_in.Given as goal

abbrev pub invariant-loop-body : goal.invariant-loop-body
invariant-loop-body g l =
    (map Some l.initial.bodies.items ≡ map Some l.bodies.items ++ reverse l.slots.items)
    × (vec_len l.bodies + vec_len l.slots ≡ vec_len l.initial.bodies)
    × (vec_capacity l.slots ≡ vec_capacity l.initial.slots)
    × (vec_capacity l.bodies ≡ vec_capacity l.initial.bodies)

abbrev pub decreases-loop-body : goal.decreases-loop-body
decreases-loop-body g l = vec_len l.bodies
