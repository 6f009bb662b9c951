use Rattle.std.proofs.Common.{◌≡◌, ◌+◌, All, length}
use Rattle.std.specs.Vec.Iter.{into_iter_len}
use Rattle.state_words.specs.WordsRule.{FitsStart}
use Rattle.host_shared.specs.Bodies.{lent_body, body_house}
use Rattle.cmm_vcpu.proofs.open.open_bodies.Given as goal

abbrev pub invariant-loop-block : goal.invariant-loop-block
invariant-loop-block l =
    (l.seat ≡ l.fn.seat)
    × (length l.bodies.items + into_iter_len l.block-iterator ≡ l.count)
    × All (FitsStart lent_body body_house l.pool.table) l.bodies.items
