use Rattle.std.proofs.Common.{◌≡◌, ◌≤◌, ◌+◌, ◌++◌, vec_len, vec_capacity}
use Rattle.host_plain.specs.Bodies.{framed_of, frames_back}
use Rattle.host_plain.proofs.bodies.take_frames.Given as goal

abbrev pub invariant-loop-page : goal.invariant-loop-page
invariant-loop-page l =
    (vec_len l.into + framed_of l.pages.items ≡ vec_len l.initial.into + framed_of l.initial.pages.items)
    × (vec_len l.initial.into + framed_of l.initial.pages.items ≤ vec_capacity l.into)
    × (l.into.items ++ frames_back l.pages.items ≡ l.initial.into.items ++ frames_back l.initial.pages.items)

abbrev pub decreases-loop-page : goal.decreases-loop-page
decreases-loop-page l = vec_len l.pages
