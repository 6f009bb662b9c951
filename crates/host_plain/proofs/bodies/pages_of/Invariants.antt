use Rattle.std.proofs.Common.{◌≡◌, map}
use Rattle.std.specs.Prelude.{All}
use Rattle.host_plain.specs.MemoryState.{IsWholeBody}
use Rattle.host_plain.specs.Bodies.{body_of, without_frame}
use Rattle.host_plain.proofs.bodies.pages_of.Given as goal

abbrev pub invariant-loop-block : goal.invariant-loop-block
invariant-loop-block l = (l.pages.items ≡ map without_frame l.yielded) × All (λ page. IsWholeBody (body_of page)) l.pages.items
