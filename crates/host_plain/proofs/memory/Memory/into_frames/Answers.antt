use Rattle.std.proofs.Common.{◌∙◌, ap}
use Rattle.page_arena.specs.FrameView.{missing}
use Rattle.host_plain.proofs.Closing.{none-missing}
use Rattle.host_plain.proofs.memory.Memory.into_frames.Goals as goal

pub returns-clause-all : goal.returns-clause-all
returns-clause-all c =
    ap (λ n. missing n c.into_frames.result.1.items) c.into_frames.ensures.count
    ∙ none-missing c.self.inside.bodies.frames c.self.inside.bodies.numbers c.into_frames.result.1.items c.self.invariant.numbers.once c.into_frames.ensures.numbers
