use Rattle.std.proofs.Common.{◌++◌, ◌∙◌, List, map, ap, sym, subst}
use Rattle.std.specs.Prelude.{All}
use Rattle.std.specs.List.{sum_by}
use Rattle.std.proofs.lemmas.List.Elements.{All-append}
use Rattle.page_arena.specs.FrameView.{FrameView, IsOf}
use Rattle.host_plain.specs.Numbering.{is_number}
use Rattle.host_plain.specs.Bodies.{frames_back}
use Rattle.host_plain.proofs.Closing.{back-of, all-numbers}
use Rattle.host_plain.proofs.bodies.Bodies.into_frames.Goals as goal

pub returns-clause-of_region : goal.returns-clause-of_region
returns-clause-of_region c =
    subst (λ (fs : List FrameView). All (IsOf c.self.inside.region) fs) (sym c.take_frames.ensures.frames)
    (All-append (IsOf c.self.inside.region) c.self.inside.free.items (frames_back c.self.inside.pages.items) c.self.invariant.3.1
    (back-of c.self.inside.region c.self.inside.pages.items c.self.invariant.3.0))

pub returns-clause-numbers : goal.returns-clause-numbers
returns-clause-numbers c = λ number.
    ap (λ (fs : List FrameView). sum_by (is_number number) (map (λ f. f.number) fs)) c.take_frames.ensures.frames
    ∙ all-numbers number c.self.inside.pages.items c.self.inside.free.items c.self.inside.frames c.args.self c.self.view_is
