use Rattle.std.proofs.lemmas.List.Elements.{All-take}
use Rattle.page_arena.specs.FrameView.{IsOf, first_frames}
use Rattle.page_arena.specs.Laws.FrameLaws.{first_frames_are_of}
use Rattle.page_arena.proofs.tests.close_with.Goals as goal

pub close-requires : goal.close-requires
close-requires c =
    rw (c.truncate.ensures.items, c.in_ok-region.ensures.frames) (All-take (IsOf c.in_ok-region.region) c.args.kept (first_frames c.in_ok-region.region) (first_frames_are_of c.in_ok-region.region))
