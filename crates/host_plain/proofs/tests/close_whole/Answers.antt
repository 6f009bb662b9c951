use Rattle.std.proofs.Common.{drop, subst}
use Rattle.std.specs.Prelude.{All}
use Rattle.page_arena.specs.FrameView.{IsOf}
use Rattle.host_plain.proofs.tests.close_whole.Goals as goal

pub close-requires : goal.close-requires
close-requires c = subst (λ n. All (IsOf c.close-region.result) (drop n c.close-region.new.into.items)) c.in_ok-frames.ensures.len c.close-region.ensures.of_region
