use Rattle.std.proofs.Common.{◌≡◌, refl, ap, ◌∙◌, length}
use Rattle.page_arena.specs.FrameView.{frame_with_bytes}
use Rattle.page_arena.proofs.frame.Frame.bytes_mut.Goals as goal

pub returns : goal.returns
returns c =
    let at_hand : c.bytes_mut.result.now ≡ c.self.inside.bytes = c.bytes_mut.ensures.bytes in (
      (refl, λ w. ap (λ v. frame_with_bytes v w) c.self.view_is),
      record { writes = tt; bytes = rw (← c.self.view_is) at_hand; whole = ap length at_hand ∙ c.self.invariant.1 },
    )
