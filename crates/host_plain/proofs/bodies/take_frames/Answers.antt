use Rattle.std.proofs.Common.{◌≡◌, ◌+◌, ◌∷◌, ◌++◌, [], List, arith, ap, sym, ◌∙◌}
use Rattle.std.specs.Option.{option_to_list}
use Rattle.std.proofs.lemmas.List.{append_assoc}
use Rattle.page_arena.specs.FrameView.{FrameView}
use Rattle.host_plain.specs.Bodies.{frames_in, framed_of, frames_back}
use Rattle.std.proofs.lemmas.List.Sums.{sum_by-append}
use Rattle.host_plain.proofs.Closing.{frames_back-append}
use Rattle.host_plain.proofs.bodies.take_frames.Goals as goal

pub take_frame-requires : goal.take_frame-requires
take_frame-requires c =
    let parted : framed_of c.loop-page.pages.items ≡ framed_of c.pop.new.self.items + framed_of (c.in-Some.page ∷ []) =
    ap framed_of c.in-Some.ensures.items ∙ sum_by-append frames_in c.pop.new.self.items (c.in-Some.page ∷ []) in
    record { room = omega (arith, parted, c.loop-page.invariant.0, c.loop-page.invariant.1) }

pub loop-page-preserved : goal.loop-page-preserved
loop-page-preserved c =
    let parted : framed_of c.loop-page.pages.items ≡ framed_of c.pop.new.self.items + framed_of (c.in-Some.page ∷ []) =
    ap framed_of c.in-Some.ensures.items ∙ sum_by-append frames_in c.pop.new.self.items (c.in-Some.page ∷ []) in (
      omega (arith, parted, c.loop-page.invariant.0, c.take_frame.ensures.len),
      omega (arith, c.loop-page.invariant.1, c.take_frame.ensures.room),
      ap (λ (fs : List FrameView). fs ++ frames_back c.pop.new.self.items) c.take_frame.ensures.frames
          ∙ append_assoc c.loop-page.into.items (option_to_list c.in-Some.page.frame) (frames_back c.pop.new.self.items)
          ∙ ap (λ (fs : List FrameView). c.loop-page.into.items ++ fs) (sym (ap frames_back c.in-Some.ensures.items ∙ frames_back-append c.pop.new.self.items c.in-Some.page))
          ∙ c.loop-page.invariant.2,
    )
