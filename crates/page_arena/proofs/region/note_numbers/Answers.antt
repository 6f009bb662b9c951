use Rattle.std.proofs.Common.{◌≡◌, length, ap, ◌∙◌, false, take}
use Rattle.std.proofs.lemmas.List.{take_all}
use Rattle.std.proofs.lemmas.List.FromFn.{fill_by_all}
use Rattle.page_arena.specs.FrameView.{has_number}
use Rattle.page_arena.proofs.region.note_numbers.Goals as goal

pub returns : goal.returns
returns c =
    let as_long : length c.loop-frame.back ≡ length c.args.back.now = c.loop-frame.auto.back ∙ c.fill.ensures.len in
    let all : take c.loop-frame.frame-index c.args.frames.now ≡ c.args.frames.now = take_all c.loop-frame.frame-index c.args.frames.now c.loop-frame-test.false in
    fill_by_all (has_number c.args.frames.now) c.loop-frame.back (length c.args.back.now) false as_long
    (λ k below. c.loop-frame.invariant k (rw as_long below) ∙ ap (λ frames. has_number frames k) all)
