use Rattle.std.proofs.Common.{◌≡◌, ◌+◌, ◌<◌, ◌≤◌, ◌∙◌, List, length, None, ap, sym, subst, arith, rules, slice_set, vec_len, vec_capacity}
use Rattle.std.specs.Prelude.{All}
use Rattle.std.specs.Prelude.{Option, is_some, if◌then◌else◌}
use Rattle.std.proofs.lemmas.List.Elements.{All-push, All-set}
use Rattle.page_arena.specs.FrameView.{FrameView, IsOf}
use Rattle.cmm_types.specs.declared.page.Move.TheVariants.{Bring}
use Rattle.essa_state.specs.PageBody.{moved_body}
use Rattle.host_plain.specs.Bodies.{PageParts, IsFramedOf, body_of, frames_in, framed_of}
use Rattle.host_plain.proofs.Framed.{inside-of, taken, absent-frame, framed-set}
use Rattle.host_plain.proofs.Closing.{last-of, page-of}
use Rattle.host_plain.proofs.bodies.Bodies.bring.Goals as goal

pub returns-in-Ok-clause-body : goal.returns-in-Ok-clause-body
returns-in-Ok-clause-body c =
    let had : c.index_mut-page.result.now.frame ≡ None =
    absent-frame c.self.inside.pages.items c.self.inside.free.items c.self.inside.frames c.args.place c.index_mut-page.result.now c.args.self.now c.self.view_is c.requires.place
    c.index_mut-page.ensures.value c.requires.absent in
    taken c.self.inside.pages.items c.self.inside.free.items c.self.inside.frames c.args.place c.index_mut-page.result.now c.bring.new.self (moved_body Bring) c.args.self.now c.self.view_is
    c.requires.place c.index_mut-page.ensures.value (ap body_of c.in-Ok.ensures.parts)
    c.pop.new.self.items c.unwrap-frame.result c.pop.result c.index_mut-page.result.now.block had c.pop.ensures.items c.unwrap-frame.ensures
    (ap (λ (p : PageParts). p.frame) c.in-Ok.ensures.parts)

pub invariant_of-self : goal.invariant_of-self
invariant_of-self c =
    let below : c.args.place < length c.self.inside.pages.items =
    inside-of c.self.inside.pages.items c.self.inside.free.items c.self.inside.frames c.args.place c.args.self.now c.self.view_is c.requires.place in
    let had : c.index_mut-page.result.now.frame ≡ None =
    absent-frame c.self.inside.pages.items c.self.inside.free.items c.self.inside.frames c.args.place c.index_mut-page.result.now c.args.self.now c.self.view_is c.requires.place
    c.index_mut-page.ensures.value c.requires.absent in
    let none : frames_in c.index_mut-page.result.now ≡ 0 = ap (λ (o : Option FrameView). if is_some o then 1 else 0) had in
    let one : frames_in c.bring.new.self ≡ 1 = ap frames_in c.in-Ok.ensures.parts in
    let fewer : vec_len c.pop.new.self + 1 ≡ vec_len c.self.inside.free = search rules in
    let balance : vec_len c.pop.new.self + framed_of (slice_set c.self.inside.pages.items c.args.place c.bring.new.self) ≡ c.self.inside.frames =
    omega (arith, c.self.invariant.0, framed-set c.self.inside.pages.items c.args.place c.index_mut-page.result.now c.bring.new.self below c.index_mut-page.ensures.value, none, one, fewer) in
    let room : c.self.inside.frames ≤ vec_capacity c.pop.new.self = search rules in
    let last = last-of c.self.inside.region c.self.inside.free.items c.pop.new.self.items c.unwrap-frame.result c.pop.result c.self.invariant.3.1 c.pop.ensures.items c.unwrap-frame.ensures in
    let is : IsFramedOf c.self.inside.region c.bring.new.self = subst (λ (p : PageParts). IsFramedOf c.self.inside.region p) (sym c.in-Ok.ensures.parts) last.1 in
    (balance, room, c.self.invariant.2, (All-set (IsFramedOf c.self.inside.region) c.self.inside.pages.items c.args.place c.bring.new.self is c.self.invariant.3.0, last.0))

pub invariant_of-self-in-Err : goal.invariant_of-self-in-Err
invariant_of-self-in-Err c =
    let below : c.args.place < length c.self.inside.pages.items =
    inside-of c.self.inside.pages.items c.self.inside.free.items c.self.inside.frames c.args.place c.args.self.now c.self.view_is c.requires.place in
    let fewer : vec_len c.pop.new.self + 1 ≡ vec_len c.self.inside.free = search rules in
    let same : frames_in c.bring.new.self ≡ frames_in c.index_mut-page.result.now = ap frames_in c.in-Err.ensures.same in
    let balance : vec_len c.give_back.new.free + framed_of (slice_set c.self.inside.pages.items c.args.place c.bring.new.self) ≡ c.self.inside.frames =
    omega (
      arith,
      c.self.invariant.0,
      framed-set c.self.inside.pages.items c.args.place c.index_mut-page.result.now c.bring.new.self below c.index_mut-page.ensures.value,
      same,
      fewer,
      c.give_back.ensures.len,
    ) in
    let room : c.self.inside.frames ≤ vec_capacity c.give_back.new.free = search rules in
    let last = last-of c.self.inside.region c.self.inside.free.items c.pop.new.self.items c.unwrap-frame.result c.pop.result c.self.invariant.3.1 c.pop.ensures.items c.unwrap-frame.ensures in
    let was : IsFramedOf c.self.inside.region c.index_mut-page.result.now =
    page-of c.self.inside.region c.self.inside.pages.items c.args.place c.index_mut-page.result.now c.self.invariant.3.0 below c.index_mut-page.ensures.value in
    let is : IsFramedOf c.self.inside.region c.bring.new.self = subst (λ (p : PageParts). IsFramedOf c.self.inside.region p) (sym c.in-Err.ensures.same) was in
    let unused : IsOf c.self.inside.region c.in-Err.unused = ap (λ (f : FrameView). f.region) c.in-Err.ensures.frame ∙ last.1 in
    let free : All (IsOf c.self.inside.region) c.give_back.new.free.items =
    subst (λ (fs : List FrameView). All (IsOf c.self.inside.region) fs) (sym c.give_back.ensures.frames) (All-push (IsOf c.self.inside.region) c.pop.new.self.items c.in-Err.unused last.0 unused) in
    (balance, room, c.self.invariant.2, (All-set (IsFramedOf c.self.inside.region) c.self.inside.pages.items c.args.place c.bring.new.self is c.self.invariant.3.0, free))
