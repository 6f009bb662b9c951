use Rattle.std.proofs.Common.{◌≡◌, ◌+◌, ◌<◌, ◌≤◌, length, None, ap, sym, subst, arith, rules, slice_set, vec_len, vec_capacity}
use Rattle.std.specs.Prelude.{Option, is_some, if◌then◌else◌}
use Rattle.std.proofs.lemmas.List.Elements.{All-set}
use Rattle.cmm_types.specs.Bytes.{zero_page}
use Rattle.essa_state.specs.PageBody.{Body}
use Rattle.page_arena.specs.FrameView.{FrameView}
use Rattle.host_plain.specs.MemoryState.{body_with_bytes}
use Rattle.host_plain.specs.Bodies.{PageParts, IsFramedOf, body_of, frames_in, framed_of}
use Rattle.host_plain.proofs.Framed.{inside-of, taken, absent-frame, framed-set}
use Rattle.host_plain.proofs.Closing.{last-of}
use Rattle.host_plain.proofs.bodies.Bodies.fill.Goals as goal

pub returns : goal.returns
returns c =
    let had : c.index_mut-page.result.now.frame ≡ None =
    absent-frame c.self.inside.pages.items c.self.inside.free.items c.self.inside.frames c.args.place c.index_mut-page.result.now c.args.self.now c.self.view_is c.requires.place
    c.index_mut-page.ensures.value c.requires.absent in
    taken c.self.inside.pages.items c.self.inside.free.items c.self.inside.frames c.args.place c.index_mut-page.result.now c.fill.new.self
    (λ (b : Body). body_with_bytes b zero_page) c.args.self.now c.self.view_is
    c.requires.place c.index_mut-page.ensures.value (ap body_of c.fill.ensures) c.pop.new.self.items c.unwrap-frame.result c.pop.result zero_page had c.pop.ensures.items c.unwrap-frame.ensures
    (ap (λ (p : PageParts). p.frame) c.fill.ensures)

pub invariant_of-self : goal.invariant_of-self
invariant_of-self c =
    let below : c.args.place < length c.self.inside.pages.items =
    inside-of c.self.inside.pages.items c.self.inside.free.items c.self.inside.frames c.args.place c.args.self.now c.self.view_is c.requires.place in
    let had : c.index_mut-page.result.now.frame ≡ None =
    absent-frame c.self.inside.pages.items c.self.inside.free.items c.self.inside.frames c.args.place c.index_mut-page.result.now c.args.self.now c.self.view_is c.requires.place
    c.index_mut-page.ensures.value c.requires.absent in
    let none : frames_in c.index_mut-page.result.now ≡ 0 = ap (λ (o : Option FrameView). if is_some o then 1 else 0) had in
    let one : frames_in c.fill.new.self ≡ 1 = ap frames_in c.fill.ensures in
    let fewer : vec_len c.pop.new.self + 1 ≡ vec_len c.self.inside.free = search rules in
    let balance : vec_len c.pop.new.self + framed_of (slice_set c.self.inside.pages.items c.args.place c.fill.new.self) ≡ c.self.inside.frames =
    omega (arith, c.self.invariant.0, framed-set c.self.inside.pages.items c.args.place c.index_mut-page.result.now c.fill.new.self below c.index_mut-page.ensures.value, none, one, fewer) in
    let room : c.self.inside.frames ≤ vec_capacity c.pop.new.self = search rules in
    let last = last-of c.self.inside.region c.self.inside.free.items c.pop.new.self.items c.unwrap-frame.result c.pop.result c.self.invariant.3.1 c.pop.ensures.items c.unwrap-frame.ensures in
    let is : IsFramedOf c.self.inside.region c.fill.new.self = subst (λ (p : PageParts). IsFramedOf c.self.inside.region p) (sym c.fill.ensures) last.1 in
    (balance, room, c.self.invariant.2, (All-set (IsFramedOf c.self.inside.region) c.self.inside.pages.items c.args.place c.fill.new.self is c.self.invariant.3.0, last.0))
