use Rattle.std.proofs.Common.{◌≡◌, ◌∙◌, Option, ap, sym}
use Rattle.cmm_types.specs.declared.page.Move.TheVariants.{Preserve}
use Rattle.essa_state.specs.PageBody.{moved_body}
use Rattle.page_arena.specs.FrameView.{FrameView}
use Rattle.host_plain.specs.Bodies.{PageParts, body_of}
use Rattle.host_plain.proofs.Framed.{freed}
use Rattle.host_plain.proofs.bodies.Bodies.preserve.Goals as goal

pub returns-in-Ok-clause-body : goal.returns-in-Ok-clause-body
returns-in-Ok-clause-body c =
    let made : body_of c.preserve.new.self ≡ moved_body Preserve (body_of c.index_mut-page.result.now) =
    ap body_of c.in-Ok.ensures.parts
    ∙ ap (λ (o : Option FrameView). moved_body Preserve (body_of (record { frame = o; block = c.index_mut-page.result.now.block }))) (sym c.in-Ok.ensures.frame) in
    freed c.self.inside.pages.items c.self.inside.free.items c.self.inside.frames c.args.place c.index_mut-page.result.now c.preserve.new.self (moved_body Preserve) c.args.self.now c.self.view_is
    c.requires.place c.index_mut-page.ensures.value made c.give_back.new.free.items c.in-Ok.frame c.in-Ok.ensures.frame
    (ap (λ (p : PageParts). p.frame) c.in-Ok.ensures.parts) c.give_back.ensures.frames
