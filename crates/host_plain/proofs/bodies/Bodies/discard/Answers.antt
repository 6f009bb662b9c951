use Rattle.std.proofs.Common.{◌∙◌, ap, sym}
use Rattle.cmm_types.specs.declared.page.Move.TheVariants.{Discard}
use Rattle.essa_state.specs.PageBody.{moved_body}
use Rattle.host_plain.specs.Bodies.{PageParts, body_of}
use Rattle.host_plain.proofs.Framed.{freed}
use Rattle.host_plain.proofs.bodies.Bodies.discard.Goals as goal

pub returns-in-Some : goal.returns-in-Some
returns-in-Some c =
    freed c.self.inside.pages.items c.self.inside.free.items c.self.inside.frames c.args.place c.index_mut-page.result.now c.discard.new.self (moved_body Discard) c.args.self.now c.self.view_is
    c.requires.place c.index_mut-page.ensures.value (ap body_of c.discard.ensures.parts) c.give_back.new.free.items c.in-Some.frame
    (sym c.discard.ensures.frame ∙ c.in-Some.is) (ap (λ (p : PageParts). p.frame) c.discard.ensures.parts) c.give_back.ensures.frames
