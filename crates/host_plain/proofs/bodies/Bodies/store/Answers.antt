use Rattle.std.proofs.Common.{◌≡◌, ◌∙◌, ap, is_some, true}
use Rattle.cmm_types.specs.Bytes.{with_bytes}
use Rattle.essa_state.specs.PageBody.{Body, frame_bytes}
use Rattle.host_plain.specs.MemoryState.{body_with_bytes}
use Rattle.host_plain.specs.Bodies.{body_of, frame_number_of}
use Rattle.host_plain.proofs.Framed.{written, there-frame, written-body, written-number}
use Rattle.host_plain.proofs.bodies.Bodies.store.Goals as goal

pub returns : goal.returns
returns c =
    let had : is_some c.index_mut-page.result.now.frame ≡ true =
    there-frame c.self.inside.pages.items c.self.inside.free.items c.self.inside.frames c.args.place c.index_mut-page.result.now c.args.self.now c.self.view_is c.requires.place
    c.index_mut-page.ensures.value c.requires.resident in
    written c.self.inside.pages.items c.self.inside.free.items c.self.inside.frames c.args.place c.index_mut-page.result.now c.store.new.self
    (λ (b : Body). body_with_bytes b (with_bytes (frame_bytes b) c.args.off c.args.from.now))
    c.args.self.now c.self.view_is c.requires.place c.index_mut-page.ensures.value (ap body_of c.store.ensures ∙ written-body c.index_mut-page.result.now c.args.off c.args.from.now had)
    (ap frame_number_of c.store.ensures ∙ written-number c.index_mut-page.result.now c.args.off c.args.from.now)
