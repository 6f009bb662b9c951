use Rattle.std.specs.Prelude.{◌≡◌, ℕ, List, length, replicate, Some}
use Rattle.std.proofs.Common.{ap, sym, ◌∙◌}
use Rattle.cmm_types.specs.declared.page.TheConstants.{PAGE}
use Rattle.cmm_types.specs.Bytes.{zero_page}
use Rattle.page_arena.specs.FrameView.{FrameView}
use Rattle.page_arena.specs.Laws.FrameLaws.{with_whole_bytes}
use Rattle.essa_state.specs.PageBody.{Body}
use Rattle.host_shared.specs.Bodies.{BodyParts}
use Rattle.host_shared.proofs.body.PageBody.fill.Goals as goal

pub returns-clause-body : goal.returns-clause-body
unfolding zero_page
returns-clause-body c =
    let frame : FrameView = c.args.loan.frame in
    let whole : length frame.bytes ≡ PAGE = sym (ap (λ (b : List ℕ). length b) c.bytes_mut.ensures.bytes) ∙ c.bytes_mut.ensures.whole in
    let same : length c.fill.new.self ≡ length frame.bytes = c.fill.ensures.len ∙ ap (λ (b : List ℕ). length b) c.bytes_mut.ensures.bytes in
    let filled : c.fill.new.self ≡ replicate PAGE 0 = c.fill.ensures.after (λ y h. h) ∙ ap (λ n. replicate n 0) c.bytes_mut.ensures.whole in
    ap (λ (f : FrameView). let b : Body = record { frame = Some f.bytes; block = c.self.inside.block } in b) (with_whole_bytes frame c.fill.new.self same)
    ∙ ap (λ (bytes : List ℕ). let b : Body = record { frame = Some bytes; block = c.self.inside.block } in b) filled
    ∙ ap (λ (p : BodyParts). let b : Body = record { frame = Some (replicate PAGE 0); block = p.block } in b) c.self.view_is
