use Rattle.std.proofs.Common.{◌≡◌, length, ap, sym, ◌∙◌, Some, replicate, ℕ, List}
use Rattle.cmm_types.specs.declared.page.TheConstants.{PAGE}
use Rattle.cmm_types.specs.Bytes.{zero_page}
use Rattle.page_arena.specs.FrameView.{FrameView}
use Rattle.page_arena.specs.Laws.FrameLaws.{with_whole_bytes}
use Rattle.host_plain.specs.Bodies.{PageParts}
use Rattle.host_plain.proofs.body.PageBody.fill.Goals as goal

pub returns : goal.returns
unfolding zero_page
returns c =
    let whole : length c.args.frame.bytes ≡ PAGE = sym (ap (λ (b : List ℕ). length b) c.bytes_mut.ensures.bytes) ∙ c.bytes_mut.ensures.whole in
    let same : length c.fill.new.self ≡ length c.args.frame.bytes = c.fill.ensures.len ∙ ap (λ (b : List ℕ). length b) c.bytes_mut.ensures.bytes in
    let filled : c.fill.new.self ≡ replicate PAGE 0 = c.fill.ensures.after (λ y h. h) ∙ ap (λ n. replicate n 0) c.bytes_mut.ensures.whole in
    ap (λ (f : FrameView). let p : PageParts = record { frame = Some f; block = c.self.inside.block } in p)
    (with_whole_bytes c.args.frame c.fill.new.self same ∙ ap (λ (bytes : List ℕ). let f : FrameView = record c.args.frame { bytes = bytes } in f) filled)
    ∙ ap (λ (p : PageParts). let q : PageParts = record p { frame = Some (record c.args.frame { bytes = replicate PAGE 0 }) } in q) c.self.view_is
