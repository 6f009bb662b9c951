use Rattle.std.proofs.Common.{rules, ◌≡◌, ◌∙◌, arith}
use Rattle.cmm_io.specs.DiskOf.{page_at, file_bytes}
use Rattle.cmm_io.proofs.Pages.{page_of_file}
use Rattle.cmm_io.proofs.DiskBlocks.{page_more}
use Rattle.cmm_io.proofs.mem_disk.add_file.Goals as goal

pub loop-index-preserved : goal.loop-index-preserved
loop-index-preserved c =
    let page : c.take_block.result ≡ page_at (file_bytes c.args.file.now) c.loop-index.index =
    page_of_file c.args.file.now c.as_slice-head.result.now _ c.loop-index.index c.min-start.result c.min-end.result c.as_slice-head.ensures c.requires.range.head c.loop-index-test.true
    (omega (arith, c.min-start.ensures)) (omega (arith, c.min-end.ensures)) c.take_block.ensures.block in
    (c.in_ok-push.ensures.items ∙ page_more _ _ _ (page_at (file_bytes c.args.file.now)) _ c.loop-index.invariant.0 page, search rules, search rules)
