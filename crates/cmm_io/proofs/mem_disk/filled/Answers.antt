use Rattle.std.proofs.Common.{◌++◌, length, drop, replicate, ap, ◌∙◌}
use Rattle.std.proofs.lemmas.List.{drop-replicate}
use Rattle.cmm_types.specs.declared.page.TheConstants.{PAGE}
use Rattle.cmm_io.proofs.mem_disk.filled.Goals as goal

pub returns : goal.returns
returns c =
    ap (λ front. front ++ drop (length c.args.head.now) (replicate PAGE 0)) c.copy_from_slice.ensures.after ∙ ap (λ rest. c.args.head.now ++ rest) (drop-replicate (length c.args.head.now) PAGE 0)
