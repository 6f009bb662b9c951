use Rattle.std.proofs.Common.{◌≡◌, replicate, ap, ◌∙◌, arith}
use Rattle.cmm_types.specs.declared.page.TheConstants.{PAGE}
use Rattle.page_pieces.proofs.piece.zeroed.Goals as goal

pub returns-clause-items : goal.returns-clause-items
returns-clause-items c =
    let whole : c.loop.counter ≡ PAGE = omega arith
    in c.loop.invariant.0 ∙ ap (λ n. replicate n 0) whole
