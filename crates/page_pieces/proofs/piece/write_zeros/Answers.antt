use Rattle.std.proofs.Common.{◌≡◌, length, sym, ◌∙◌, arith}
use Rattle.page_pieces.proofs.Shows.{nothing_shown}
use Rattle.page_pieces.proofs.piece.write_zeros.Goals as goal

pub returns-then-len-eq0-clause-items : goal.returns-then-len-eq0-clause-items
returns-then-len-eq0-clause-items c =
    let none : length c.args.written.now.items ≡ 0 = omega arith
    in c.zeroed.ensures.items ∙ sym (nothing_shown c.args.written.now.items none)
