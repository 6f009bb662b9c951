use Rattle.std.proofs.Common.{◌≡◌, length, sym, ◌∙◌, arith}
use Rattle.page_pieces.proofs.Shows.{nothing_shown}
use Rattle.page_pieces.proofs.piece.Piece.bytes.Goals as goal

pub returns-then-len-eq0-clause-bytes : goal.returns-then-len-eq0-clause-bytes
returns-then-len-eq0-clause-bytes c =
    let items = c.self.inside.written.items in
    let none : length items ≡ 0 = omega (arith, c.self.inside.written.ok.0, c.len.ensures, c.if-len-eq0.true) in
    sym (nothing_shown items none) ∙ c.self.view_is
