use Rattle.std.proofs.Common.{ap}
use Rattle.page_pieces.specs.Shown.{shown}
use Rattle.page_pieces.proofs.piece.Piece.over.Goals as goal

pub returns : goal.returns
returns c = ap shown c.house.ensures.0
