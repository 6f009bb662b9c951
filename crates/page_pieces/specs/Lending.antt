-- What a piece is once its bytes, lent for writing, come back.
use Rattle.std.specs.Prelude.{ℕ, List, ◌++◌, length, take, drop}
use Rattle.std.specs.Borrow.{Lends, MutBor, Fml, u8, Array}
use Rattle.page_pieces.specs.contracts.piece.Piece.{the_row}

-- these bytes. Where they have another length they are cut, or filled up from the piece's own
abbrev pub piece_with_bytes : List ℕ → List ℕ → List ℕ
piece_with_bytes own bytes = take (length own) (bytes ++ drop (length bytes) own)

-- the piece ends with the bytes that were left behind the slice
abbrev pub LendsPiece : MutBor (List ℕ) → MutBor (List ℕ) → Fml
LendsPiece piece bytes = Lends the_row (Array u8 0) piece bytes (piece_with_bytes piece.now)
