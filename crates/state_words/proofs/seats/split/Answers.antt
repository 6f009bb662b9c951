use Rattle.state_words.proofs.Looking.{split_allows}
use Rattle.state_words.proofs.seats.split.Goals as goal

pub split_seat-requires : goal.split_seat-requires
split_seat-requires g c = (c.requires.table, c.requires.some_page, split_allows g.B.Body.body g.B.Body.house _ _ _ c.requires.used)
