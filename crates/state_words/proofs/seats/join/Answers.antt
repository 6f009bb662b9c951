use Rattle.state_words.proofs.Looking.{join_allows}
use Rattle.state_words.proofs.seats.join.Goals as goal

pub join_seat-requires : goal.join_seat-requires
join_seat-requires g c = (
  c.requires.table.0,
  c.requires.table.1,
  c.requires.idle.1,
  c.requires.some_page,
  join_allows g.B.Body.body g.B.Body.house _ _ _ _ _ c.requires.idle.0 c.requires.idle.2,
)
