use Rattle.state_words.proofs.Ruling.{held_where_busy, busy_where_held, one_holder, one_guest}
use Rattle.state_words.proofs.laws.one_seat_holds.Goals as goal

pub returns-clause-busy : goal.returns-clause-busy
returns-clause-busy g c house s page r inside =
    (held_where_busy g.B.Body.body g.B.Body.house house s page r inside, busy_where_held g.B.Body.body g.B.Body.house house s page r)

pub returns-clause-one_holder : goal.returns-clause-one_holder
returns-clause-one_holder g c = one_holder g.B.Body.body g.B.Body.house

pub returns-clause-one_guest : goal.returns-clause-one_guest
returns-clause-one_guest g c = one_guest g.B.Body.body g.B.Body.house
