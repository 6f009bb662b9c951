-- The names that a lock's type begins with, before a call picks its own.
use Rattle.std.specs.Prelude.{[]}
use Rattle.atomic_table.specs.Seated.{TableId}
use Rattle.state_words.specs.SeatView.{WordsView, words_at}
use Rattle.frame_pool.specs.Seats.{PoolId}

abbrev pub no_table : TableId
no_table = record { words = 0; slots = 0; views_name = 0; atom = 0; block = 0; offset = 0; slot_names = [] }

abbrev pub no_words : WordsView
no_words = words_at no_table no_table

abbrev pub no_pool : PoolId
no_pool = record { table = no_table; region = record { name = 0; count = 0 } }
