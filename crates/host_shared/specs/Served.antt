-- A storage that is bound for a turn, by its parts: the storage, the words of all guests and the pool.
use Rattle.std.specs.Prelude.{List}
use Rattle.state_words.specs.SeatView.{WordsView}
use Rattle.frame_pool.specs.Seats.{PoolId}
use Rattle.host_shared.specs.Binding.{StorageState}
use Rattle.host_shared.specs.declared.bound.Bound.{Bound}

abbrev pub storage_of : Bound → StorageState
storage_of b = b.storage.now

abbrev pub bound_words : Bound → List WordsView
bound_words b = b.words.now

abbrev pub bound_pool : Bound → PoolId
bound_pool b = b.pool.now
