-- What clauses say of a seat at the pool's table.
use Rattle.std.specs.Prelude.{◌≡◌, ℕ, ◌+◌, ◌<◌, List, [], ◌∷◌, ◌≢◌, Some}
use Rattle.atomic_table.specs.Seated.{TableId}
use Rattle.atomic_table.specs.declared.badge.Badge.{Badge}
use Rattle.page_arena.specs.FrameView.{RegionView, FrameView}
use Rattle.frame_pool.specs.PoolRule.{IsFrameOf}
use Rattle.frame_pool.specs.Plays.{PoolSeated, view, spent_view}
use Rattle.frame_pool.specs.declared.view.PoolView.{PoolView}
use Rattle.frame_pool.specs.declared.view.Named.TheVariants.{Idle, Taken, Lent}

-- which pool it is: its table, and the region of its frames
pub record PoolId : Type 0 where
  pub table : TableId
  pub region : RegionView

-- how many frames the pool has, in and out
abbrev pub frame_count : PoolId → ℕ
frame_count pool = pool.table.slots

-- a seat between two calls
abbrev pub IsIdle : PoolSeated → Type 0
IsIdle m = m ≡ (view m.0.region Idle 0 m.0.next m.0.dry m.0.taken m.0.given, [])

-- a table with a word and a slot for each of n frames, and one word more
abbrev pub IsWide : TableId → ℕ → Type 0
IsWide table n = (table.slots ≡ n) × (table.words ≡ n + 1)

-- a seat that has taken the word, with its slot and its frame, since its view was v
abbrev pub TookWord : PoolView → ℕ → PoolSeated → Type 0
TookWord v word m = (f : FrameView) × (m ≡ (view v.region (Taken word) 0 m.0.next v.dry (v.taken + 1) v.given, (word, Some f) ∷ [])) × IsFrameOf v.region word f

-- a seat that goes round n frame words: k of them in order were found out, and `at` is the next
pub record IsScanning (n k at : ℕ) (v : PoolView) (m : PoolSeated) : Type 0 where
  pub idle : m ≡ (view v.region Idle m.0.run m.0.next m.0.dry v.taken v.given, [])
  pub some_left : k < n → (m.0.run ≡ k) × (m.0.dry ≡ v.dry)
  pub none_left : k ≡ n → (m.0.run ≡ 0) × (m.0.dry ≡ v.dry + 1)
  pub place : k ≢ 0 → m.0.next ≡ at

-- a seat that names a word without its slot, as in a loan
abbrev pub IsLending : RegionView → ℕ → PoolSeated → Type 0
IsLending region word m = m ≡ (view region (Lent word) m.0.run m.0.next m.0.dry 0 0, [])

-- the view of a badge that has one
abbrev pub sole_view : List PoolView → PoolView
sole_view [] = spent_view
sole_view (v ∷ vs) = v

abbrev pub pool_id : TableId → RegionView → PoolId
pool_id table region = record { table = table; region = region }

-- what contracts see of a seat: its pool, how often it found all frames out, and how many frames it took and put back
pub record PoolSeatView : Type 0 where
  pub pool : PoolId
  pub dry : ℕ
  pub taken : ℕ
  pub given : ℕ

-- what contracts see of a loan: its pool, and its frame
pub record LoanView : Type 0 where
  pub pool : PoolId
  pub frame : FrameView

-- the seat of a loan names its frame's word, without its slot
abbrev pub IsLoan : Badge PoolView → FrameView → Type 0
IsLoan badge frame = (run : ℕ) × (next : ℕ) × (dry : ℕ) × (badge.views ≡ view frame.region (Lent frame.number) run next dry 0 0 ∷ []) × (frame.number < badge.table_id.slots)

-- the frames have their places in the list for numbers, from `place` on
abbrev pub AreNumbered : ℕ → List FrameView → Type 0
AreNumbered place [] = Unit {0}
AreNumbered place (f ∷ fs) = (f.number ≡ place) × AreNumbered (place + 1) fs

-- the region of the first frame
abbrev pub first_region : List FrameView → RegionView
first_region [] = record { name = 0; count = 0 }
first_region (f ∷ fs) = f.region
