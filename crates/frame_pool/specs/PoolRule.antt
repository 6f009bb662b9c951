-- The rule over the frame pool. The table has a word and a slot for each frame, and behind these words one more, the spare count.
-- A frame word is in, 0, or out, 1. It is out exactly where one view names it. A word that is in has its frame at home.
-- The spare count is the number of frames that no view names without its slot. So where it is 0, every frame word is out.
use Rattle.std.specs.Prelude.{◌≡◌, ℕ, zero, suc, ◌+◌, ◌<◌, ◌==◌, List, length, Option, Some, None, cond, slice_index}
use mathlib.Core.Option.{some, none}
use mathlib.Core.Option as maybe
use lib.ListN.{get_elem?}
use Rattle.atomic_table.specs.Table.{State}
use Rattle.page_arena.specs.FrameView.{RegionView, FrameView}
use Rattle.frame_pool.specs.Totals.{total}
use Rattle.frame_pool.specs.declared.view.PoolView.{PoolView}
use Rattle.frame_pool.specs.declared.view.Named.{Named}
use Rattle.frame_pool.specs.declared.view.Named.TheVariants.{Idle, Taken, Lent, Pair, Spent}

abbrev pub Homes : Type 0
Homes = List (maybe.Option (Option FrameView))

-- 1 where k is i, else 0
abbrev pub only : ℕ → ℕ → ℕ
only i k = cond (i == k) 1 0

abbrev pub named_once : ℕ → Named → ℕ
named_once i Idle = 0
named_once i (Taken k) = only i k
named_once i (Lent k) = only i k
named_once i (Pair k l) = only i k + only i l
named_once i Spent = 0

-- how often the view names the word i
abbrev pub names : ℕ → PoolView → ℕ
names i v = named_once i v.named

abbrev pub lent_once : Named → ℕ
lent_once Idle = 0
lent_once (Taken k) = 0
lent_once (Lent k) = 1
lent_once (Pair k l) = 2
lent_once Spent = 0

-- how many words the view names without their slots
abbrev pub lent : PoolView → ℕ
lent v = lent_once v.named

abbrev pub IsFrameOf : RegionView → ℕ → FrameView → Type 0
IsFrameOf region i frame = (frame.region ≡ region) × (frame.number ≡ i)

-- the slot is at home, with the frame of its number
abbrev pub HasFrame : RegionView → Homes → ℕ → Type 0
HasFrame region homes i = (f : FrameView) × (get_elem? homes i ≡ some (some (Some f))) × IsFrameOf region i f

-- what stands of a frame word. One that is in is named by no view, and one that is out by one view, once
abbrev pub WordFits : RegionView → Homes → List PoolView → ℕ → ℕ → Type 0
WordFits region homes views i zero = (total (names i) views ≡ 0) × HasFrame region homes i
WordFits region homes views i (suc zero) = total (names i) views ≡ 1
WordFits region homes views i (suc (suc n)) = ⊥

-- the frame of the word i, of n, is away, and its slot is at home and empty
abbrev pub IsAway : Homes → ℕ → ℕ → Type 0
IsAway homes n i = (i < n) × (get_elem? homes i ≡ some (some None))

-- where the slots are of the words that a view names, in a pool of n frames
abbrev pub SlotFits : Homes → ℕ → Named → Type 0
SlotFits homes n Idle = Unit {0}
SlotFits homes n (Taken i) = (i < n) × (get_elem? homes i ≡ some none)
SlotFits homes n (Lent i) = IsAway homes n i
SlotFits homes n (Pair i k) = IsAway homes n i × IsAway homes n k
SlotFits homes n Spent = Unit {0}

-- each view but a spent one has the pool's region
abbrev pub RegionFits : RegionView → RegionView → Named → Type 0
RegionFits region r Idle = r ≡ region
RegionFits region r (Taken i) = r ≡ region
RegionFits region r (Lent i) = r ≡ region
RegionFits region r (Pair i k) = r ≡ region
RegionFits region r Spent = Unit {0}

-- what stands of the words that a view names, and of the view's region r
abbrev pub NamedFits : RegionView → Homes → RegionView → Named → Type 0
NamedFits region homes r named = RegionFits region r named × SlotFits homes (length homes) named

pub record PoolRule (region : RegionView) (s : State (Option FrameView) PoolView) : Type 0 where
  pub wide : length s.words ≡ length s.homes + 1
  pub spare : slice_index s.words (length s.homes) + total lent s.views ≡ length s.homes
  pub each_word : (i : ℕ) → i < length s.homes → WordFits region s.homes s.views i (slice_index s.words i)
  pub each_view : (j : ℕ) (v : PoolView) → get_elem? s.views j ≡ some v → NamedFits region s.homes v.region v.named
