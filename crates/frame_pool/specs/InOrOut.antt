-- What the rule over the pool says of each frame word, in terms of single views, and of all of them.
use Rattle.std.specs.Prelude.{◌≡◌, ◌≢◌, ℕ, ◌<◌, length, Option, slice_index}
use mathlib.Core.Option.{some}
use lib.ListN.{get_elem?}
use Rattle.atomic_table.specs.Table.{State}
use Rattle.page_arena.specs.FrameView.{RegionView, FrameView}
use Rattle.frame_pool.specs.PoolRule.{names, HasFrame}
use Rattle.frame_pool.specs.declared.view.PoolView.{PoolView}

pub record InOrOut (region : RegionView) (s : State (Option FrameView) PoolView) : Type 0 where
  -- a word is in or out
  pub words : (i : ℕ) → i < length s.homes → slice_index s.words i ≢ 0 → slice_index s.words i ≡ 1
  -- one that is in has the frame of its number at home, and no view names it
  pub home : (i : ℕ) → i < length s.homes → slice_index s.words i ≡ 0 → HasFrame region s.homes i
  pub unnamed : (i : ℕ) → i < length s.homes → slice_index s.words i ≡ 0 → (j : ℕ) (v : PoolView) → get_elem? s.views j ≡ some v → names i v ≡ 0
  -- one that is out is named by a view, and by no two
  pub named : (i : ℕ) → i < length s.homes → slice_index s.words i ≡ 1 → (j : ℕ) × (v : PoolView) × (get_elem? s.views j ≡ some v) × (names i v ≡ 1)
  pub once : (i j k : ℕ) (v u : PoolView) → i < length s.homes → get_elem? s.views j ≡ some v → get_elem? s.views k ≡ some u → names i v ≢ 0 → names i u ≢ 0 → j ≡ k

-- the spare count is 0
abbrev pub NoneSpare : State (Option FrameView) PoolView → Type 0
NoneSpare s = slice_index s.words (length s.homes) ≡ 0

-- every frame word is out
abbrev pub AllOut : State (Option FrameView) PoolView → Type 0
AllOut s = (k : ℕ) → k < length s.homes → slice_index s.words k ≡ 1
