-- What the closing of a pool asks, and how many frames it loses.
use Rattle.std.specs.Prelude.{◌≡◌, ◌≤◌, ℕ, List, [], length}
use Rattle.page_arena.specs.FrameView.{FrameView, missing}
use Rattle.frame_pool.specs.Seats.{PoolId, frame_count}
use Rattle.frame_pool.specs.Closing.{ClosesWith}

-- the pool has all frames of its region, and the list that its closing fills is empty, with room for them
pub record CanClose (pool : PoolId) (free : List FrameView) (room : ℕ) : Type 0 where
  pub whole : pool.region.count ≡ frame_count pool
  pub empty : free ≡ []
  pub room_for : frame_count pool ≤ room

-- the frames came back whose words are in, and so many words are out. As many frames are missing in the region
pub record Loses (pool : PoolId) (lost : ℕ) : Type 0 where
  pub back : List FrameView
  pub closed : ClosesWith pool.region (frame_count pool) [] back lost
  pub lacking : lost ≡ length (missing pool.region.count back)
