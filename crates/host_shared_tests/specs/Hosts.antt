-- One guest's words, its storage and two reclaimers, which are of one pool and of these words.
use Rattle.std.specs.Prelude.{◌≡◌, ℕ, ◌∷◌, [], None}
use Rattle.frame_pool.specs.Seats.{frame_count}
use Rattle.host_shared.specs.Reclaiming.{CanReclaim}
use Rattle.host_shared.specs.Binding.{IsBoundTo}
use Rattle.host_shared_tests.specs.declared.opening.Hosted.{Hosted}

pub record IsHosted (frames pages : ℕ) (h : Hosted) : Type 0 where
  pub words : h.words.items ≡ h.host.words ∷ []
  pub pages_are : h.host.words.pages ≡ pages
  pub idle : h.host.view.held ≡ None
  pub seat : h.seat.pool ≡ h.pool
  pub region_is : h.pool.region ≡ h.region
  pub frames_are : frame_count h.pool ≡ frames
  pub bound : IsBoundTo h.words.items h.pool h.storage
  pub none_held : h.storage.held ≡ None
  pub first_can : CanReclaim h.words.items h.pool h.first.seats.items h.first.pool_seat
  pub second_can : CanReclaim h.words.items h.pool h.second.seats.items h.second.pool_seat
