-- What the host may have done while a guest took no turn.
use Rattle.std.specs.Prelude.{◌≡◌, ◌<◌, ℕ, None}
use Rattle.cmm_io.specs.DiskView.{DiskView}
use Rattle.essa_state.specs.PageValue.{MayBecome}
use Rattle.cmm_storage.specs.StorageView.{StorageView}

-- every page is as the host may have changed it, and none is held; the disk has the blocks that it had
pub record AllMay (v : StorageView) (d : DiskView) (w : StorageView) (e : DiskView) : Type 0 where
  pub pages : w.pages ≡ v.pages
  pub tells : w.tells ≡ v.tells
  pub held : w.held ≡ None
  pub values : (page : ℕ) → page < v.pages → MayBecome (v.values page) (w.values page)
  pub count : e.count ≡ d.count
  pub blocks : e.blocks ≡ d.blocks
