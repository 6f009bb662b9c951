-- A guest's pages and disk before its first turn.
use Rattle.std.specs.Prelude.{◌≡◌, ◌<◌, ℕ, true, Some, None}
use Rattle.cmm_types.specs.declared.plan.GuestPlan.{GuestPlan}
use Rattle.cmm_types.specs.InRange.{blocks_of}
use Rattle.cmm_io.specs.DiskOf.{disk_of}
use Rattle.cmm_io.specs.DiskView.{DiskView}
use Rattle.essa_state.specs.PageValue.{opening_value}
use Rattle.cmm_storage.specs.StorageView.{StorageView}

-- as many pages as planned, each fresh and none held; the disk has the files and behind them its swap slots
pub record AreFresh (plan : GuestPlan) (v : StorageView) (d : DiskView) : Type 0 where
  pub pages : v.pages ≡ plan.pages
  pub values : (page : ℕ) → page < v.pages → v.values page ≡ opening_value
  pub none_held : v.held ≡ None
  pub tells : v.tells ≡ true
  pub count : d.count ≡ blocks_of plan
  pub blocks : d.blocks ≡ Some (disk_of plan.files plan.swap)
