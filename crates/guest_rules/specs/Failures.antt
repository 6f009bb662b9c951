-- No more commands of a guest failed than calls did.
use Rattle.std.specs.Prelude.{◌≤◌}
use Rattle.cmm_io.specs.DiskView.{DiskView}
use Rattle.cmm_storage.specs.StorageView.{StorageView}
pub use Rattle.cmm_flat.specs.Failures.{is_disk_failure, is_paging_failure, replies_of, disk_failures, paging_failures}
use Rattle.guest_rules.specs.GuestState.{GuestState}

-- at most as many entries failed as calls of the guest's disk, and of its pager, did
pub record FailuresFit (g : GuestState) (v : StorageView) (d : DiskView) : Type 0 where
  pub disk : disk_failures g.journal ≤ d.faults
  pub paging : paging_failures g.journal ≤ v.faults
