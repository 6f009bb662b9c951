-- The step relations of a guest's pages on the plain host and of the disk in memory.
use Rattle.std.specs.Prelude.{◌≡◌}
use Rattle.cmm_io.specs.DiskCall.{DiskCall}
use Rattle.cmm_io.specs.DiskState.{DiskState, DiskStep, disk_view}
use Rattle.cmm_io.specs.DiskView.{DiskFollows}
use Rattle.cmm_storage.specs.StorageCall.{StorageCall}
use Rattle.cmm_storage.specs.StorageView.{Follows}
use Rattle.host_plain.specs.declared.view.HostView.{HostView}
use Rattle.host_plain.specs.HostState.{HostStep, Leaves, host_view}
use Rattle.host_plain.specs.Served.{host_of}
use Rattle.cmm_storage.specs.Views.{page_called}

abbrev pub host_step : HostView → StorageCall → HostView → Type 0
host_step v call w =
    HostStep (host_of v) call (host_of w) × Follows (host_view (host_of v)) call (host_view (host_of w)) × Leaves (host_of v) (page_called call) (host_of w) × (w.host.ghost_name ≡ v.host.ghost_name)

abbrev pub disk_step : DiskState → DiskCall → DiskState → Type 0
disk_step d call e = DiskStep d call e × DiskFollows (disk_view d) call (disk_view e)
