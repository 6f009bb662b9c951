-- What stands of a world between any two events, whatever their order.
use Rattle.std.specs.Prelude.{◌≡◌, ℕ, ◌<◌, ◌≤◌, length, None}
use Rattle.cmm_types.specs.declared.plan.TheConstants.{MAX_GUESTS}
use Rattle.cmm_io.specs.DiskState.{disk_view}
use Rattle.cmm_storage.specs.StorageView.{StorageView}
use Rattle.host_plain.specs.HostState.{served, host_view}
use Rattle.guest_rules.specs.Fit.{Fit}
use Rattle.cmm_world.specs.WorldState.{WorldState, guest_at, disk_at}
use Rattle.cmm_world.specs.WorldView.{WorldView, plans_of}
use Rattle.cmm_world.specs.Failures.{WorldCounted}

-- what a guest may know of its pages
abbrev pub view_of : WorldState → ℕ → StorageView
view_of w guest = host_view (served w.host guest)

-- each guest fits its pages and its disk
abbrev pub WorldFit : WorldState → Type 0
WorldFit w = (guest : ℕ) → guest < length w.guests → Fit (guest_at w guest) (view_of w guest) (disk_view (disk_at w guest))

-- what the type keeps
pub record IsWorld (w : WorldState) : Type 0 where
  pub few : length w.guests ≤ MAX_GUESTS
  pub disks : length w.disks ≡ length w.guests
  pub pagers : length w.host.pagers ≡ length w.guests
  pub none_held : w.host.held ≡ None
  pub fit : WorldFit w
  pub failures : WorldCounted w

-- what every call that plays events leaves: the guests' plans and the room for answers as they were, each guest in fit with its pages and its
-- disk, and no more commands failed than calls, and no more calls than were planned to
pub record KeepsWorld (v x : WorldView) : Type 0 where
  pub plans : plans_of x.state ≡ plans_of v.state
  pub room : x.events ≡ v.events
  pub fit : WorldFit x.state
  pub failures : WorldCounted x.state
