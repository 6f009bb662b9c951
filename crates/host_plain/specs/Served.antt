-- A view of a guest's pages, as the host that it serves.
use Rattle.host_plain.specs.declared.view.HostView.{HostView}
use Rattle.host_plain.specs.HostState.{HostState}

abbrev pub host_of : HostView → HostState
host_of v = v.host.now
