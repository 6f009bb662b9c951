use Rattle.std.proofs.Common.{◌≡◌, ◌<◌, ◌-◌, length}
use Rattle.cmm_types.specs.declared.turn.Alone.{Alone}
use Rattle.cmm_storage.specs.Program.{Does}
use Rattle.guest_rules.specs.GuestState.{GuestState}
use Rattle.guest_rules.specs.Alone.{most_turns, alone_within, alone}
use Rattle.guest_rules.specs.Fit.{Fit}
use Rattle.guest_core.proofs.guest.Guest.run_alone.Given as goal

-- whatever the turns that are left do, they do it behind those that moved
abbrev pub invariant-loop-turns : goal.invariant-loop-turns
invariant-loop-turns g l =
    (l.cpu < length l.self.processors)
    × Fit l.self (g.St.Storage.view l.st) (g.D.Disk.view l.disk)
    × (l.self.plan ≡ l.fn.self.plan)
    × ((b : GuestState × Alone) (s : g.row.St.Denot) (d : g.row.D.Denot)
    → Does g.St.Storage.step g.D.Disk.step (alone_within (most_turns - l.turns) l.turns l.self l.cpu) l.st l.disk b s d
    → Does g.St.Storage.step g.D.Disk.step (alone l.fn.self l.fn.cpu) l.fn.st l.fn.disk b s d)
