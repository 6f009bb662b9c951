use Rattle.std.proofs.Common.{sym, ◌∙◌}
use Rattle.guest_rules.specs.GuestState.{processor_at}
use Rattle.cmm_flat.specs.Laws.CommandLaws.{command_in_range}
use Rattle.guest_rules.proofs.Ready.ReadyCalls.{process-below}
use Rattle.guest_core.proofs.guest.Guest.start_turn.Goals as goal

pub refusal_on-requires-clause-process : goal.refusal_on-requires-clause-process
refusal_on-requires-clause-process g c =
    process-below c.args.self.now (g.St.Storage.view c.args.st.now) c.requires.fit.0 c.args.cpu c.requires.fit.1

pub refusal_on-requires-clause-range : goal.refusal_on-requires-clause-range
refusal_on-requires-clause-range g c =
    command_in_range c.args.self.now.plan c.args.cpu (processor_at c.args.self.now c.args.cpu).place c.args.op.now c.requires.fit.1.sizes.range c.requires.command

pub start_accepted-requires-clause-starts : goal.start_accepted-requires-clause-starts
start_accepted-requires-clause-starts g c =
    record { has = record { below = c.requires.enters.there; command = c.requires.command }; start = c.requires.start; accepted = sym c.refusal_on.ensures ∙ c.in-None.is }
