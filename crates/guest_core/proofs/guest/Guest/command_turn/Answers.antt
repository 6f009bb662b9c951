use Rattle.std.proofs.Common.{sym, ap, ◌∙◌}
use Rattle.guest_rules.specs.declared.processor.Processor.{Processor}
use Rattle.guest_rules.specs.Fit.{answered_early}
use Rattle.guest_rules.proofs.Ready.ReadyCalls.{filling-can, page_out-can}
use Rattle.guest_core.proofs.Ready.{can_enter}
use Rattle.guest_core.proofs.guest.Guest.command_turn.Goals as goal

pub start_turn-requires-clause-enters : goal.start_turn-requires-clause-enters
start_turn-requires-clause-enters g c =
    can_enter c.args.self.now _ _ c.args.cpu c.args.op.now c.requires.fit c.requires.cpu c.requires.command
    (ap (λ (p : Processor). answered_early p.phase) (sym c.processor.ensures) ∙ ap answered_early c.in-Start.is)

pub start_turn-requires-clause-fit : goal.start_turn-requires-clause-fit
start_turn-requires-clause-fit g c = (g.D.Disk.view c.args.disk.now, c.requires.fit)

pub start_turn-requires-clause-start : goal.start_turn-requires-clause-start
start_turn-requires-clause-start g c = ap (λ (p : Processor). p.phase) (sym c.processor.ensures) ∙ c.in-Start.is

pub fill_turn-requires-clause-enters : goal.fill_turn-requires-clause-enters
fill_turn-requires-clause-enters g c =
    can_enter c.args.self.now _ _ c.args.cpu c.args.op.now c.requires.fit c.requires.cpu c.requires.command
    (ap (λ (p : Processor). answered_early p.phase) (sym c.processor.ensures) ∙ ap answered_early c.in-Fill.is)

pub fill_turn-requires-clause-fills : goal.fill_turn-requires-clause-fills
fill_turn-requires-clause-fills g c = filling-can c.args.self.now _ _ c.args.cpu c.in-Fill.page c.requires.fit (ap (λ (p : Processor). p.phase) (sym c.processor.ensures) ∙ c.in-Fill.is)

pub page_out_turn-requires-clause-enters : goal.page_out_turn-requires-clause-enters
page_out_turn-requires-clause-enters g c =
    can_enter c.args.self.now _ _ c.args.cpu c.args.op.now c.requires.fit c.requires.cpu c.requires.command
    (ap (λ (p : Processor). answered_early p.phase) (sym c.processor.ensures) ∙ ap answered_early c.in-Room.is)

pub page_out_turn-requires-clause-writes : goal.page_out_turn-requires-clause-writes
page_out_turn-requires-clause-writes g c =
    page_out-can c.args.self.now _ _ c.args.cpu c.in-Room.page c.requires.fit (ap (λ (p : Processor). p.phase) (sym c.processor.ensures) ∙ c.in-Room.is)

pub look_turn-requires-clause-enters : goal.look_turn-requires-clause-enters
look_turn-requires-clause-enters g c =
    can_enter c.args.self.now _ _ c.args.cpu c.args.op.now c.requires.fit c.requires.cpu c.requires.command
    (ap (λ (p : Processor). answered_early p.phase) (sym c.processor.ensures) ∙ ap answered_early c.in-Sync.is)

pub look_turn-requires-clause-fit : goal.look_turn-requires-clause-fit
look_turn-requires-clause-fit g c = (g.D.Disk.view c.args.disk.now, c.requires.fit)

pub look_turn-requires-clause-phase : goal.look_turn-requires-clause-phase
look_turn-requires-clause-phase g c = ap (λ (p : Processor). p.phase) (sym c.processor.ensures) ∙ c.in-Sync.is

pub write_back_turn-requires-clause-enters : goal.write_back_turn-requires-clause-enters
write_back_turn-requires-clause-enters g c =
    can_enter c.args.self.now _ _ c.args.cpu c.args.op.now c.requires.fit c.requires.cpu c.requires.command
    (ap (λ (p : Processor). answered_early p.phase) (sym c.processor.ensures) ∙ ap answered_early c.in-SyncWrite.is)

pub write_back_turn-requires-clause-phase : goal.write_back_turn-requires-clause-phase
write_back_turn-requires-clause-phase g c = ap (λ (p : Processor). p.phase) (sym c.processor.ensures) ∙ c.in-SyncWrite.is

pub teardown_turn-requires-clause-fit : goal.teardown_turn-requires-clause-fit
teardown_turn-requires-clause-fit g c = (g.D.Disk.view c.args.disk.now, c.requires.fit)

pub teardown_turn-requires-clause-phase : goal.teardown_turn-requires-clause-phase
teardown_turn-requires-clause-phase g c = ap (λ (p : Processor). p.phase) (sym c.processor.ensures) ∙ c.in-Teardown.is
