use Rattle.std.proofs.Common.{sym, ◌∙◌}
use Rattle.cmm_flat.specs.Legal.{process_of}
use Rattle.guest_rules.proofs.Fit.StepResolved.{found-below}
use Rattle.guest_core.proofs.guest.Guest.start_mapped.Goals as goal

pub start_entry-requires-clause-slot : goal.start_entry-requires-clause-slot
start_entry-requires-clause-slot g c =
    found-below c.args.self.now.parts.maps (process_of c.args.self.now.plan c.args.cpu) c.args.map c.in-Some.slot (sym c.slot_of.ensures ∙ c.in-Some.is)

pub start_entry-requires-clause-reaches : goal.start_entry-requires-clause-reaches
start_entry-requires-clause-reaches g c = c.requires.reaches c.in-Some.slot (sym c.slot_of.ensures ∙ c.in-Some.is)
