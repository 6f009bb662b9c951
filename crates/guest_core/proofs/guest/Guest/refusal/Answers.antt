use Rattle.std.proofs.Common.{Bool, ap, ◌∙◌}
use Rattle.guest_maps.specs.MapsView.{find_slot}
use Rattle.guest_rules.specs.Turns.{refusal_of_new}
use Rattle.guest_core.proofs.guest.Guest.refusal.Goals as goal

pub returns-in-MapFile : goal.returns-in-MapFile
returns-in-MapFile c =
    rw c.in-MapFile.is
    (c.refusal_of_new.ensures
    ∙ ap (λ (are_there : Bool). refusal_of_new c.args.self.now are_there (find_slot c.args.self.now.parts.maps c.args.process c.in-MapFile.map)) c.file_has_pages-are_there.ensures)

pub returns-in-MapAnon : goal.returns-in-MapAnon
returns-in-MapAnon c = rw c.in-MapAnon.is c.refusal_of_new-in-MapAnon.ensures
