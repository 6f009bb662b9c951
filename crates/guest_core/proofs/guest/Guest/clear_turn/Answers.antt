use Rattle.std.proofs.Common.{subst, inl, inr}
use Rattle.guest_rules.specs.declared.parts.Parts.{Parts}
use Rattle.guest_rules.specs.Rows.{clear_entry}
use Rattle.guest_core.proofs.Teardown.{TakesOffBy, off-by, torn_to, run-off}
use Rattle.guest_core.proofs.guest.Guest.clear_turn.Goals as goal

pub pass_torn-requires-clause-torn : goal.pass_torn-requires-clause-torn
pass_torn-requires-clause-torn g c =
    torn_to c.args.self.now _ c.requires.fit.0 c.args.cpu c.args.slot c.args.index c.clear_entry.new.parts.maps c.requires.fit.1 c.requires.tears
    (subst (TakesOffBy c.args.self.now.parts.maps c.clear_entry.new.parts.maps c.args.slot c.args.index) c.in-Done.is
    (off-by g.St.Storage.step g.St.Storage.view g.met.St.Storage.meets _ c.args.self.now c.args.st.now c.clear_entry.new.st c.requires.fit.0 c.args.cpu c.args.slot c.args.index c.args.pte
    c.clear_entry.new.parts c.clear_entry.result c.self.view_is c.requires.fit.1 c.requires.tears c.requires.entry c.clear_entry.ensures.row))

pub pass_torn-requires-in-Gone-clause-torn : goal.pass_torn-requires-in-Gone-clause-torn
pass_torn-requires-in-Gone-clause-torn g c =
    torn_to c.args.self.now _ c.requires.fit.0 c.args.cpu c.args.slot c.args.index c.clear_entry.new.parts.maps c.requires.fit.1 c.requires.tears
    (subst (TakesOffBy c.args.self.now.parts.maps c.clear_entry.new.parts.maps c.args.slot c.args.index) c.in-Gone.is
    (off-by g.St.Storage.step g.St.Storage.view g.met.St.Storage.meets _ c.args.self.now c.args.st.now c.clear_entry.new.st c.requires.fit.0 c.args.cpu c.args.slot c.args.index c.args.pte
    c.clear_entry.new.parts c.clear_entry.result c.self.view_is c.requires.fit.1 c.requires.tears c.requires.entry c.clear_entry.ensures.row))

pub returns-in-Done : goal.returns-in-Done
returns-in-Done g c = record {
  row = run-off g.St.Storage.step c.args.st.now c.clear_entry.new.st _ c.args.self.now c.pass_torn.new.self c.pass_torn.result c.args.cpu c.args.slot c.args.index
      (λ (parts : Parts). clear_entry parts c.args.slot c.args.index c.args.pte)
      c.clear_entry.new.parts c.clear_entry.result c.self.view_is (inl c.in-Done.is)
      (subst (TakesOffBy c.args.self.now.parts.maps c.clear_entry.new.parts.maps c.args.slot c.args.index) c.in-Done.is
      (off-by g.St.Storage.step g.St.Storage.view g.met.St.Storage.meets _ c.args.self.now c.args.st.now c.clear_entry.new.st c.requires.fit.0 c.args.cpu c.args.slot c.args.index c.args.pte
      c.clear_entry.new.parts c.clear_entry.result c.self.view_is c.requires.fit.1 c.requires.tears c.requires.entry c.clear_entry.ensures.row))
      c.clear_entry.ensures.row c.pass_torn.ensures.row;
}

pub returns-in-Gone : goal.returns-in-Gone
returns-in-Gone g c = record {
  row = run-off g.St.Storage.step c.args.st.now c.clear_entry.new.st _ c.args.self.now c.pass_torn-in-Gone.new.self c.pass_torn-in-Gone.result c.args.cpu c.args.slot c.args.index
      (λ (parts : Parts). clear_entry parts c.args.slot c.args.index c.args.pte)
      c.clear_entry.new.parts c.clear_entry.result c.self.view_is (inr c.in-Gone.is)
      (subst (TakesOffBy c.args.self.now.parts.maps c.clear_entry.new.parts.maps c.args.slot c.args.index) c.in-Gone.is
      (off-by g.St.Storage.step g.St.Storage.view g.met.St.Storage.meets _ c.args.self.now c.args.st.now c.clear_entry.new.st c.requires.fit.0 c.args.cpu c.args.slot c.args.index c.args.pte
      c.clear_entry.new.parts c.clear_entry.result c.self.view_is c.requires.fit.1 c.requires.tears c.requires.entry c.clear_entry.ensures.row))
      c.clear_entry.ensures.row c.pass_torn-in-Gone.ensures.row;
}
