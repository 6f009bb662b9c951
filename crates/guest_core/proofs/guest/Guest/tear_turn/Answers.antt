use Rattle.std.proofs.Common.{subst, inl, inr}
use Rattle.guest_rules.specs.declared.parts.Parts.{Parts}
use Rattle.guest_rules.specs.Rows.{tear_page}
use Rattle.guest_core.proofs.Teardown.{TakesOffBy, torn_off-by, torn_to, run-off}
use Rattle.guest_core.proofs.guest.Guest.tear_turn.Goals as goal

pub pass_torn-requires-clause-torn : goal.pass_torn-requires-clause-torn
pass_torn-requires-clause-torn g c =
    torn_to c.args.self.now _ c.requires.fit.0 c.args.cpu c.args.slot c.args.index c.tear_page.new.parts.maps c.requires.fit.1 c.requires.tears
    (subst (TakesOffBy c.args.self.now.parts.maps c.tear_page.new.parts.maps c.args.slot c.args.index) c.in-Done.is
    (torn_off-by g.St.Storage.step g.St.Storage.view g.met.St.Storage.meets _ c.args.self.now c.args.st.now c.tear_page.new.st c.requires.fit.0 c.args.cpu c.args.slot c.args.index c.args.page
    c.tear_page.new.parts c.tear_page.result c.self.view_is c.requires.fit.1 c.requires.tears c.requires.own c.requires.there c.tear_page.ensures.row))

pub pass_torn-requires-in-Gone-clause-torn : goal.pass_torn-requires-in-Gone-clause-torn
pass_torn-requires-in-Gone-clause-torn g c =
    torn_to c.args.self.now _ c.requires.fit.0 c.args.cpu c.args.slot c.args.index c.tear_page.new.parts.maps c.requires.fit.1 c.requires.tears
    (subst (TakesOffBy c.args.self.now.parts.maps c.tear_page.new.parts.maps c.args.slot c.args.index) c.in-Gone.is
    (torn_off-by g.St.Storage.step g.St.Storage.view g.met.St.Storage.meets _ c.args.self.now c.args.st.now c.tear_page.new.st c.requires.fit.0 c.args.cpu c.args.slot c.args.index c.args.page
    c.tear_page.new.parts c.tear_page.result c.self.view_is c.requires.fit.1 c.requires.tears c.requires.own c.requires.there c.tear_page.ensures.row))

pub returns-in-Done : goal.returns-in-Done
returns-in-Done g c = record {
  row = run-off g.St.Storage.step c.args.st.now c.tear_page.new.st _ c.args.self.now c.pass_torn.new.self c.pass_torn.result c.args.cpu c.args.slot c.args.index
      (λ (parts : Parts). tear_page parts c.args.slot c.args.index c.args.page) c.tear_page.new.parts c.tear_page.result c.self.view_is (inl c.in-Done.is)
      (subst (TakesOffBy c.args.self.now.parts.maps c.tear_page.new.parts.maps c.args.slot c.args.index) c.in-Done.is
      (torn_off-by g.St.Storage.step g.St.Storage.view g.met.St.Storage.meets _ c.args.self.now c.args.st.now c.tear_page.new.st c.requires.fit.0 c.args.cpu c.args.slot c.args.index c.args.page
      c.tear_page.new.parts c.tear_page.result c.self.view_is c.requires.fit.1 c.requires.tears c.requires.own c.requires.there c.tear_page.ensures.row))
      c.tear_page.ensures.row c.pass_torn.ensures.row;
}

pub returns-in-Gone : goal.returns-in-Gone
returns-in-Gone g c = record {
  row = run-off g.St.Storage.step c.args.st.now c.tear_page.new.st _ c.args.self.now c.pass_torn-in-Gone.new.self c.pass_torn-in-Gone.result c.args.cpu c.args.slot c.args.index
      (λ (parts : Parts). tear_page parts c.args.slot c.args.index c.args.page) c.tear_page.new.parts c.tear_page.result c.self.view_is (inr c.in-Gone.is)
      (subst (TakesOffBy c.args.self.now.parts.maps c.tear_page.new.parts.maps c.args.slot c.args.index) c.in-Gone.is
      (torn_off-by g.St.Storage.step g.St.Storage.view g.met.St.Storage.meets _ c.args.self.now c.args.st.now c.tear_page.new.st c.requires.fit.0 c.args.cpu c.args.slot c.args.index c.args.page
      c.tear_page.new.parts c.tear_page.result c.self.view_is c.requires.fit.1 c.requires.tears c.requires.own c.requires.there c.tear_page.ensures.row))
      c.tear_page.ensures.row c.pass_torn-in-Gone.ensures.row;
}
