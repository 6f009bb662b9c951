use Rattle.std.proofs.Common.{sym, ap, ◌∙◌}
use Rattle.cmm_types.specs.declared.page.Tag.TheVariants.{Anon}
use Rattle.guest_pages.specs.declared.info.PageInfo.{PageInfo}
use Rattle.guest_rules.proofs.Ready.ReadyCalls.{tearing-below}
use Rattle.guest_rules.proofs.Ready.TearReady.{tearing-is_tag, tearing-tears}
use Rattle.guest_core.proofs.Ready.{found_takes}
use Rattle.guest_core.proofs.Teardown.{off-bare, bare-own, torn_to, tearing-next}
use Rattle.guest_core.proofs.guest.Guest.tear_own.Goals as goal

pub page_with-requires : goal.page_with-requires
page_with-requires g c = tearing-is_tag c.args.self.now _ c.requires.fit.0 c.args.cpu c.args.slot c.args.index c.requires.fit.1 c.requires.tears

pub tear_bare-requires-clause-goes_on : goal.tear_bare-requires-clause-goes_on
tear_bare-requires-clause-goes_on g c = record { there = c.requires.cpu; next = tearing-next c.args.self.now _ _ c.args.cpu c.args.slot c.args.index c.requires.fit.1 c.requires.tears }

pub tear_bare-requires-clause-index : goal.tear_bare-requires-clause-index
tear_bare-requires-clause-index g c = tearing-below c.args.self.now _ _ c.args.cpu c.args.slot c.args.index c.requires.fit.1 c.requires.tears

pub tear_bare-requires-clause-tag : goal.tear_bare-requires-clause-tag
tear_bare-requires-clause-tag g c = tearing-is_tag c.args.self.now _ c.requires.fit.0 c.args.cpu c.args.slot c.args.index c.requires.fit.1 c.requires.tears

pub tear_bare-requires-clause-torn : goal.tear_bare-requires-clause-torn
tear_bare-requires-clause-torn g c =
    let below = tearing-below c.args.self.now _ _ c.args.cpu c.args.slot c.args.index c.requires.fit.1 c.requires.tears in
    torn_to c.args.self.now _ c.requires.fit.0 c.args.cpu c.args.slot c.args.index c.args.self.now.parts.maps c.requires.fit.1 c.requires.tears
    (off-bare c.args.self.now.parts.maps c.args.slot c.args.index
    (bare-own c.args.self.now _ c.requires.fit.0 c.args.slot c.args.index c.requires.fit.1 below c.requires.own (sym c.page_with.ensures ∙ c.in-None.is)))

pub info-requires : goal.info-requires
info-requires g c =
    (found_takes c.args.self.now _ c.in-Some.page (Anon c.args.slot c.args.index) c.requires.fit
    (tearing-is_tag c.args.self.now _ c.requires.fit.0 c.args.cpu c.args.slot c.args.index c.requires.fit.1 c.requires.tears) (sym c.page_with.ensures ∙ c.in-Some.is)).in_use.below

pub tear_turn-requires-clause-goes_on : goal.tear_turn-requires-clause-goes_on
tear_turn-requires-clause-goes_on g c = record { there = c.requires.cpu; next = tearing-next c.args.self.now _ _ c.args.cpu c.args.slot c.args.index c.requires.fit.1 c.requires.tears }

pub tear_turn-requires-clause-index : goal.tear_turn-requires-clause-index
tear_turn-requires-clause-index g c = tearing-below c.args.self.now _ _ c.args.cpu c.args.slot c.args.index c.requires.fit.1 c.requires.tears

pub tear_turn-requires-clause-page : goal.tear_turn-requires-clause-page
tear_turn-requires-clause-page g c =
    tearing-tears c.args.self.now _ c.requires.fit.0 c.args.cpu c.args.slot c.args.index c.in-Some.page c.requires.fit.1 c.requires.tears (sym c.page_with.ensures ∙ c.in-Some.is)
    (ap (λ (i : PageInfo). i.owner) (sym c.info.ensures) ∙ c.in-None-owner.is)
