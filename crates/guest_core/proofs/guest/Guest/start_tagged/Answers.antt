use Rattle.std.proofs.Common.{sym, ◌∙◌}
use Rattle.guest_rules.proofs.Ready.ReadyCalls.{full-can}
use Rattle.guest_core.proofs.Ready.{is_tag, found_takes, next_begins, next_there, none_free}
use Rattle.guest_core.proofs.guest.Guest.start_tagged.Goals as goal

pub page_with-requires : goal.page_with-requires
page_with-requires g c = is_tag c.args.self.now _ c.args.cpu c.args.op.now c.args.tag c.requires.fit c.requires.starts c.requires.wants

pub room_turn-requires-clause-can : goal.room_turn-requires-clause-can
room_turn-requires-clause-can g c = full-can c.args.self.now _ c.requires.fit.0 c.requires.fit.1 (none_free c.args.self.now c.next_free.result c.next_free.ensures c.in-None-next_free.is)

pub begin_turn-requires-clause-begins : goal.begin_turn-requires-clause-begins
begin_turn-requires-clause-begins g c =
    next_begins c.args.self.now _ c.in-Some-next_free.page c.args.tag c.next_free.result c.requires.fit c.next_free.ensures c.in-Some-next_free.is
    (is_tag c.args.self.now _ c.args.cpu c.args.op.now c.args.tag c.requires.fit c.requires.starts c.requires.wants) (sym c.page_with.ensures ∙ c.in-None.is)

pub begin_turn-requires-clause-there : goal.begin_turn-requires-clause-there
begin_turn-requires-clause-there g c = next_there c.args.self.now _ c.in-Some-next_free.page c.next_free.result c.requires.fit c.next_free.ensures c.in-Some-next_free.is

pub info-requires : goal.info-requires
info-requires g c =
    (found_takes c.args.self.now _ c.in-Some.page c.args.tag c.requires.fit
    (is_tag c.args.self.now _ c.args.cpu c.args.op.now c.args.tag c.requires.fit c.requires.starts c.requires.wants) (sym c.page_with.ensures ∙ c.in-Some.is)).in_use.below

pub use_turn-requires-clause-takes : goal.use_turn-requires-clause-takes
use_turn-requires-clause-takes g c =
    found_takes c.args.self.now _ c.in-Some.page c.args.tag c.requires.fit
    (is_tag c.args.self.now _ c.args.cpu c.args.op.now c.args.tag c.requires.fit c.requires.starts c.requires.wants) (sym c.page_with.ensures ∙ c.in-Some.is)

pub use_turn-requires-clause-found : goal.use_turn-requires-clause-found
use_turn-requires-clause-found g c = record { tag = c.args.tag; wants = c.requires.wants; found = sym c.page_with.ensures ∙ c.in-Some.is }
