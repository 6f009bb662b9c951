use Rattle.std.proofs.Common.{sym, ◌∙◌}
use Rattle.guest_core.proofs.Syncs.{sync-takes}
use Rattle.guest_core.proofs.guest.Guest.sync_turn.Goals as goal

pub sync_found-requires-clause-takes : goal.sync_found-requires-clause-takes
sync_found-requires-clause-takes g c =
    sync-takes c.args.self.now _ c.args.cpu c.args.file c.args.index c.in-Some.page c.requires.fit c.requires.syncing (sym c.page_with.ensures ∙ c.in-Some.is)
