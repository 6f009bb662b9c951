use Rattle.std.proofs.Common.{Some, None, ap, ◌∙◌}
use Rattle.std.proofs.lemmas.List.{set-set}
use Rattle.guest_maps.specs.EntryChains.{EntriesView, with_pte}
use Rattle.guest_maps.proofs.entries.Entries.set.Goals as goal

pub returns : goal.returns
unfolding with_pte
returns c =
    c.link.ensures
    ∙ ap (λ (view : EntriesView). with_pte view c.args.place (Some c.args.pte)) c.clear.ensures
    ∙ ap (λ entries. record { pages = c.args.self.now.pages; entries = entries }) (set-set c.args.self.now.entries c.args.place None (Some c.args.pte))
