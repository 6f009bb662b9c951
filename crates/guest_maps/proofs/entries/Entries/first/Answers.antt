use Rattle.std.proofs.Common.{◌≡◌, ◌<◌, true, None, length, get_or, count_by, MatchOption, sym, subst}
use Rattle.std.proofs.lemmas.List.{get_or_read}
use Rattle.guest_maps.specs.MapsView.{shows}
use Rattle.guest_maps.specs.EntryChains.{EntriesView}
use Rattle.guest_maps.proofs.Chains.{first_shows}
use Rattle.guest_maps.proofs.entries.Entries.first.Goals as goal

pub returns : goal.returns
returns c =
    let within : c.args.page < length c.self.inside.first.items = subst (λ (view : EntriesView). c.args.page < view.pages) (sym c.self.view_is) c.requires in
    subst (λ (view : EntriesView). MatchOption c.index.result.now (count_by (shows c.args.page) view.entries ≡ 0) (λ place. shows c.args.page (get_or view.entries place None) ≡ true)) c.self.view_is
    (first_shows c.self.inside.entries c.self.inside.first.items c.self.inside.next c.self.inside.before c.args.page c.index.result.now c.self.invariant
    (sym (get_or_read c.self.inside.first.items c.args.page c.index.result.now within c.index.ensures None)))
