use Rattle.std.proofs.Common.{◌≡◌, ◌<◌, Some, None, IfSome, length, get_or, set, refl, sym, ap, ◌∙◌, subst}
use Rattle.std.proofs.lemmas.List.{length-set, get_or_read}
use Rattle.guest_maps.specs.EntryChains.{EntriesView, with_pte}
use Rattle.guest_maps.proofs.Chains.{HasChains-made, first_within, all_same}
use Rattle.guest_maps.proofs.entries.Entries.link.Goals as goal

pub set_link-requires : goal.set_link-requires
set_link-requires c =
    let page : c.args.pte.page < length c.self.inside.first.items = subst (λ (view : EntriesView). c.args.pte.page < view.pages) (sym c.self.view_is) c.requires.page in
    subst (λ o. IfSome o (λ at. at < length c.self.inside.before)) (sym (get_or_read c.self.inside.first.items c.args.pte.page c.index-after.result.now page c.index-after.ensures None))
    (first_within c.self.inside.entries c.self.inside.first.items c.self.inside.next c.self.inside.before c.args.pte.page c.self.invariant)

pub invariant_of-self : goal.invariant_of-self
invariant_of-self c =
    let within : c.args.place < length c.self.inside.entries = subst (λ (view : EntriesView). c.args.place < length view.entries) (sym c.self.view_is) c.requires.place in
    let empty : get_or c.self.inside.entries c.args.place None ≡ None = subst (λ (view : EntriesView). get_or view.entries c.args.place None ≡ None) (sym c.self.view_is) c.requires.empty in
    let page : c.args.pte.page < length c.self.inside.first.items = subst (λ (view : EntriesView). c.args.pte.page < view.pages) (sym c.self.view_is) c.requires.page in
    let after : get_or c.self.inside.first.items c.args.pte.page None ≡ c.index-after.result.now =
    sym (get_or_read c.self.inside.first.items c.args.pte.page c.index-after.result.now page c.index-after.ensures None) in
    all_same c.set-3.ensures refl c.set-2.ensures (c.set.ensures ∙ ap (λ before. set before c.args.place None) c.set_link.ensures)
    (HasChains-made c.self.inside.entries c.self.inside.first.items c.self.inside.next c.self.inside.before c.args.place c.args.pte c.index-after.result.now c.self.invariant within empty page after)

pub returns : goal.returns
unfolding with_pte
returns c =
    ap (λ entries. record { pages = length (set c.self.inside.first.items c.args.pte.page (Some c.args.place)); entries = entries }) c.set-3.ensures
    ∙ ap (λ n. record { pages = n; entries = set c.self.inside.entries c.args.place (Some c.args.pte) }) (length-set c.self.inside.first.items c.args.pte.page (Some c.args.place))
    ∙ ap (λ (view : EntriesView). with_pte view c.args.place (Some c.args.pte)) c.self.view_is
