use Rattle.std.proofs.Common.{◌≡◌, ◌<◌, ◌++◌, ◌∷◌, [], Contains, length, reverse, ap, sym, ◌∙◌, subst, arith}
use Rattle.guest_pages.specs.PagesView.{PagesView, pushed}
use Rattle.guest_pages.proofs.Stack.{distinct_pushed, below_pushed, has_room, reverse_push}
use Rattle.guest_pages.proofs.pages.Pages.push.Goals as goal

new : (c : goal.After-push) → Contains (reverse c.self.inside.free.items) c.args.page → ⊥
new c = subst (λ (pages : PagesView). Contains pages.free c.args.page → ⊥) (sym c.self.view_is) c.requires.new

within : (c : goal.After-push) → c.args.page < length c.self.inside.infos.items
within c = subst (λ (pages : PagesView). c.args.page < length pages.infos) (sym c.self.view_is) c.requires.page

-- the push succeeds
grown : (c : goal.After-push) → c.push.new.self.items ≡ c.self.inside.free.items ++ c.args.page ∷ []
grown c =
    let room : length c.self.inside.free.items < length c.self.inside.infos.items =
    has_room _ _ c.args.page c.self.invariant.0 c.self.invariant.1 (new c) (within c)
    in
    rw (c.push.ensures.succeeds (omega (arith, room))) at c.push.ensures.items

pub invariant_of-self : goal.invariant_of-self
invariant_of-self c =
    rw (grown c) (
      distinct_pushed c.self.inside.free.items c.args.page c.self.invariant.0 (new c),
      below_pushed (length c.self.inside.infos.items) c.self.inside.free.items c.args.page c.self.invariant.1 (within c),
      omega (arith, c.push.ensures.capacity),
      c.self.invariant.3,
    )

pub returns-clause-value : goal.returns-clause-value
unfolding pushed
returns-clause-value c =
    ap (λ items. record { infos = c.self.inside.infos.items; free = reverse items }) (grown c)
    ∙ ap (λ free. record { infos = c.self.inside.infos.items; free = free }) (reverse_push c.self.inside.free.items c.args.page)
    ∙ ap (λ pages. pushed pages c.args.page) c.self.view_is
