use Rattle.std.proofs.Common.{◌≡◌, ◌<◌, ◌++◌, None, length, set, take, drop, sym, ap, ◌∙◌, subst, arith}
use Rattle.guest_maps.specs.EntryChains.{EntriesView, with_pte, first_with}
use Rattle.guest_maps.proofs.Chains.{cleared, cleared_none, all_same, whole_changed, length-first_with}
use Rattle.guest_maps.proofs.entries.Entries.clear.Goals as goal

pub returns-in_default : goal.returns-in_default
unfolding with_pte
returns-in_default c =
    let within : c.args.place < length c.self.inside.entries = subst (λ (view : EntriesView). c.args.place < length view.entries) (sym c.self.view_is) c.requires in
    let same = cleared_none c.self.inside.entries c.args.place c.at.result within c.at.ensures c.in_default.is in
    subst (λ (view : EntriesView). view ≡ with_pte view c.args.place None) c.self.view_is
    (ap (λ entries. record { pages = length c.self.inside.first.items; entries = entries }) (sym same))

pub lead_to-requires : goal.lead_to-requires
lead_to-requires c =
    let within : c.args.place < length c.self.inside.entries = subst (λ (view : EntriesView). c.args.place < length view.entries) (sym c.self.view_is) c.requires in
    let links =
    cleared c.self.inside.entries c.self.inside.first.items c.self.inside.next c.self.inside.before c.args.place c.at.result c.in-Some.pte c.at-before.result
    c.at-after.result c.self.invariant within c.at.ensures c.in-Some.is c.at-before.ensures c.at-after.ensures in
    subst (λ first. c.in-Some.pte.page < length first) (sym c.deref_mut.ensures.value) links.0

pub set_link-requires : goal.set_link-requires
set_link-requires c =
    let within : c.args.place < length c.self.inside.entries = subst (λ (view : EntriesView). c.args.place < length view.entries) (sym c.self.view_is) c.requires in
    let links =
    cleared c.self.inside.entries c.self.inside.first.items c.self.inside.next c.self.inside.before c.args.place c.at.result c.in-Some.pte c.at-before.result
    c.at-after.result c.self.invariant within c.at.ensures c.in-Some.is c.at-before.ensures c.at-after.ensures in
    links.1

pub set_link-requires-2 : goal.set_link-requires-2
set_link-requires-2 c =
    let within : c.args.place < length c.self.inside.entries = subst (λ (view : EntriesView). c.args.place < length view.entries) (sym c.self.view_is) c.requires in
    let links =
    cleared c.self.inside.entries c.self.inside.first.items c.self.inside.next c.self.inside.before c.args.place c.at.result c.in-Some.pte c.at-before.result
    c.at-after.result c.self.invariant within c.at.ensures c.in-Some.is c.at-before.ensures c.at-after.ensures in
    links.2

first_is : (c : goal.After-set-2)
    → take c.self.inside.first.len (c.lead_to.new.first ++ drop (length c.lead_to.new.first) c.self.inside.first.items)
    ≡ first_with c.self.inside.first.items c.in-Some.pte.page c.at-before.result c.at-after.result
first_is c =
    whole_changed c.self.inside.first.len c.lead_to.new.first c.self.inside.first.items (omega (arith, c.lead_to.auto.first, c.deref_mut.ensures.len))
    ∙ c.lead_to.ensures
    ∙ ap (λ first. first_with first c.in-Some.pte.page c.at-before.result c.at-after.result) c.deref_mut.ensures.value

pub invariant_of-self : goal.invariant_of-self
invariant_of-self c =
    let within : c.args.place < length c.self.inside.entries = subst (λ (view : EntriesView). c.args.place < length view.entries) (sym c.self.view_is) c.requires in
    let links =
    cleared c.self.inside.entries c.self.inside.first.items c.self.inside.next c.self.inside.before c.args.place c.at.result c.in-Some.pte c.at-before.result c.at-after.result c.self.invariant within
    c.at.ensures c.in-Some.is c.at-before.ensures c.at-after.ensures in
    all_same c.set-2.ensures (first_is c) (c.set.ensures ∙ ap (λ next. set next c.args.place None) c.set_link.ensures) c.set_link-2.ensures links.3

pub returns : goal.returns
unfolding with_pte
returns c =
    ap (λ entries. record { pages = length (take c.self.inside.first.len (c.lead_to.new.first ++ drop (length c.lead_to.new.first) c.self.inside.first.items)); entries = entries }) c.set-2.ensures
    ∙ ap (λ n. record { pages = n; entries = set c.self.inside.entries c.args.place None })
    (ap length (first_is c) ∙ length-first_with c.self.inside.first.items c.in-Some.pte.page c.at-before.result c.at-after.result)
    ∙ ap (λ (view : EntriesView). with_pte view c.args.place None) c.self.view_is
