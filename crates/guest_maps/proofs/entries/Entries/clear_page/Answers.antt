use Rattle.std.proofs.Common.{◌≡◌, ◌<◌, map, None, length, set, count_by, sym, ap, ◌∙◌, subst, arith}
use Rattle.std.proofs.lemmas.List.{length-set}
use Rattle.guest_maps.specs.MapsView.{shows, unless_shows}
use Rattle.guest_maps.specs.EntryChains.{EntriesView, with_pte}
use Rattle.guest_maps.specs.EntryCounts.{showing-cleared, none_shows, unless_shows-set, unless_shows-none}
use Rattle.guest_maps.proofs.entries.Entries.clear_page.Goals as goal

pub loop-place-smaller : goal.loop-place-smaller
unfolding with_pte
loop-place-smaller c =
    let fewer = showing-cleared c.args.page c.loop-place.self.entries c.in-Some.place c.in-Some.ensures in
    subst (λ (view : EntriesView). count_by (shows c.args.page) view.entries < count_by (shows c.args.page) c.loop-place.self.entries) (sym c.clear.ensures) (omega (arith, fewer))

pub loop-place-preserved : goal.loop-place-preserved
unfolding with_pte
loop-place-preserved c =
    let fewer = showing-cleared c.args.page c.loop-place.self.entries c.in-Some.place c.in-Some.ensures in
    let entries : c.clear.new.self.entries ≡ set c.loop-place.self.entries c.in-Some.place None = ap (λ (view : EntriesView). view.entries) c.clear.ensures in
    record {
      pages = ap (λ (view : EntriesView). view.pages) c.clear.ensures ∙ c.loop-place.invariant.pages;
      whole = ap length entries ∙ length-set c.loop-place.self.entries c.in-Some.place None ∙ c.loop-place.invariant.whole;
      left = ap (map (unless_shows c.args.page)) entries ∙ unless_shows-set c.args.page c.loop-place.self.entries c.in-Some.place c.in-Some.ensures ∙ c.loop-place.invariant.left;
      counted = omega (arith, c.loop-place.invariant.counted, ap (count_by (shows c.args.page)) entries, fewer);
    }

pub returns-clause-value : goal.returns-clause-value
returns-clause-value c =
    ap (λ pages. record { pages = pages; entries = c.loop-place.self.entries }) c.loop-place.invariant.pages
    ∙ ap (λ entries. record { pages = c.args.self.now.pages; entries = entries })
    (sym (unless_shows-none c.args.page c.loop-place.self.entries (none_shows c.args.page c.loop-place.self.entries c.in_default.ensures)) ∙ c.loop-place.invariant.left)
