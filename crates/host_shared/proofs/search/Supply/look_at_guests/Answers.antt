use Rattle.std.specs.Prelude.{◌≡◌, ◌+◌, ◌<◌, ◌≤◌, length, take, slice_index_or}
use Rattle.std.specs.List.{sum_by}
use Rattle.std.proofs.Common.{rules, arith}
use Rattle.std.proofs.lemmas.List.Sums.{sum_by_more, sum_by_more_le}
use Rattle.state_words.specs.SeatView.{WordsView, words_at, no_view}
use Rattle.host_shared.proofs.Supplies.{keeps_on}
use Rattle.host_shared.proofs.Searches.{searched_on}
use Rattle.host_shared.proofs.search.Supply.look_at_guests.Goals as goal

pub returns-in-Frame-clause-keeps : goal.returns-in-Frame-clause-keeps
returns-in-Frame-clause-keeps c =
    let kept = keeps_on c.args.self.now c.loop-guest.self c.look_at_guest.new.self c.loop-guest.invariant.1 c.in-Frame.ensures.keeps in
    record { pool = kept.pool; calls = kept.calls; faults = kept.faults }

pub returns-in-Paging-clause-keeps : goal.returns-in-Paging-clause-keeps
returns-in-Paging-clause-keeps c = keeps_on c.args.self.now c.loop-guest.self c.look_at_guest.new.self c.loop-guest.invariant.1 c.in-Paging.ensures.keeps

pub loop-guest-preserved : goal.loop-guest-preserved
loop-guest-preserved c =
    let i = c.loop-guest.invariant in
    let guest = c.loop-guest.guest in
    let d : WordsView = words_at no_view.house no_view.house in
    let above : c.args.from ≤ guest = search (rules, arith) in
    let inside : guest < length c.args.words.now = search (rules, arith) in
    let more : sum_by (λ (q : WordsView). q.pages) (take (guest + 1) c.args.words.now) ≡ sum_by (λ (q : WordsView). q.pages) (take guest c.args.words.now) +
    (slice_index_or c.args.words.now guest d).pages =
    sum_by_more (λ (q : WordsView). q.pages) c.args.words.now guest d inside in
    let few : c.in-Nothing.more ≤ (slice_index_or c.args.words.now guest d).pages = c.in-Nothing.ensures.few d in (
      c.in-Nothing.ensures.can,
      keeps_on c.args.self.now c.loop-guest.self c.look_at_guest.new.self i.1 c.in-Nothing.ensures.keeps,
      searched_on c.args.held.guest c.args.held.page c.args.from guest (guest + 1) c.args.hosts.now c.loop-guest.hosts c.look_at_guest.new.hosts c.args.self.now.seat.dry c.loop-guest.self.seat.dry
          c.look_at_guest.new.self.seat.dry c.loop-guest.looks c.in-Nothing.more above (omega arith) i.2 c.in-Nothing.ensures.nothing,
      omega (arith, i.3, more, few),
    )

pub overflow_add-looks : goal.overflow_add-looks
overflow_add-looks c =
    let guest = c.loop-guest.guest in
    let d : WordsView = words_at no_view.house no_view.house in
    let inside : guest < length c.args.words.now = search (rules, arith) in
    let within : sum_by (λ (q : WordsView). q.pages) (take guest c.args.words.now) + (slice_index_or c.args.words.now guest d).pages ≤ sum_by (λ (q : WordsView). q.pages) c.args.words.now =
    sum_by_more_le (λ (q : WordsView). q.pages) c.args.words.now guest d inside in
    let few : c.in-Nothing.more ≤ (slice_index_or c.args.words.now guest d).pages = c.in-Nothing.ensures.few d in
    omega (arith, c.loop-guest.invariant.3, few, within, c.requires.few)
