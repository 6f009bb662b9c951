use Rattle.std.specs.Prelude.{◌≡◌, ℕ, ◌+◌, ◌<◌, ◌≤◌, false, None, length, take, slice_index_or}
use Rattle.std.specs.List.{sum_by}
use Rattle.std.proofs.Common.{rules, arith, ap, sym, subst, ◌∙◌}
use Rattle.std.proofs.lemmas.List.Sums.{sum_by_more}
use Rattle.state_words.specs.SeatView.{WordsView, Seated}
use Rattle.frame_pool.specs.Seats.{PoolSeatView}
use Rattle.host_shared.specs.Looks.{GrewByLooks, pages_but, freed_in}
use Rattle.host_shared.specs.Reclaiming.{IsReclaim, given_more}
use Rattle.host_shared.proofs.Looking.{given_on}
use Rattle.host_shared.proofs.Seats.{seats_count, seat_words, can_set}
use Rattle.host_shared.proofs.Passing.{PassedOne, passed_more}
use Rattle.host_shared.proofs.reclaim.reclaim_pass.Goals as goal

pub loop-guest-preserved : goal.loop-guest-preserved
loop-guest-preserved g c =
    let now = c.loop-guest.invariant in
    let guest = c.loop-guest.guest in
    let s : Seated = c.index-seats-guest.result in
    let t : Seated = c.reclaim_guest-freed.new.seat in
    let w : WordsView = c.index-words-guest.result in
    let inside : guest < length c.args.words.now = search rules in
    let is : s ≡ slice_index_or c.loop-guest.seats guest s = c.index-seats-guest.is in
    let are : w ≡ slice_index_or c.args.words.now guest w = c.index-words-guest.is in
    let same : s.words ≡ w = ap (λ (q : Seated). q.words) is ∙ seat_words c.args.words.now c.args.pool.now c.loop-guest.seats c.loop-guest.pool_seat now.0 guest s w inside ∙ sym are in
    let start : ℕ = g.P.Pager.faults c.args.pager.now in
    let faults : ℕ = g.P.Pager.faults c.loop-guest.pager in
    let risen : ℕ = g.P.Pager.faults c.reclaim_guest-freed.new.pager in
    let looked : GrewByLooks (IsReclaim false faults risen) (pages_but None 0 w.pages) s.view t.view = search rules in
    let looks : PassedOne faults risen s t = subst (λ (q : WordsView). GrewByLooks (IsReclaim false faults risen) (pages_but None 0 q.pages) s.view t.view) (sym same) looked in
    let kept : t.words ≡ s.words = search rules in
    let idle : t.view.held ≡ None = search rules in
    let freed : c.reclaim_guest-freed.result + freed_in s.view ≡ freed_in t.view = search rules in
    let few : c.reclaim_guest-freed.result ≤ w.pages = search rules in
    let given : c.reclaim_guest-freed.new.pool_seat ≡ given_more c.loop-guest.pool_seat c.reclaim_guest-freed.result = search rules in
    let count : length c.args.seats.now ≡ length c.args.words.now = seats_count c.args.words.now c.args.pool.now c.args.seats.now c.args.pool_seat.now c.requires.can in
    let some : guest < length c.args.seats.now = omega (arith, inside, count) in
    let more : sum_by (λ (q : WordsView). q.pages) (take (guest + 1) c.args.words.now) ≡ sum_by (λ (q : WordsView). q.pages) (take guest c.args.words.now) +
    (slice_index_or c.args.words.now guest w).pages =
    sum_by_more (λ (q : WordsView). q.pages) c.args.words.now guest w inside in
    let pages : (slice_index_or c.args.words.now guest w).pages ≡ w.pages = ap (λ (q : WordsView). q.pages) (sym are) in (
      can_set c.args.words.now c.args.pool.now c.loop-guest.seats c.loop-guest.pool_seat now.0 guest s t c.reclaim_guest-freed.new.pool_seat
          (kept ∙ ap (λ (q : Seated). q.words) is) idle (ap (λ (q : PoolSeatView). q.pool) given),
      search (rules, arith),
      passed_more guest c.args.seats.now c.loop-guest.seats start faults risen c.loop-guest.freed c.reclaim_guest-freed.result s t some now.1
          c.reclaim_guest-freed.ensures.faults now.2
          (subst (λ (q : Seated). PassedOne faults risen q t) is looks)
          (subst (λ (q : Seated). c.reclaim_guest-freed.result + freed_in q.view ≡ freed_in t.view) is freed),
      omega (arith, now.3, few, more, pages),
      given_on c.args.pool_seat.now c.loop-guest.pool_seat c.reclaim_guest-freed.new.pool_seat c.loop-guest.freed c.reclaim_guest-freed.result now.4 given,
    )
