use Rattle.std.specs.Prelude.{◌≡◌, ◌<◌, ◌≤◌, None, length, slice_index_or}
use Rattle.std.proofs.Common.{rules, arith, ap, sym, ◌∙◌}
use Rattle.state_words.specs.SeatView.{WordsView, Seated}
use Rattle.host_shared.specs.Searching.{LooksIn, round_but}
use Rattle.host_shared.specs.Finding.{WhereNothing, KeepsSupply}
use Rattle.host_shared.proofs.Seats.{seats_count, seat_words, can_set}
use Rattle.host_shared.proofs.Founds.{where_searched, where_few}
use Rattle.host_shared.proofs.search.Supply.look_at_guest.Goals as goal

pub returns-clause-can : goal.returns-clause-can
returns-clause-can c =
    let s : Seated = c.index-hosts-guest.result in
    let t : Seated = c.look_round.new.seat in
    let is : s ≡ slice_index_or c.args.hosts.now c.args.guest s = c.index-hosts-guest.is in
    let kept : t.words ≡ s.words = search rules in
    let idle : t.view.held ≡ None = search rules in
    let keeps : KeepsSupply c.args.self.now c.look_round.new.self = search rules in
    can_set c.args.words.now c.args.pool.now c.args.hosts.now c.args.self.now.seat c.requires.can c.args.guest s t c.look_round.new.self.seat (kept ∙ ap (λ (q : Seated). q.words) is) idle keeps.pool

pub returns-clause-nothing : goal.returns-clause-nothing
returns-clause-nothing c =
    let s : Seated = c.index-hosts-guest.result in
    let t : Seated = c.look_round.new.seat in
    let w : WordsView = c.index-words-guest.result in
    let is : s ≡ slice_index_or c.args.hosts.now c.args.guest s = c.index-hosts-guest.is in
    let are : w ≡ slice_index_or c.args.words.now c.args.guest w = c.index-words-guest.is in
    let same : s.words ≡ w = ap (λ (q : Seated). q.words) is ∙ seat_words c.args.words.now c.args.pool.now c.args.hosts.now c.args.self.now.seat c.requires.can c.args.guest s w c.requires.guest
    ∙ sym are in
    let count : length c.args.hosts.now ≡ length c.args.words.now = seats_count c.args.words.now c.args.pool.now c.args.hosts.now c.args.self.now.seat c.requires.can in
    let inside : c.args.guest < length c.args.hosts.now = omega (arith, c.requires.guest, count) in
    let begins : c.start_in-start.result ≤ w.pages = search (rules, arith) in
    let looked : WhereNothing c.look_round.result (LooksIn (round_but c.held_of-skip.result c.start_in-start.result w.pages) s.view t.view c.args.self.now.seat.dry c.look_round.new.self.seat.dry) =
    search rules in
    where_searched c.look_round.result c.args.held.guest c.args.held.page c.args.guest c.start_in-start.result c.args.hosts.now s t c.held_of-skip.result w.pages c.args.self.now.seat.dry
    c.look_round.new.self.seat.dry
    inside is c.held_of-skip.ensures (ap (λ (q : WordsView). q.pages) same) begins looked

pub returns-clause-few : goal.returns-clause-few
returns-clause-few c d =
    let w : WordsView = c.index-words-guest.result in
    let are : w ≡ slice_index_or c.args.words.now c.args.guest w = c.index-words-guest.is in
    let few : WhereNothing c.look_round.result (λ looks. looks ≤ w.pages) = search rules in
    where_few c.look_round.result c.args.words.now c.args.guest w d c.requires.guest are few
