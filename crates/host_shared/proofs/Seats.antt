-- A list of seats of the host with one of them changed.
use Rattle.std.specs.Prelude.{◌≡◌, ℕ, ◌+◌, ◌<◌, List, length, map, None, slice_set, slice_index_or}
use Rattle.std.proofs.Common.{arith, ap, sym, ◌∙◌}
use Rattle.std.specs.Global.{Vec}
use Rattle.std.specs.Vec.{with_items}
use Rattle.std.proofs.lemmas.List.{get_or-map, map-set, length-map, set-get_or, with_items_is}
use Rattle.std.proofs.lemmas.List.Elements.{All-set, All-get_or}
use Rattle.std.proofs.lemmas.List.Sums.{sum_by-set}
use Rattle.state_words.specs.SeatView.{WordsView, Seated}
use Rattle.frame_pool.specs.Seats.{PoolId, PoolSeatView}
use Rattle.host_shared.specs.Looks.{freed_in, freed_in_all}
use Rattle.host_shared.specs.Reclaiming.{CanReclaim}

pub bound_words : Seated → WordsView
bound_words s = s.words

module _ (words : List WordsView) (pool : PoolId) (seats : List Seated) (seat : PoolSeatView) (can : CanReclaim words pool seats seat) where
  pub seats_count : length seats ≡ length words
  seats_count = sym (length-map seats (λ (s : Seated). s.words)) ∙ ap (λ (ws : List WordsView). length ws) can.seats_are

  pub seat_words : (guest : ℕ) (d : Seated) (e : WordsView) → guest < length words → (slice_index_or seats guest d).words ≡ slice_index_or words guest e
  seat_words guest d e inside =
      sym (get_or-map (λ (s : Seated). s.words) seats guest d e (omega (arith, inside, seats_count))) ∙ ap (λ (ws : List WordsView). slice_index_or ws guest e) can.seats_are

  pub words_housed : (guest : ℕ) (e : WordsView) → guest < length words → (slice_index_or words guest e).house ≡ pool.table
  words_housed guest e inside = All-get_or (λ (w : WordsView). w.house ≡ pool.table) words guest e inside can.housed

  pub can_set : (guest : ℕ) (d s : Seated) (after : PoolSeatView) → s.words ≡ (slice_index_or seats guest d).words → s.view.held ≡ None → after.pool ≡ seat.pool →
      CanReclaim words pool (slice_set seats guest s) after
  can_set guest d s after same idle of_pool = record {
    seats_are = map-set (λ (q : Seated). q.words) seats guest s ∙ ap (λ (w : WordsView). slice_set (map (λ (q : Seated). q.words) seats) guest w) same
        ∙ sym (map-set (λ (q : Seated). q.words) seats guest (slice_index_or seats guest d))
        ∙ ap (λ (qs : List Seated). map (λ (q : Seated). q.words) qs) (set-get_or seats guest d) ∙ can.seats_are;
    none_held = All-set (λ (q : Seated). q.view.held ≡ None) seats guest s idle can.none_held;
    of_pool = of_pool ∙ can.of_pool;
    housed = can.housed;
  }

-- the frames that all seats have freed, where one seat has freed some more
pub freed_set : (seats : List Seated) (guest n : ℕ) (d s : Seated) → guest < length seats → n + freed_in (slice_index_or seats guest d).view ≡ freed_in s.view →
    n + freed_in_all seats ≡ freed_in_all (slice_set seats guest s)
freed_set seats guest n d s inside more = let total = sum_by-set (λ (q : Seated). freed_in q.view) seats guest s d inside in omega (arith, total, more)

-- the seats of a `Vec` that was lent as a slice, once it has come back
pub refilled : (words : List WordsView) (pool : PoolId) (v : Vec Seated) (new : List Seated) (seat after : PoolSeatView) → CanReclaim words pool v.items seat →
    CanReclaim words pool new after → (with_items v new).items ≡ new
refilled words pool v new seat after before can = with_items_is v new (seats_count words pool new after can ∙ sym (seats_count words pool v.items seat before) ∙ sym v.ok.0)
