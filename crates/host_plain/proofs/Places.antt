-- Where guests' pages stand.
use Rattle.std.specs.Prelude.{◌≡◌, ℕ, zero, suc, ◌+◌, ◌-◌, ◌<◌, ◌≤◌, length, slice_index_or, List}
use Rattle.std.proofs.Common.{arith, ap, ◌∙◌}
use Rattle.host_plain.specs.HostState.{HostState, AreStarts, IsHost, first_place, pages_of}

-- so many guests before the last, a guest's pages start among all
start-most : (starts : List ℕ) (guests pages : ℕ) → AreStarts starts guests pages → (guest more : ℕ) → guest + more ≡ guests → slice_index_or starts guest 0 ≤ pages
start-most starts guests pages are guest zero e =
    let last : guest ≡ guests = omega (arith, e) in
    let there : slice_index_or starts guest 0 ≡ pages = ap (λ n. slice_index_or starts n 0) last ∙ are.all in
    omega (arith, there)
start-most starts guests pages are guest (suc more) e =
    let next : slice_index_or starts (guest + 1) 0 ≤ pages = start-most starts guests pages are (guest + 1) more (omega (arith, e)) in
    omega (arith, next, are.rises guest (omega (arith, e)))

-- a guest's pages end behind their start, and not behind all pages
pub record IsSpan (h : HostState) (guest : ℕ) : Type 0 where
  pub start : first_place h guest < first_place h (guest + 1)
  pub end : first_place h (guest + 1) ≤ length h.memory.words

pub span-of : (h : HostState) (guest : ℕ) → IsHost h → guest < length h.pagers → IsSpan h guest
span-of h guest is below = record {
  start = is.starts.rises guest below;
  end = start-most h.starts (length h.pagers) (length h.memory.words) is.starts (guest + 1) (length h.pagers - (guest + 1)) (omega (arith, below));
}

pub place-below : (h : HostState) (guest page : ℕ) → IsHost h → guest < length h.pagers → page < pages_of h guest → first_place h guest + page < length h.memory.words
place-below h guest page is below inside =
    let span = span-of h guest is below in
    omega (arith, span.start, span.end, inside)
