-- Where guests' pages start, as a host is opened.
use Rattle.std.specs.Prelude.{◌≡◌, ℕ, ◌+◌, ◌<◌, ◌≤◌, List, [], ◌∷◌, ◌++◌, length, take, map, sum, All, Some, None, true, false, replicate, slice_index_or}
use Rattle.std.specs.List.{range_with_len}
use Rattle.std.proofs.Common.{arith, ap, sym, ◌∙◌, zero-add}
use Rattle.std.proofs.lemmas.List.{take_all}
use Rattle.std.proofs.lemmas.List.FromFn.{map-range_with_len_more, get_or-map-range_with_len, length-map-range_with_len}
use Rattle.std.proofs.lemmas.List.Sums.{sum_by_more, sum_by_more_le}
use Rattle.std.proofs.lemmas.List.{length-replicate}
use Rattle.cmm_io.specs.FailurePlan.{FailurePlan}
use Rattle.essa_state.specs.declared.fields.Fields.{Fields}
use Rattle.host_plain.specs.MemoryState.{MemoryState, IsMemory, opening_memory}
use Rattle.essa_state.specs.StateWord.{opening_word}
use Rattle.host_plain.specs.HostState.{HostState, AreStarts, IsHost, starts_of, host_opening}
use Rattle.host_plain.proofs.Opening.{opening_word-at}

-- one guest more
pub one_start : (pages : List ℕ) (n : ℕ) (items : List ℕ) (start : ℕ) → items ≡ map (λ guest. sum (take guest pages)) (range_with_len 0 n) → start ≡ sum (take n pages) →
    items ++ start ∷ [] ≡ map (λ guest. sum (take guest pages)) (range_with_len 0 (n + 1))
one_start pages n items start made there =
    ap (λ xs. xs ++ start ∷ []) made ∙ ap (λ s. map (λ guest. sum (take guest pages)) (range_with_len 0 n) ++ s ∷ []) there
    ∙ sym (map-range_with_len_more (λ guest. sum (take guest pages)) 0 n n (zero-add n))

pub next_start : (pages : List ℕ) (n start : ℕ) → n < length pages → start ≡ sum (take n pages) → start + slice_index_or pages n 0 ≡ sum (take (n + 1) pages)
next_start pages n start below there = ap (λ s. s + slice_index_or pages n 0) there ∙ sym (sum_by_more (λ k. k) pages n 0 below)

pub pages-there : (pages : List ℕ) → 0 < length pages → All (λ count. 0 < count) pages → 0 < sum pages
pages-there pages some each = omega (arith, sum_by_more_le (λ k. k) pages 0 0 some, each 0 0 some)

pub start-at : (pages : List ℕ) (guest : ℕ) → guest ≤ length pages → slice_index_or (starts_of pages) guest 0 ≡ sum (take guest pages)
start-at pages guest most = get_or-map-range_with_len (λ g. sum (take g pages)) 0 (length pages + 1) guest guest 0 (omega (arith, most)) (zero-add guest)

-- guests with a page each begin at different places
pub starts-are : (pages : List ℕ) → All (λ count. 0 < count) pages → AreStarts (starts_of pages) (length pages) (sum pages)
starts-are pages each = record {
  count = length-map-range_with_len (λ guest. sum (take guest pages)) 0 (length pages + 1);
  rises = λ guest below.
      let more : sum (take (guest + 1) pages) ≡ sum (take guest pages) + slice_index_or pages guest 0 = sum_by_more (λ n. n) pages guest 0 below in
      let some : 0 < slice_index_or pages guest 0 = each guest 0 below in
      omega (arith, start-at pages guest (omega (arith, below)), start-at pages (guest + 1) (omega (arith, below)), more, some);
  all = start-at pages (length pages) (omega arith) ∙ ap sum (take_all (length pages) pages (omega arith));
}

none-held : (page : ℕ) → None ≡ Some page → ⊥
none-held page e = cc

none-busy : (n k : ℕ) → (slice_index_or (replicate n opening_word) k opening_word).busy ≡ true → ⊥
none-busy n k busy =
    let both : false ≡ true = sym (ap (λ (w : Fields). w.busy) (opening_word-at n k)) ∙ busy in
    cc

pub opening-host : (pages : List ℕ) (frames : ℕ) (blocks : List (List ℕ)) (pagers : List FailurePlan) (own : FailurePlan) → IsMemory (opening_memory blocks frames) →
    0 < length pages → length pagers ≡ length pages → All (λ count. 0 < count) pages → length blocks ≡ sum pages → IsHost (host_opening pages frames blocks pagers own)
opening-host pages frames blocks pagers own sound some guests each all = record {
  memory = sound;
  starts = rw (length-replicate (length blocks) opening_word, guests, all) (starts-are pages each);
  guest = omega (arith, some, guests);
  below = λ page held. absurd (none-held page held);
  busy = λ page held. absurd (none-held page held);
  others = λ k busy. absurd (none-busy (length blocks) k busy);
  resident = λ page held touched. absurd (none-held page held);
}

-- a host as it is opened, by its parts
pub opened : (pages : List ℕ) (frames : ℕ) (blocks : List (List ℕ)) (pagers : List FailurePlan) (own : FailurePlan) (m : MemoryState) (starts : List ℕ) → m ≡ opening_memory blocks frames →
    starts ≡ starts_of pages → record { memory = m; starts = starts; pagers = pagers; own = own; guest = 0; held = None; touched = false } ≡ host_opening pages frames blocks pagers own
opened pages frames blocks pagers own m starts memory there =
    ap (λ (k : MemoryState). let h : HostState = record { memory = k; starts = starts; pagers = pagers; own = own; guest = 0; held = None; touched = false } in h) memory
    ∙ ap (λ (s : List ℕ). let h : HostState = record { memory = opening_memory blocks frames; starts = s; pagers = pagers; own = own; guest = 0; held = None; touched = false } in h) there
