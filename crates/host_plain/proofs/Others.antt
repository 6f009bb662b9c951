-- What a call leaves alone of the other pages, and of other guests.
use Rattle.std.specs.Prelude.{◌≡◌, ◌≢◌, refl, ℕ, zero, suc, ◌+◌, ◌-◌, ◌<◌, ◌≤◌, List, length, Bool, true, false, Option, Some, None, slice_index_or}
use Rattle.std.proofs.Common.{arith, subst, inl, inr, get_or-set_other}
use Rattle.std.proofs.Math.ListN.{length-set}
use Rattle.std.proofs.lemmas.Bool.{cases_lt}
use Rattle.essa_state.specs.declared.fields.Fields.{Fields}
use Rattle.essa_state.specs.PageValue.{MayBecome}
use Rattle.essa_state.specs.Orders.{after_order}
use Rattle.cmm_storage.specs.StorageCall.{StorageCall, Take, Touch, Give, TakeChange, Fetch, Store, Put}
use Rattle.cmm_storage.specs.Views.{page_called}
use Rattle.host_plain.specs.MemoryState.{MemoryState, memory_value_at, with_word, stored_at}
use Rattle.host_plain.specs.HostState.{HostState, IsHost, HostStep, CanCall, AreStarts, SparesOthers, Leaves, Serves, list_place}
use Rattle.host_plain.specs.HostState.{pages_of, pager_of, no_pager, first_place, value_of, host_word, held_word, touch_of, touch_after}
use Rattle.host_plain.proofs.Touching.{touched_page-keeps}
use Rattle.host_plain.proofs.Places.{span-of}
use Rattle.host_plain.proofs.Sound.{host_with, held-below}
use Rattle.host_plain.proofs.Follows.{host_follows, word-other, stored-other, host_stays}

spares_by : (h : HostState) (page : ℕ) (n : MemoryState) (held : Option ℕ) (touched : Bool) → n.frames ≡ h.memory.frames →
    ((place : ℕ) → place ≢ list_place h page → MayBecome (memory_value_at h.memory place) (memory_value_at n place)) → SparesOthers h page (host_with h n h.pagers h.own held touched)
spares_by h page n held touched frames values = record { starts = refl; guest = refl; own = refl; count = refl; pagers = λ guest other. refl; frames = frames; values = values }

spares-word : (h : HostState) (page : ℕ) (word : Fields) (held : Option ℕ) (touched : Bool)
    → SparesOthers h page (host_with h (with_word h.memory (list_place h page) word) h.pagers h.own held touched)
spares-word h page word held touched =
    spares_by h page (with_word h.memory (list_place h page) word) held touched refl (λ place other. inl (word-other h.memory (list_place h page) word place other))

spares-touch : (h : HostState) (page : ℕ) → IsHost h → h.held ≡ Some page → SparesOthers h page (touch_after h page)
unfolding touch_of
spares-touch h page is held =
    let keeps = touched_page-keeps h.memory (list_place h page) (pager_of h h.guest) is.memory (held-below h page is held) in
    record {
      starts = refl;
      guest = refl;
      own = refl;
      count = length-set h.pagers h.guest (touch_of h page).pager;
      pagers = λ guest other. get_or-set_other h.pagers h.guest guest (touch_of h page).pager no_pager other;
      frames = keeps.frames;
      values = keeps.others;
    }

-- every call
pub host_spares : (h : HostState) (call : StorageCall) (k : HostState) → IsHost h → CanCall h call → HostStep h call k → SparesOthers h (page_called call) k
host_spares h (Take page r) k is can (answer, after) = rw after (spares-word h page (held_word (host_word h page) true) (Some page) false)
host_spares h (Touch page r) k is held (answer, after) = rw after (spares-touch h page is held)
host_spares h (Give page code old) k is held (answer, after) = rw after (spares-word h page (after_order (host_word h page) code) h.held h.touched)
host_spares h (TakeChange page changed) k is held (answer, after) = rw after (spares-word h page (record (host_word h page) { changed = false }) h.held h.touched)
host_spares h (Fetch page off bytes) k is can (answer, after) = rw after (spares_by h page h.memory h.held h.touched refl (λ place other. inl refl))
host_spares h (Store page off bytes) k is can after =
    rw after (spares_by h page (stored_at h.memory (list_place h page) off bytes) h.held h.touched refl (λ place other. inl (stored-other h.memory (list_place h page) off bytes place other)))
host_spares h (Put page) k is held after = rw after (spares-word h page (held_word (host_word h page) false) None h.touched)

call-below : (h : HostState) (call : StorageCall) → IsHost h → CanCall h call → page_called call < pages_of h h.guest
call-below h (Take page r) is can = can.0
call-below h (Touch page r) is held = is.below page held
call-below h (Give page code old) is held = is.below page held
call-below h (TakeChange page changed) is held = is.below page held
call-below h (Fetch page off bytes) is can = is.below page can.0
call-below h (Store page off bytes) is can = is.below page can.0
call-below h (Put page) is held = is.below page held

pub host_leaves : (h : HostState) (call : StorageCall) (k : HostState) → IsHost h → CanCall h call → HostStep h call k → Leaves h (page_called call) k
host_leaves h call k is can step = record { sound = host_stays h call k is can step; below = call-below h call is can; spares = host_spares h call k is can step }

pub host_serves : (h : HostState) (call : StorageCall) (k : HostState) → IsHost h → CanCall h call → HostStep h call k → Serves h call k
host_serves h call k is can step = record { step = step; follows = host_follows h call k is can step; leaves = host_leaves h call k is can step }

-- so many guests further on, pages start no sooner
start-rises : (starts : List ℕ) (guests pages : ℕ) → AreStarts starts guests pages → (guest more : ℕ) → guest + more ≤ guests → slice_index_or starts guest 0 ≤ slice_index_or starts (guest + more) 0
start-rises starts guests pages are guest zero most = let same : guest + 0 ≡ guest = omega arith in rw same (omega arith)
start-rises starts guests pages are guest (suc more) most =
    let before : slice_index_or starts guest 0 ≤ slice_index_or starts (guest + more) 0 = start-rises starts guests pages are guest more (omega (arith, most)) in
    let next : guest + suc more ≡ guest + more + 1 = omega arith in
    rw next (omega (arith, before, are.rises (guest + more) (omega (arith, most))))

starts-apart : (h : HostState) (first second : ℕ) → IsHost h → first < second → second < length h.pagers → first_place h (first + 1) ≤ first_place h second
starts-apart h first second is before below =
    let same : first + 1 + (second - (first + 1)) ≡ second = omega (arith, before) in
    subst (λ n. first_place h (first + 1) ≤ first_place h n) same
    (start-rises h.starts (length h.pagers) (length h.memory.words) is.starts (first + 1) (second - (first + 1)) (omega (arith, before, below)))

-- pages of two guests stand at different places
pub places-apart : (h : HostState) (first second a b : ℕ) → IsHost h → first < length h.pagers → second < length h.pagers → first ≢ second → a < pages_of h first → b < pages_of h second →
    first_place h first + a ≢ first_place h second + b
places-apart h first second a b is below under other within inside same =
    let one = span-of h first is below in
    let two = span-of h second is under in
    elim (cases_lt first second) [
      | inl before ↦ absurd (omega (arith, same, starts-apart h first second is before under, within, one.start, two.start, inside))
      | inr behind ↦
          let after : second < first = omega (arith, behind, other) in
          absurd (omega (arith, same, starts-apart h second first is after below, within, one.start, two.start, inside))
    ]

-- the pages of another guest than the one that is served
pub other_guest : (h : HostState) (page : ℕ) (k : HostState) (guest other : ℕ) → IsHost h → Leaves h page k → guest < length h.pagers → guest ≢ h.guest → other < pages_of h guest →
    MayBecome (value_of h guest other) (value_of k guest other)
other_guest h page k guest other is leaves below not_served inside =
    rw leaves.spares.starts (leaves.spares.values (first_place h guest + other) (places-apart h guest h.guest other page is below is.guest not_served inside leaves.below))
