-- Each call of the host does what a storage's is to do.
use Rattle.std.specs.Prelude.{◌≡◌, ◌≢◌, refl, ℕ, ◌<◌, ◌≤◌, List, length, take, drop, Bool, true, false, ◌||◌, Option, Some, None, Result, Ok, Err, is_ok, slice_index_or, slice_set}
use Rattle.std.proofs.Common.{arith, ap, sym, subst, inl, inr, ◌∙◌, get_or-set_other, get_or-set_same}
use Rattle.cmm_types.specs.declared.page.Content.{Content}
use Rattle.cmm_types.specs.declared.page.Content.TheVariants.{Resident}
use Rattle.cmm_io.specs.FailurePlan.{FailurePlan}
use Rattle.cmm_io.specs.Faults.{HasRisen}
use Rattle.essa_state.specs.declared.fields.Fields.{Fields}
use Rattle.essa_state.specs.declared.orders.Order.{Order}
use Rattle.essa_state.specs.StateWord.{is_resident, is_permitted, is_discarded, opening_word}
use Rattle.essa_state.specs.Orders.{order_done, after_order}
use Rattle.essa_state.specs.PageValue.{PageValue, Bytes, is_lost, MayBecome, IsValue, OrderStep}
use Rattle.essa_state.specs.PageBody.{Body, actual, frame_bytes}
use Rattle.essa_state.specs.Laws.PageValueLaws.{actual-is_value, ordered-value}
use Rattle.essa_state.specs.Laws.WordLaws.{ordered-permitted}
use Rattle.cmm_storage.specs.declared.storage.Trap.{Trap}
use Rattle.cmm_storage.specs.declared.storage.Trap.TheVariants.{Discarded, Paging, NoFrame}
use Rattle.cmm_storage.specs.Laws.HoldLaws.{actual-placed, after_order-content, resident-content, resident-contents, resident-bytes, stored-actual, lost-discarded, not-touched}
use Rattle.cmm_storage.specs.StorageCall.{StorageCall, Take, Touch, Give, TakeChange, Fetch, Store, Put}
use Rattle.cmm_storage.specs.StorageView.{Follows, Keeps, IsPlaced, bytes_of, content_after, stored_value}
use Rattle.cmm_types.specs.Bytes.{with_bytes}
use Rattle.host_plain.specs.MemoryState.{MemoryState, word_at, body_at, memory_value_at, with_word, stored_at, old_of, no_body}
use Rattle.host_plain.specs.HostState.{HostState, IsHost, HostStep, CanCall, host_view, held_content, host_word, touch_of, touch_after}
use Rattle.host_plain.specs.HostState.{host_bytes, list_place, pages_of, pager_of, no_pager, held_word, with_host_word, page_stored, taken, given_back}
use Rattle.host_plain.proofs.Places.{place-below}
use Rattle.host_plain.specs.Touches.{Touched, touched_page}
use Rattle.host_plain.specs.Keeping.{TouchKeeps, TouchLeaves, FaultsOf, is_paged, faults_of}
use Rattle.host_plain.proofs.Touching.{touched_page-keeps, touched_page-leaves}
use Rattle.host_plain.proofs.Calling.{touched_page-faults, touched_page-falls, some-to_take}
use Rattle.host_plain.proofs.Sound.{host_with, held-below, none-resident-held, stored-host, taken-host, given_back-host, touched-host, ordered-host, unchanged-host}

pub place-other : (h : HostState) (i page : ℕ) → i ≢ page → list_place h i ≢ list_place h page
place-other h i page other e = other (omega (arith, e))

pub keeps_of : (h : HostState) (n : MemoryState) (pagers : List FailurePlan) (held : Option ℕ) (touched : Bool) (page : ℕ) →
    ((i : ℕ) → i ≢ page → MayBecome (memory_value_at h.memory (list_place h i)) (memory_value_at n (list_place h i))) →
    faults_of (pager_of h h.guest) ≤ faults_of (slice_index_or pagers h.guest no_pager) →
    Keeps (host_view h) page (host_view (host_with h n pagers h.own held touched))
keeps_of h n pagers held touched page others faults = record { pages = refl; others = others; faults = faults; misses = omega arith; quiet = refl; tells = refl }

-- another word at a place
pub word-other : (m : MemoryState) (place : ℕ) (word : Fields) (k : ℕ) → k ≢ place → memory_value_at (with_word m place word) k ≡ memory_value_at m k
word-other m place word k other = ap (λ (w : Fields). actual w (body_at m k)) (get_or-set_other m.words place k word opening_word other)

word-same : (m : MemoryState) (place : ℕ) (word : Fields) → place < length m.words → memory_value_at (with_word m place word) place ≡ actual word (body_at m place)
word-same m place word below = ap (λ (w : Fields). actual w (body_at m place)) (get_or-set_same m.words place word opening_word below)

take-follows : (h : HostState) (page : ℕ) → IsHost h → page < pages_of h h.guest → Follows (host_view h) (Take page (Ok tt)) (host_view (taken h page))
take-follows h page is inside =
    let m : MemoryState = h.memory in
    let place : ℕ = list_place h page in
    let word : Fields = held_word (word_at m place) true in
    let below : place < length m.words = place-below h h.guest page is is.guest inside in
    let same : memory_value_at (with_word m place word) place ≡ memory_value_at m place = word-same m place word below in
    let still : (i : ℕ) → i ≢ page → memory_value_at (with_word m place word) (list_place h i) ≡ memory_value_at m (list_place h i) =
    λ i other. word-other m place word (list_place h i) (place-other h i page other) in
    let permitted : is_permitted (word_at m place) ≡ true = (is.memory.pages place below).permitted in
    let value : IsValue (memory_value_at m place) = actual-is_value (word_at m place) (body_at m place) permitted in (
      keeps_of h (with_word m place word) h.pagers (Some page) false page (λ i other. inl (still i other)) (omega arith),
      refl,
      λ q. still,
      (refl, refl),
      inl same,
      subst (λ (v : PageValue). IsValue v) (sym same) value,
      λ q. same,
      actual-placed (word_at (with_word m place word) place) (body_at m place) (subst (λ (w : Fields). is_permitted w ≡ true) (sym (get_or-set_same m.words place word opening_word below)) permitted),
    )

-- the held page is where its word says
held-content : (h : HostState) (page : ℕ) → h.held ≡ Some page → (host_view h).content ≡ (host_word h page).content
held-content h page held = ap (λ (p : Option ℕ). held_content h p) held

same-content : (h k : HostState) (page : ℕ) → h.held ≡ Some page → k.held ≡ Some page → (host_word k page).content ≡ (host_word h page).content → (host_view k).content ≡ (host_view h).content
same-content h k page before after same = held-content k page after ∙ same ∙ sym (held-content h page before)

give-follows : (h : HostState) (page : ℕ) (code : Order) → IsHost h → h.held ≡ Some page →
    Follows (host_view h) (Give page code (old_of (host_word h page) code)) (host_view (with_host_word h page (after_order (host_word h page) code)))
give-follows h page code is held =
    let m : MemoryState = h.memory in
    let place : ℕ = list_place h page in
    let word : Fields = after_order (word_at m place) code in
    let k : HostState = with_host_word h page word in
    let below : place < length m.words = held-below h page is held in
    let now : word_at k.memory place ≡ word = get_or-set_same m.words place word opening_word below in
    let permitted : is_permitted word ≡ true = ordered-permitted (word_at m place) code (is.memory.pages place below).permitted in
    let placed : IsPlaced (word_at k.memory place).content (memory_value_at k.memory place) =
    actual-placed (word_at k.memory place) (body_at k.memory place) (subst (λ (w : Fields). is_permitted w ≡ true) (sym now) permitted) in
    let same : memory_value_at (with_word m place word) place ≡ actual word (body_at m place) = word-same m place word below in
    let still : (i : ℕ) → i ≢ page → memory_value_at (with_word m place word) (list_place h i) ≡ memory_value_at m (list_place h i) =
    λ i other. word-other m place word (list_place h i) (place-other h i page other) in (
      keeps_of h (with_word m place word) h.pagers h.held h.touched page (λ i other. inl (still i other)) (omega arith),
      refl,
      λ q. still,
      (held, refl),
      record { usage = refl; content = sym (held-content h page held) },
      subst (λ (v : PageValue). OrderStep (memory_value_at m place) code (order_done (word_at m place) code) v) (sym same) (ordered-value (word_at m place) (body_at m place) code),
      held-content k page held ∙ ap (λ (w : Fields). w.content) now ∙ after_order-content (word_at m place) code ∙ sym (ap (λ (c : Content). content_after code c) (held-content h page held)),
      subst (λ (c : Content). IsPlaced c (memory_value_at k.memory place)) (sym (held-content k page held)) placed,
    )

take_change-follows : (h : HostState) (page : ℕ) → IsHost h → h.held ≡ Some page →
    Follows (host_view h) (TakeChange page (host_word h page).changed) (host_view (with_host_word h page (record (host_word h page) { changed = false })))
take_change-follows h page is held =
    let m : MemoryState = h.memory in
    let place : ℕ = list_place h page in
    let word : Fields = record (word_at m place) { changed = false } in
    let below : place < length m.words = held-below h page is held in
    let still : (i : ℕ) → i ≢ page → memory_value_at (with_word m place word) (list_place h i) ≡ memory_value_at m (list_place h i) =
    λ i other. word-other m place word (list_place h i) (place-other h i page other) in (
      keeps_of h (with_word m place word) h.pagers h.held h.touched page (λ i other. inl (still i other)) (omega arith),
      refl,
      λ q. still,
      (held, refl),
      refl,
      word-same m place word below,
      same-content h (with_host_word h page word) page held held (ap (λ (w : Fields). w.content) (get_or-set_same m.words place word opening_word below)),
    )

fetch-follows : (h : HostState) (page off : ℕ) (bytes : List ℕ) → IsHost h → h.held ≡ Some page → h.touched ≡ true →
    bytes ≡ take (length bytes) (drop off (host_bytes h page)) → Follows (host_view h) (Fetch page off bytes) (host_view h)
fetch-follows h page off bytes is held touched read =
    let m : MemoryState = h.memory in
    let place : ℕ = list_place h page in (
      keeps_of h m h.pagers h.held h.touched page (λ i other. inl refl) (omega arith),
      refl,
      λ q i other. refl,
      ((held, refl), refl),
      λ q. rw (resident-bytes (word_at m place) (body_at m place) (is.resident page held touched)) read,
      refl,
    )

pub stored-other : (m : MemoryState) (place off : ℕ) (bytes : List ℕ) (k : ℕ) → k ≢ place → memory_value_at (stored_at m place off bytes) k ≡ memory_value_at m k
stored-other m place off bytes k other =
    ap (λ (w : Fields). actual w (body_at (stored_at m place off bytes) k)) (get_or-set_other m.words place k _ opening_word other)
    ∙ ap (λ (b : Body). actual (word_at m k) b) (get_or-set_other m.bodies place k _ no_body other)

store-follows : (h : HostState) (page off : ℕ) (bytes : List ℕ) → IsHost h → h.held ≡ Some page → h.touched ≡ true →
    Follows (host_view h) (Store page off bytes) (host_view (page_stored h page off bytes))
store-follows h page off bytes is held touched =
    let m : MemoryState = h.memory in
    let place : ℕ = list_place h page in
    let n : MemoryState = stored_at m place off bytes in
    let below : place < length m.words = held-below h page is held in
    let inside : place < length m.bodies = omega (arith, below, is.memory.same) in
    let word : Fields = record (word_at m place) { changed = true } in
    let body : Body = record (body_at m place) { frame = Some (with_bytes (frame_bytes (body_at m place)) off bytes) } in
    let still : (i : ℕ) → i ≢ page → memory_value_at n (list_place h i) ≡ memory_value_at m (list_place h i) =
    λ i other. stored-other m place off bytes (list_place h i) (place-other h i page other) in
    let same : memory_value_at n place ≡ actual word body = rw (get_or-set_same m.words place word opening_word below, get_or-set_same m.bodies place body no_body inside) refl in (
      keeps_of h n h.pagers h.held h.touched page (λ i other. inl (still i other)) (omega arith),
      refl,
      λ q. still,
      (held, refl),
      same ∙ stored-actual (word_at m place) (body_at m place) off bytes (is.resident page held touched),
      same-content h (page_stored h page off bytes) page held held (ap (λ (w : Fields). w.content) (get_or-set_same m.words place word opening_word below)),
    )

put-follows : (h : HostState) (page : ℕ) → IsHost h → h.held ≡ Some page → Follows (host_view h) (Put page) (host_view (given_back h page))
put-follows h page is held =
    let m : MemoryState = h.memory in
    let place : ℕ = list_place h page in
    let word : Fields = held_word (word_at m place) false in
    let below : place < length m.words = held-below h page is held in
    let still : (i : ℕ) → i ≢ page → memory_value_at (with_word m place word) (list_place h i) ≡ memory_value_at m (list_place h i) =
    λ i other. word-other m place word (list_place h i) (place-other h i page other) in (
      keeps_of h (with_word m place word) h.pagers None h.touched page (λ i other. inl (still i other)) (omega arith),
      refl,
      λ q. still,
      refl,
      word-same m place word below,
    )

touch-by : (h : HostState) (page : ℕ) (r : Result Unit Trap) (n : MemoryState) (pager : FailurePlan) → IsHost h → h.held ≡ Some page → TouchKeeps h.memory (list_place h page) n →
    TouchLeaves r h.memory (list_place h page) n → faults_of (pager_of h h.guest) ≤ faults_of pager → (r ≡ Err Paging → HasRisen (faults_of (pager_of h h.guest)) (faults_of pager)) →
    Follows (host_view h) (Touch page r) (host_view (host_with h n (slice_set h.pagers h.guest pager) h.own h.held (is_ok r || h.touched)))
touch-by h page r n pager is held keeps leaves never_falls risen = at r leaves risen
  where
    m : MemoryState
    m = h.memory

    place : ℕ
    place = list_place h page

    now : faults_of (slice_index_or (slice_set h.pagers h.guest pager) h.guest no_pager) ≡ faults_of pager
    now = ap (λ (p : FailurePlan). faults_of p) (get_or-set_same h.pagers h.guest pager no_pager is.guest)

    after : (touched : Bool) → HostState
    after touched = host_with h n (slice_set h.pagers h.guest pager) h.own h.held touched

    before-resident : is_resident (host_view h).content ≡ true → is_resident (word_at m place).content ≡ true
    before-resident resident = ap (λ (c : Content). is_resident c) (sym (held-content h page held)) ∙ resident

    kept : (touched : Bool) → Keeps (host_view h) page (host_view (host_with h n (slice_set h.pagers h.guest pager) h.own h.held touched))
    kept touched = keeps_of h n (slice_set h.pagers h.guest pager) h.held touched page (λ i other. keeps.others (list_place h i) (place-other h i page other)) (omega (arith, now, never_falls))

    at : (a : Result Unit Trap) → TouchLeaves a h.memory (list_place h page) n → (a ≡ Err Paging → HasRisen (faults_of (pager_of h h.guest)) (faults_of pager)) →
        Follows (host_view h) (Touch page a) (host_view (host_with h n (slice_set h.pagers h.guest pager) h.own h.held (is_ok a || h.touched)))
    at (Ok done) (there, resident, value, used) rises =
        let below : place < length n.words = rw keeps.count (held-below h page is held) in
        let found = keeps.sound.pages place below in (
          kept true,
          refl,
          (held, refl),
          lost-discarded (word_at m place) (body_at m place) ∙ there,
          value,
          λ q. record { all = frame_bytes (body_at n place); are = resident-contents (word_at n place) (body_at n place) resident; size = found.whole.bytes (found.fits ∙ resident) },
          held-content (after true) page held ∙ resident-content (word_at n place) resident,
          λ before q i other. ap (λ (k : MemoryState). memory_value_at k (list_place h i)) (used (before-resident before))
              ∙ word-other m place (record (word_at m place) { referenced = true }) (list_place h i) (place-other h i page other),
        )
    at (Err Discarded) (gone, same) rises = (
      kept h.touched,
      refl,
      λ q i other. ap (λ (k : MemoryState). memory_value_at k (list_place h i)) same,
      ((held, refl), ap (λ (k : MemoryState). memory_value_at k place) same),
      lost-discarded (word_at m place) (body_at m place) ∙ gone,
      same-content h (after h.touched) page held held (ap (λ (k : MemoryState). (word_at k place).content) same),
    )
    at (Err Paging) (there, absent, (word, body)) rises = (
      kept h.touched,
      refl,
      ((held, refl), ap (λ (w : Fields). actual w (body_at n place)) word ∙ ap (λ (b : Body). actual (word_at m place) b) body),
      lost-discarded (word_at m place) (body_at m place) ∙ there,
      not-touched h.touched (is_resident (word_at m place).content) (is.resident page held) absent,
      rw now (rises refl),
      same-content h (after h.touched) page held held (ap (λ (w : Fields). w.content) word),
      ap (λ (c : Content). is_resident c) (held-content h page held) ∙ absent,
    )
    at (Err (NoFrame looks)) leaves rises = absurd leaves

-- where the pager failed, its faults have risen, since there was a page to take a frame from
touch-risen : (h : HostState) (page : ℕ) → IsHost h → h.held ≡ Some page → (touch_of h page).answer ≡ Err Paging → HasRisen (faults_of (pager_of h h.guest)) (faults_of (touch_of h page).pager)
unfolding touch_of
touch-risen h page is held failed =
    let m : MemoryState = h.memory in
    let place : ℕ = list_place h page in
    let pager : FailurePlan = pager_of h h.guest in
    let leaves : TouchLeaves (Err Paging) m place (touch_of h page).memory =
    subst (λ (r : Result Unit Trap). TouchLeaves r m place (touch_of h page).memory) failed (touched_page-leaves m place pager is.memory (held-below h page is held)) in
    let cost : FaultsOf (is_paged (Err Paging)) m pager (touch_of h page).pager =
    subst (λ (r : Result Unit Trap). FaultsOf (is_paged r) m pager (touch_of h page).pager) failed (touched_page-faults m place pager) in
    elim cost [
      | inl none ↦ absurd (some-to_take m is.memory (none-resident-held h page is held leaves.1) none)
      | inr risen ↦ omega (arith, risen)
    ]

touch-follows : (h : HostState) (page : ℕ) → IsHost h → h.held ≡ Some page → Follows (host_view h) (Touch page (touch_of h page).answer) (host_view (touch_after h page))
unfolding touch_of
touch-follows h page is held =
    let m : MemoryState = h.memory in
    let place : ℕ = list_place h page in
    let pager : FailurePlan = pager_of h h.guest in
    let below : place < length m.words = held-below h page is held in
    touch-by h page (touch_of h page).answer (touch_of h page).memory (touch_of h page).pager is held
    (touched_page-keeps m place pager is.memory below) (touched_page-leaves m place pager is.memory below) (touched_page-falls m place pager) (touch-risen h page is held)

either_order : (a b : Bool) → (a || b) ≡ (b || a)
either_order true true = refl
either_order true false = refl
either_order false b = grind arith

-- a touch as it is made, by its parts
pub touch-step : (h : HostState) (page place : ℕ) (r : Result Unit Trap) (n : MemoryState) (pager after : FailurePlan) (good : Bool) → place ≡ list_place h page →
    pager ≡ pager_of h h.guest → good ≡ is_ok r → r ≡ (touched_page h.memory place pager).answer → n ≡ (touched_page h.memory place pager).memory →
    after ≡ (touched_page h.memory place pager).pager →
    HostStep h (Touch page r) (host_with h n (slice_set h.pagers h.guest after) h.own h.held (h.touched || good))
unfolding touch_of
touch-step h page place r n pager after good there by is_good answer memory paged =
    let same : touched_page h.memory place pager ≡ touch_of h page = ap (λ p. touched_page h.memory p pager) there ∙ ap (touched_page h.memory (list_place h page)) by in
    let told : r ≡ (touch_of h page).answer = answer ∙ ap (λ (t : Touched). t.answer) same in
    let flag : (h.touched || good) ≡ (is_ok (touch_of h page).answer || h.touched) = either_order h.touched good ∙ ap (λ b. b || h.touched) (is_good ∙ ap is_ok told) in (
      told,
      ap (λ m. host_with h m (slice_set h.pagers h.guest after) h.own h.held (h.touched || good)) (memory ∙ ap (λ (t : Touched). t.memory) same)
          ∙ ap (λ p. host_with h (touch_of h page).memory (slice_set h.pagers h.guest p) h.own h.held (h.touched || good)) (paged ∙ ap (λ (t : Touched). t.pager) same)
          ∙ ap (λ b. host_with h (touch_of h page).memory (slice_set h.pagers h.guest (touch_of h page).pager) h.own h.held b) flag,
    )

-- a call of the host is one of its guest's storage
pub host_follows : (h : HostState) (call : StorageCall) (k : HostState) → IsHost h → CanCall h call → HostStep h call k → Follows (host_view h) call (host_view k)
host_follows h (Take page r) k is (inside, none) (answer, after) =
    rw (answer, after) (take-follows h page is inside)
host_follows h (Touch page r) k is held (answer, after) = rw (answer, after) (touch-follows h page is held)
host_follows h (Give page code old) k is held (answer, after) = rw (answer, after) (give-follows h page code is held)
host_follows h (TakeChange page changed) k is held (answer, after) = rw (answer, after) (take_change-follows h page is held)
host_follows h (Fetch page off bytes) k is (held, touched) (answer, after) = rw after (fetch-follows h page off bytes is held touched answer)
host_follows h (Store page off bytes) k is (held, touched, within) after = rw after (store-follows h page off bytes is held touched)
host_follows h (Put page) k is held after = rw after (put-follows h page is held)

-- and leaves it sound
pub host_stays : (h : HostState) (call : StorageCall) (k : HostState) → IsHost h → CanCall h call → HostStep h call k → IsHost k
host_stays h (Take page r) k is (inside, none) (answer, after) = rw after (taken-host h page is inside none)
host_stays h (Touch page r) k is held (answer, after) = rw after (touched-host h page is held)
host_stays h (Give page code old) k is held (answer, after) = rw after (ordered-host h page code is held)
host_stays h (TakeChange page changed) k is held (answer, after) = rw after (unchanged-host h page is held)
host_stays h (Fetch page off bytes) k is (held, touched) (answer, after) = rw after is
host_stays h (Store page off bytes) k is (held, touched, within) after = rw after (stored-host h page off bytes is held touched within)
host_stays h (Put page) k is held after = rw after (given_back-host h page is held)
