-- A host stays sound over its calls.
use Rattle.std.specs.Prelude.{◌≡◌, refl, ℕ, ◌+◌, ◌<◌, ◌≤◌, List, length, Bool, true, false, ◌||◌, Option, Some, None, Result, Ok, Err, is_ok, slice_set}
use Rattle.std.proofs.Common.{arith, ap, sym, subst, inl, inr, ◌∙◌, get_or-set_other, get_or-set_same}
use Rattle.std.proofs.Math.ListN.{length-set}
use Rattle.std.proofs.lemmas.Bool.{cases_eq}
use Rattle.std.proofs.lemmas.Option.{same_Some}
use Rattle.cmm_types.specs.declared.page.TheConstants.{PAGE}
use Rattle.cmm_types.specs.declared.page.Move.{Move}
use Rattle.cmm_io.specs.FailurePlan.{FailurePlan}
use Rattle.essa_state.specs.declared.fields.Fields.{Fields}
use Rattle.essa_state.specs.declared.orders.Order.{Order}
use Rattle.essa_state.specs.declared.orders.Order.TheVariants.{Get}
use Rattle.essa_state.specs.StateWord.{is_resident, is_permitted, opening_word}
use Rattle.essa_state.specs.Orders.{after_order}
use Rattle.essa_state.specs.Laws.WordLaws.{ordered-permitted}
use Rattle.cmm_storage.specs.declared.storage.Trap.{Trap}
use Rattle.cmm_storage.specs.declared.storage.Trap.TheVariants.{Discarded, Paging, NoFrame}
use Rattle.host_plain.specs.MemoryState.{MemoryState, IsMemory, word_at, with_word, stored_at}
use Rattle.host_plain.specs.HostMoves.{applied}
use Rattle.host_plain.specs.HostState.{HostState, IsHost, host_word, list_place, pages_of, pager_of, held_word, touch_of, touch_after, move_of}
use Rattle.host_plain.specs.HostState.{after_move, reclaim_of, after_reclaim, HostMayMake, first_place, with_host_word, page_stored, taken, given_back, held_place}
use Rattle.host_plain.proofs.Kept.{word_kept, store_kept, order-resident}
use Rattle.host_plain.specs.Keeping.{HostKeeps, TouchLeaves}
use Rattle.host_plain.proofs.Keeping.{busy_set, applied-keeps, reclaimed-keeps}
use Rattle.host_plain.proofs.Touching.{touched_page-keeps, touched_page-leaves}
use Rattle.host_plain.proofs.Places.{place-below}

-- the host with another memory, other pagers, and another page held
abbrev pub host_with : HostState → MemoryState → List FailurePlan → FailurePlan → Option ℕ → Bool → HostState
host_with h n pagers own held touched = record { memory = n; starts = h.starts; pagers = pagers; own = own; guest = h.guest; held = held; touched = touched }

pub same_page : (h : HostState) (a b : ℕ) → h.held ≡ Some a → h.held ≡ Some b → a ≡ b
same_page h a b first second = cc

pub held-below : (h : HostState) (page : ℕ) → IsHost h → h.held ≡ Some page → list_place h page < length h.memory.words
held-below h page is held = place-below h h.guest page is is.guest (is.below page held)

pub host_kept : (h : HostState) (n : MemoryState) (pagers : List FailurePlan) (own : FailurePlan) (touched : Bool) → IsHost h → IsMemory n →
    length n.words ≡ length h.memory.words → length pagers ≡ length h.pagers → ((k : ℕ) → (word_at n k).busy ≡ (word_at h.memory k).busy) →
    ((page : ℕ) → h.held ≡ Some page → touched ≡ true → is_resident (word_at n (list_place h page)).content ≡ true) →
    IsHost (host_with h n pagers own h.held touched)
host_kept h n pagers own touched is sound count guests busy resident = record {
  memory = sound;
  starts = rw (count, guests) is.starts;
  guest = rw guests is.guest;
  below = is.below;
  busy = λ page e. busy (list_place h page) ∙ is.busy page e;
  others = λ place e. is.others place (sym (busy place) ∙ e);
  resident = resident;
}

-- another word of the held page, as busy and as resident as it was
pub word-host : (h : HostState) (page : ℕ) (word : Fields) → IsHost h → h.held ≡ Some page → is_permitted word ≡ true →
    is_resident word.content ≡ is_resident (host_word h page).content → word.busy ≡ (host_word h page).busy → IsHost (with_host_word h page word)
word-host h page word is held permitted same busy =
    let m : MemoryState = h.memory in
    let place : ℕ = list_place h page in
    let below : place < length m.words = held-below h page is held in
    host_kept h (with_word m place word) h.pagers h.own h.touched is
    (word_kept m place word is.memory below permitted same)
    (length-set m.words place word) refl (busy_set m place word below busy)
    (λ other there touched. subst (λ p. is_resident (word_at (with_word m place word) (list_place h p)).content ≡ true) (same_page h page other held there)
    (rw (get_or-set_same m.words place word opening_word below) (same ∙ is.resident page held touched)))

order-busy : (w : Fields) (code : Order) → (after_order w code).busy ≡ w.busy
order-busy w Get = grind arith
order-busy w code = grind arith

pub ordered-host : (h : HostState) (page : ℕ) (code : Order) → IsHost h → h.held ≡ Some page → IsHost (with_host_word h page (after_order (host_word h page) code))
ordered-host h page code is held =
    let permitted : is_permitted (host_word h page) ≡ true = (is.memory.pages (list_place h page) (held-below h page is held)).permitted in
    word-host h page (after_order (host_word h page) code) is held (ordered-permitted (host_word h page) code permitted) (order-resident (host_word h page) code) (order-busy (host_word h page) code)

unchanged-permitted : (w : Fields) → is_permitted w ≡ true → is_permitted (record w { changed = false }) ≡ true
unchanged-permitted w permitted = grind arith

pub unchanged-host : (h : HostState) (page : ℕ) → IsHost h → h.held ≡ Some page → IsHost (with_host_word h page (record (host_word h page) { changed = false }))
unchanged-host h page is held =
    let permitted : is_permitted (host_word h page) ≡ true = (is.memory.pages (list_place h page) (held-below h page is held)).permitted in
    word-host h page (record (host_word h page) { changed = false }) is held (unchanged-permitted (host_word h page) permitted) refl refl

pub stored-host : (h : HostState) (page off : ℕ) (bytes : List ℕ) → IsHost h → h.held ≡ Some page → h.touched ≡ true → off + length bytes ≤ PAGE → IsHost (page_stored h page off bytes)
stored-host h page off bytes is held touched within =
    let m : MemoryState = h.memory in
    let place : ℕ = list_place h page in
    let below : place < length m.words = held-below h page is held in
    let resident : is_resident (word_at m place).content ≡ true = is.resident page held touched in
    let word : Fields = record (word_at m place) { changed = true } in
    host_kept h (stored_at m place off bytes) h.pagers h.own h.touched is (store_kept m place off bytes is.memory below resident within)
    (length-set m.words place word) refl (busy_set m place word below refl)
    (λ other there t. subst (λ p. is_resident (word_at (stored_at m place off bytes) (list_place h p)).content ≡ true) (same_page h page other held there)
    (rw (get_or-set_same m.words place word opening_word below) resident))

busy-word : (m : MemoryState) (place : ℕ) (b : Bool) → IsMemory m → place < length m.words → IsMemory (with_word m place (held_word (word_at m place) b))
busy-word m place b sound below =
    word_kept m place (held_word (word_at m place) b) sound below (sound.pages place below).permitted refl

pub taken-host : (h : HostState) (page : ℕ) → IsHost h → page < pages_of h h.guest → h.held ≡ None → IsHost (taken h page)
taken-host h page is inside none =
    let m : MemoryState = h.memory in
    let place : ℕ = list_place h page in
    let word : Fields = held_word (word_at m place) true in
    let below : place < length m.words = place-below h h.guest page is is.guest inside in
    record {
      memory = busy-word m place true is.memory below;
      starts = rw (length-set m.words place word) is.starts;
      guest = is.guest;
      below = λ other there. subst (λ p. p < pages_of h h.guest) (same_Some page other there) inside;
      busy = λ other there. subst (λ p. (word_at (with_word m place word) (list_place h p)).busy ≡ true) (same_Some page other there) (rw (get_or-set_same m.words place word opening_word below) refl);
      others = λ k busy. elim (cases_eq k place) [
        | inl e ↦ ap Some (sym e)
        | inr n ↦ absurd (none-held k (subst (λ held. held_place h held ≡ Some k) none (is.others k (sym (ap (λ (w : Fields). w.busy) (get_or-set_other m.words place k word opening_word n)) ∙ busy))))
      ];
      resident = λ other there touched. absurd (cc);
    }
  where
    none-held : (k : ℕ) → None ≡ Some k → ⊥
    none-held k e = cc

pub given_back-host : (h : HostState) (page : ℕ) → IsHost h → h.held ≡ Some page → IsHost (given_back h page)
given_back-host h page is held =
    let m : MemoryState = h.memory in
    let place : ℕ = list_place h page in
    let word : Fields = held_word (word_at m place) false in
    let below : place < length m.words = held-below h page is held in
    record {
      memory = busy-word m place false is.memory below;
      starts = rw (length-set m.words place word) is.starts;
      guest = is.guest;
      below = λ other there. absurd (cc);
      busy = λ other there. absurd (cc);
      others = λ k busy. elim (cases_eq k place) [
        | inl e ↦ absurd (idle (sym (ap (λ (w : Fields). w.busy) (get_or-set_same m.words place word opening_word below)) ∙ subst (λ q. (word_at (with_word m place word) q).busy ≡ true) e busy))
        | inr n ↦ absurd (n (place-held k (subst (λ held. held_place h held ≡ Some k) held
            (is.others k (sym (ap (λ (w : Fields). w.busy) (get_or-set_other m.words place k word opening_word n)) ∙ busy)))))
      ];
      resident = λ other there touched. absurd (cc);
    }
  where
    idle : false ≡ true → ⊥
    idle e = cc

    place-held : (k : ℕ) → Some (list_place h page) ≡ Some k → k ≡ list_place h page
    place-held k e = cc

touch-resident : (r : Result Unit Trap) (m n : MemoryState) (place : ℕ) (touched : Bool) → TouchLeaves r m place n →
    (touched ≡ true → is_resident (word_at m place).content ≡ true) → (is_ok r || touched) ≡ true → is_resident (word_at n place).content ≡ true
touch-resident (Ok done) m n place touched leaves before now = leaves.1
touch-resident (Err Discarded) m n place touched leaves before now = rw leaves.1 (before now)
touch-resident (Err Paging) m n place touched leaves before now = absurd (cc (sym (before now) ∙ leaves.1))
touch-resident (Err (NoFrame looks)) m n place touched leaves before now = absurd leaves

-- while the held page isn't resident, no resident page is held
pub none-resident-held : (h : HostState) (page : ℕ) → IsHost h → h.held ≡ Some page → is_resident (host_word h page).content ≡ false →
    (k : ℕ) → is_resident (word_at h.memory k).content ≡ true → (word_at h.memory k).busy ≡ false
none-resident-held h page is held absent k resident = at (word_at h.memory k).busy refl
  where
    same : (word_at h.memory k).busy ≡ true → list_place h page ≡ k
    same busy = let there : Some (list_place h page) ≡ Some k = subst (λ q. held_place h q ≡ Some k) held (is.others k busy) in cc

    at : (b : Bool) → (word_at h.memory k).busy ≡ b → b ≡ false
    at true busy = sym resident ∙ subst (λ q. is_resident (word_at h.memory q).content ≡ false) (same busy) absent
    at false idle = refl

pub touched-host : (h : HostState) (page : ℕ) → IsHost h → h.held ≡ Some page → IsHost (touch_after h page)
unfolding touch_of
touched-host h page is held =
    let m : MemoryState = h.memory in
    let place : ℕ = list_place h page in
    let pager : FailurePlan = pager_of h h.guest in
    let below : place < length m.words = held-below h page is held in
    let keeps = touched_page-keeps m place pager is.memory below in
    let leaves = touched_page-leaves m place pager is.memory below in
    host_kept h (touch_of h page).memory (slice_set h.pagers h.guest (touch_of h page).pager) h.own (is_ok (touch_of h page).answer || h.touched) is
    keeps.sound keeps.count (length-set h.pagers h.guest (touch_of h page).pager) keeps.busy
    (λ other there touched. subst (λ p. is_resident (word_at (touch_of h page).memory (list_place h p)).content ≡ true) (same_page h page other held there)
    (touch-resident (touch_of h page).answer m (touch_of h page).memory place h.touched leaves (is.resident page held) touched))

none-held : (h : HostState) (page : ℕ) → h.held ≡ None → h.held ≡ Some page → ⊥
none-held h page none some = cc

-- while no page is held none is busy
pub none-busy : (h : HostState) (k : ℕ) → IsHost h → h.held ≡ None → (word_at h.memory k).busy ≡ true → ⊥
none-busy h k is none busy = nothing (subst (λ q. held_place h q ≡ Some k) none (is.others k busy))
  where
    nothing : None ≡ Some k → ⊥
    nothing e = cc

own-host : (h : HostState) (n : MemoryState) (own : FailurePlan) → IsHost h → h.held ≡ None → HostKeeps h.memory n → IsHost (record h { memory = n; own = own })
own-host h n own is none keeps = host_kept h n h.pagers own h.touched is keeps.sound keeps.count refl keeps.busy (λ page held touched. absurd (none-held h page none held))

pub moved-keeps : (h : HostState) (guest page : ℕ) (action : Move) → IsHost h → guest < length h.pagers → page < pages_of h guest → HostKeeps h.memory (move_of h guest page action).memory
moved-keeps h guest page action is below inside = applied-keeps h.memory (first_place h guest + page) action h.own is.memory (place-below h guest page is below inside)

pub moved-host : (h : HostState) (guest page : ℕ) (action : Move) → IsHost h → guest < length h.pagers → page < pages_of h guest → h.held ≡ None → IsHost (after_move h guest page action)
moved-host h guest page action is below inside none =
    own-host h (move_of h guest page action).memory (move_of h guest page action).pager is none (moved-keeps h guest page action is below inside)

pub moved-pages : (h : HostState) (guest page : ℕ) (action : Move) → IsHost h → guest < length h.pagers → page < pages_of h guest → HostMayMake h (after_move h guest page action)
moved-pages h guest page action is below inside = λ other k. (moved-keeps h guest page action is below inside).values (first_place h other + k)

-- a move as it is made, by its parts
pub move-step : (h : HostState) (guest page : ℕ) (action : Move) (place : ℕ) (n : MemoryState) (own : FailurePlan) → place ≡ first_place h guest + page →
    n ≡ (applied h.memory place action h.own).memory → own ≡ (applied h.memory place action h.own).pager → record h { memory = n; own = own } ≡ after_move h guest page action
move-step h guest page action place n own there memory pager =
    ap (λ (m : MemoryState). let k : HostState = record h { memory = m; own = own } in k) (memory ∙ ap (λ p. (applied h.memory p action h.own).memory) there)
    ∙ ap (λ (o : FailurePlan). let k : HostState = record h { memory = (move_of h guest page action).memory; own = o } in k) (pager ∙ ap (λ p. (applied h.memory p action h.own).pager) there)

pub reclaimed-keeps_host : (h : HostState) (count : ℕ) → IsHost h → HostKeeps h.memory (reclaim_of h count).memory
reclaimed-keeps_host h count is = reclaimed-keeps h.memory h.own count is.memory

pub reclaimed-host : (h : HostState) (count : ℕ) → IsHost h → h.held ≡ None → IsHost (after_reclaim h count)
reclaimed-host h count is none = own-host h (reclaim_of h count).memory (reclaim_of h count).pager is none (reclaimed-keeps h.memory h.own count is.memory)

pub reclaimed-pages : (h : HostState) (count : ℕ) → IsHost h → HostMayMake h (after_reclaim h count)
reclaimed-pages h count is = λ other k. (reclaimed-keeps h.memory h.own count is.memory).values (first_place h other + k)
