-- What the host's own moves tell of the pages, by their answers.
use Rattle.std.specs.Prelude.{◌≡◌, refl, ℕ, ◌+◌, ◌<◌, ◌≤◌, length, Bool, true, false, not, None, Result, Ok, Err, is_ok, if◌then◌else◌}
use Rattle.std.specs.List.{list_any}
use Rattle.std.proofs.Common.{arith, ap, sym, subst, inl, inr, ◌∙◌, get_or-set_same}
use Rattle.std.proofs.lemmas.Bool.{cases_lt}
use Rattle.cmm_types.specs.declared.page.Move.{Move}
use Rattle.cmm_types.specs.declared.page.Move.TheVariants.{Discard, Preserve, Bring, Age}
use Rattle.cmm_types.specs.declared.page.Refused.{Refused as Reason}
use Rattle.cmm_io.specs.Faults.{HasRisen}
use Rattle.cmm_io.specs.FailurePlan.{FailurePlan, fails_next}
use Rattle.essa_state.specs.declared.fields.Fields.{Fields}
use Rattle.essa_state.specs.StateWord.{is_resident, opening_word}
use Rattle.essa_state.specs.Moves.{move_answer, discarded, preserved, brought, aged}
use Rattle.host_clock.specs.Victim.{is_candidate}
use Rattle.host_plain.specs.declared.moves.ApplyError.{ApplyError}
use Rattle.host_plain.specs.declared.moves.ApplyError.TheVariants.{Refused, Paging}
use Rattle.host_plain.specs.MemoryState.{MemoryState, IsMemory, word_at, resident_of}
use Rattle.host_plain.specs.Eviction.{Paged, moved_page, preserved_at, brought_at, frame_freed}
use Rattle.host_plain.specs.HostMoves.{Applied, allowed_move, applied_as, applied}
use Rattle.host_plain.specs.Keeping.{SamePage, FaultsOf, is_made, faults_of}
use Rattle.host_plain.specs.HostState.{HostState, IsHost, first_place, pages_of, move_of, after_move, reclaim_of, ApplyTells}
use Rattle.host_plain.proofs.Keeping.{freed-absent, freed-keeps}
use Rattle.host_plain.proofs.Calling.{applied-faults, reclaimed-tells, some-to_take, resident-candidate}
use Rattle.host_plain.proofs.Places.{place-below}
use Rattle.host_plain.proofs.Sound.{none-busy, reclaimed-keeps_host}

-- what a step that makes a move leaves of its page: the word by the table, or all as it was
abbrev MoveLeaves : Bool → MemoryState → ℕ → Move → MemoryState → Type 0
MoveLeaves true m place action k = move_answer (word_at m place) action ≡ Ok (word_at k place)
MoveLeaves false m place action k = SamePage m place k

discard-word : (w : Fields) → is_ok (move_answer w Discard) ≡ true → move_answer w Discard ≡ Ok (discarded w)
discard-word w allowed = grind arith

preserve-word : (w : Fields) → is_ok (move_answer w Preserve) ≡ true → move_answer w Preserve ≡ Ok (preserved w)
preserve-word w allowed = grind arith

bring-word : (w : Fields) → is_ok (move_answer w Bring) ≡ true → move_answer w Bring ≡ Ok (brought w)
bring-word w allowed = grind arith

bring-absent : (w : Fields) → is_ok (move_answer w Bring) ≡ true → is_resident w.content ≡ false
bring-absent w allowed = grind arith

age-word : (w : Fields) → is_ok (move_answer w Age) ≡ true → move_answer w Age ≡ Ok (aged w)
age-word w allowed = grind arith

paged-leaves : (fails : Bool) (m k after : MemoryState) (place : ℕ) (action : Move) → SamePage m place k → move_answer (word_at m place) action ≡ Ok (word_at after place) →
    MoveLeaves (not fails) m place action (if fails then k else after)
paged-leaves true m k after place action same made = same
paged-leaves false m k after place action same made = made

allowed-leaves : (action : Move) (m : MemoryState) (place : ℕ) (pager : FailurePlan) → IsMemory m → place < length m.words → is_ok (move_answer (word_at m place) action) ≡ true →
    MoveLeaves (allowed_move action m place pager).done m place action (allowed_move action m place pager).memory
allowed-leaves Discard m place pager sound below allowed =
    discard-word (word_at m place) allowed ∙ ap (λ (w : Fields). let r : Result Fields Reason = Ok w in r) (sym (get_or-set_same m.words place (discarded (word_at m place)) opening_word below))
allowed-leaves Preserve m place pager sound below allowed =
    paged-leaves (fails_next pager) m m (preserved_at m place) place Preserve (refl, refl)
    (preserve-word (word_at m place) allowed ∙ ap (λ (w : Fields). let r : Result Fields Reason = Ok w in r) (sym (get_or-set_same m.words place (preserved (word_at m place)) opening_word below)))
allowed-leaves Bring m place pager sound below allowed = at (frame_freed m pager).done refl
  where
    still : SamePage m place (frame_freed m pager).memory
    still = freed-absent m pager place sound (bring-absent (word_at m place) allowed)

    count : place < length (frame_freed m pager).memory.words
    count = rw (freed-keeps m pager sound).count below

    word : move_answer (word_at m place) Bring ≡ Ok (word_at (brought_at (frame_freed m pager).memory place) place)
    word =
        bring-word (word_at m place) allowed
        ∙ ap (λ (w : Fields). let r : Result Fields Reason = Ok (brought w) in r) (sym still.0)
        ∙ ap (λ (w : Fields). let r : Result Fields Reason = Ok w in r)
        (sym (get_or-set_same (frame_freed m pager).memory.words place (brought (word_at (frame_freed m pager).memory place)) opening_word count))

    at : (b : Bool) → (frame_freed m pager).done ≡ b →
        MoveLeaves (if b then moved_page Bring (frame_freed m pager).memory place (frame_freed m pager).pager else frame_freed m pager).done m place Bring
        (if b then moved_page Bring (frame_freed m pager).memory place (frame_freed m pager).pager else frame_freed m pager).memory
    at true done = paged-leaves (fails_next (frame_freed m pager).pager) m (frame_freed m pager).memory (brought_at (frame_freed m pager).memory place) place Bring still word
    at false failed = subst (λ (b : Bool). MoveLeaves b m place Bring (frame_freed m pager).memory) (sym failed) still
allowed-leaves Age m place pager sound below allowed =
    age-word (word_at m place) allowed ∙ ap (λ (w : Fields). let r : Result Fields Reason = Ok w in r) (sym (get_or-set_same m.words place (aged (word_at m place)) opening_word below))

-- what an answer tells of the page
abbrev MoveTells : Result Unit ApplyError → MemoryState → ℕ → Move → MemoryState → Type 0
MoveTells (Ok done) m place action k = move_answer (word_at m place) action ≡ Ok (word_at k place)
MoveTells (Err (Refused why)) m place action k = (move_answer (word_at m place) action ≡ Err why) × (k ≡ m)
MoveTells (Err Paging) m place action k = (is_ok (move_answer (word_at m place) action) ≡ true) × SamePage m place k

applied-tells : (m : MemoryState) (place : ℕ) (action : Move) (pager : FailurePlan) → IsMemory m → place < length m.words →
    MoveTells (applied m place action pager).answer m place action (applied m place action pager).memory
unfolding applied
applied-tells m place action pager sound below = at (move_answer (word_at m place) action) refl
  where
    step : Paged
    step = allowed_move action m place pager

    told : (b : Bool) → is_ok (move_answer (word_at m place) action) ≡ true → MoveLeaves b m place action step.memory →
        let r : Applied = if b then record { answer = Ok tt; memory = step.memory; pager = step.pager } else record { answer = Err Paging; memory = step.memory; pager = step.pager } in
        MoveTells r.answer m place action r.memory
    told true allowed leaves = leaves
    told false allowed leaves = (allowed, leaves)

    at : (r : Result Fields Reason) → move_answer (word_at m place) action ≡ r → MoveTells (applied_as r action m place pager).answer m place action (applied_as r action m place pager).memory
    at (Ok word) answer = told step.done (ap is_ok answer) (allowed-leaves action m place pager sound below (ap is_ok answer))
    at (Err why) answer = (answer, refl)

no-busy : (h : HostState) → IsHost h → h.held ≡ None → (k : ℕ) → is_resident (word_at h.memory k).content ≡ true → (word_at h.memory k).busy ≡ false
no-busy h is none k resident = at (word_at h.memory k).busy refl
  where
    at : (b : Bool) → (word_at h.memory k).busy ≡ b → b ≡ false
    at true busy = absurd (none-busy h k is none busy)
    at false idle = refl

refused-same : (r : Result Fields Reason) (action : Move) (m : MemoryState) (place : ℕ) (pager : FailurePlan) (why : Reason) → (applied_as r action m place pager).answer ≡ Err (Refused why) →
    (applied_as r action m place pager).pager ≡ pager
refused-same (Ok word) action m place pager why e = not-refused (allowed_move action m place pager).done e
  where
    step : Paged
    step = allowed_move action m place pager

    not-refused : (b : Bool) →
        (let r : Applied = if b then record { answer = Ok tt; memory = step.memory; pager = step.pager } else record { answer = Err Paging; memory = step.memory; pager = step.pager } in r).answer
        ≡ Err (Refused why) →
        (let r : Applied = if b then record { answer = Ok tt; memory = step.memory; pager = step.pager } else record { answer = Err Paging; memory = step.memory; pager = step.pager } in r).pager
        ≡ pager
    not-refused true e = absurd (cc)
    not-refused false e = absurd (cc)
refused-same (Err reason) action m place pager why e = refl

-- a move of the host's tells of its page and its pager
pub moved-tells : (h : HostState) (guest page : ℕ) (action : Move) → IsHost h → guest < length h.pagers → page < pages_of h guest → h.held ≡ None →
    ApplyTells (move_of h guest page action).answer h guest page action (after_move h guest page action)
unfolding applied
moved-tells h guest page action is below inside none =
    let place : ℕ = first_place h guest + page in
    at (move_of h guest page action).answer refl (applied-tells h.memory place action h.own is.memory (place-below h guest page is below inside)) (applied-faults h.memory place action h.own)
  where
    at : (r : Result Unit ApplyError) → (move_of h guest page action).answer ≡ r → MoveTells r h.memory (first_place h guest + page) action (move_of h guest page action).memory →
        FaultsOf (is_made r) h.memory h.own (move_of h guest page action).pager → ApplyTells r h guest page action (after_move h guest page action)
    at (Ok done) e tells cost = tells
    at (Err (Refused why)) e tells cost = (
      tells.0,
      ap (λ (m : MemoryState). let k : HostState = record h { memory = m; own = (move_of h guest page action).pager } in k) tells.1
          ∙ ap (λ (p : FailurePlan). let k : HostState = record h { own = p } in k)
          (refused-same (move_answer (word_at h.memory (first_place h guest + page)) action) action h.memory (first_place h guest + page) h.own why e),
    )
    at (Err Paging) e tells cost = (
      tells.0,
      tells.1,
      elim cost [
        | inl nothing ↦ absurd (some-to_take h.memory is.memory (no-busy h is none) nothing)
        | inr risen ↦ omega (arith, risen)
      ],
    )

-- reclaiming tells why it moved fewer
pub reclaimed-risen : (h : HostState) (count : ℕ) → (reclaim_of h count).paging ≡ true → HasRisen (faults_of h.own) (faults_of (reclaim_of h count).pager)
reclaimed-risen h count paging =
    let risen = (reclaimed-tells h.memory h.own count).risen paging in
    omega (arith, risen)

pub reclaimed-most : (h : HostState) (count : ℕ) → (reclaim_of h count).count ≤ count
reclaimed-most h count = (reclaimed-tells h.memory h.own count).most

pub reclaimed-short : (h : HostState) (count : ℕ) → IsHost h → h.held ≡ None → (reclaim_of h count).count < count → (reclaim_of h count).paging ≡ false →
    resident_of (reclaim_of h count).memory.words ≡ 0
reclaimed-short h count is none short good =
    let nothing = (reclaimed-tells h.memory h.own count).short short good in
    let n : MemoryState = (reclaim_of h count).memory in
    let keeps = reclaimed-keeps_host h count is in
    elim (cases_lt 0 (resident_of n.words)) [
      | inl some ↦
          let there : list_any is_candidate n.words ≡ true = resident-candidate n.words some (λ k resident. keeps.busy k ∙ idle (word_at h.memory k).busy k refl) in
          absurd (cc (sym there ∙ nothing))
      | inr zero ↦ omega (arith, zero)
    ]
  where
    idle : (b : Bool) (k : ℕ) → (word_at h.memory k).busy ≡ b → b ≡ false
    idle true k busy = absurd (none-busy h k is none busy)
    idle false k free = refl
