-- When a step of the host failed: a call of its pager did, or there was no page to take a frame from.
use Rattle.std.specs.Prelude.{◌≡◌, refl, ℕ, ◌+◌, ◌-◌, ◌<◌, ◌≤◌, List, [], ◌∷◌, zero, suc, length, Bool, true, false, not}
use Rattle.std.specs.Prelude.{◌||◌, is_ok, is_some, Option, Some, None, Result, Ok, Err, position, nat_lt, if◌then◌else◌}
use Rattle.std.specs.Option.{option_or}
use Rattle.std.specs.List.{list_any}
use Rattle.std.proofs.Common.{arith, ap, sym, subst, inl, inr, ◌∙◌}
use Rattle.cmm_types.specs.declared.page.Move.{Move}
use Rattle.cmm_types.specs.declared.page.Move.TheVariants.{Discard, Preserve, Bring, Age}
use Rattle.cmm_types.specs.declared.page.Refused.{Refused as Reason}
use Rattle.cmm_io.specs.FailurePlan.{FailurePlan, fails_next, after_next, after_call}
use Rattle.cmm_io.specs.Faults.{raised, HasRisen}
use Rattle.essa_state.specs.declared.fields.Fields.{Fields}
use Rattle.essa_state.specs.StateWord.{is_resident, is_preserved, is_discarded}
use Rattle.essa_state.specs.Moves.{move_answer, discard_answer}
use Rattle.cmm_storage.specs.declared.storage.Trap.TheVariants.{Discarded, Paging as NoPage}
use Rattle.host_clock.specs.Victim.{is_candidate, is_takeable, from_hand, victim_after, victim_of}
use Rattle.host_clock.proofs.Cycle.{victim_found}
use Rattle.host_plain.specs.declared.moves.ApplyError.TheVariants.{Paging}
use Rattle.host_plain.specs.MemoryState.{MemoryState, IsMemory, word_at, with_use, frames_of, resident_of}
use Rattle.host_plain.specs.Eviction.{Paged, moved_page, reclaimed_page, evicted_at, evicted, frame_freed, passed_by, word_in}
use Rattle.host_plain.specs.Touches.{Touched, used_after, zeroed_at, frame_filled, filled_after, touched_page}
use Rattle.host_plain.specs.HostMoves.{Applied, Reclaimed, move_answered, allowed_move, applied_as, applied, reclaim_counted, more_at, one_more, reclaimed}
use Rattle.host_plain.specs.Keeping.{ReclaimTells, NoneToTake, FaultsOf, NeverFalls, is_paged, is_made}

candidate-first : (w : Fields) (rest : Bool) → is_resident w.content ≡ true → w.busy ≡ false → (is_candidate w || rest) ≡ true
candidate-first w rest resident idle = rw (resident, idle) refl

candidate-behind : (w : Fields) (rest : Bool) → rest ≡ true → (is_candidate w || rest) ≡ true
candidate-behind w rest there = grind (arith, there)

-- where a resident page that nobody holds stands, one may be taken
pub resident-candidate : (words : List Fields) → 0 < resident_of words → ((p : ℕ) → is_resident (word_in words p).content ≡ true → (word_in words p).busy ≡ false) →
    list_any is_candidate words ≡ true
resident-candidate [] some none_busy = absurd (omega (arith, some))
resident-candidate (word ∷ words) some none_busy =
    at (is_resident word.content) refl (λ more. resident-candidate words more (λ p resident. none_busy (suc p) resident))
  where
    at : (b : Bool) → is_resident word.content ≡ b → (0 < resident_of words → list_any is_candidate words ≡ true) → list_any is_candidate (word ∷ words) ≡ true
    at true resident behind = candidate-first word (list_any is_candidate words) resident (none_busy 0 resident)
    at false absent behind =
        let none : frames_of word ≡ 0 = ap (λ b. if b then 1 else 0) absent in
        candidate-behind word (list_any is_candidate words) (behind (omega (arith, some, none)))

-- while no resident page is held, there is a frame to take
pub some-to_take : (m : MemoryState) → IsMemory m → ((p : ℕ) → is_resident (word_at m p).content ≡ true → (word_at m p).busy ≡ false) → NoneToTake m → ⊥
some-to_take m sound none_busy (none_free, none) =
    let some : 0 < resident_of m.words = omega (arith, sound.balance, sound.some, none_free) in
    let found : list_any is_candidate m.words ≡ true = resident-candidate m.words some none_busy in
    grind (arith, found, none)

-- after a call of the pager
abbrev Calls : (done : Bool) → FailurePlan → FailurePlan → Type 0
Calls true pager after = after.faults ≡ pager.faults
Calls false pager after = HasRisen pager.faults after.faults

same-count : (n : ℕ) → n ≤ n
same-count n = omega arith

calls_next : (pager : FailurePlan) → Calls (not (fails_next pager)) pager (after_next pager)
calls_next pager = at (fails_next pager)
  where
    at : (b : Bool) → Calls (not b) pager (after_call pager b)
    at true = same-count (raised pager.faults)
    at false = refl

-- a call, where none failed before
faults_from : (b : Bool) (m : MemoryState) (p q r : FailurePlan) → q.faults ≡ p.faults → Calls b q r → FaultsOf b m p r
faults_from true m p q r same now = now ∙ same
faults_from false m p q r same now = inr (subst (λ n. raised n ≤ r.faults) same now)

reclaimed_page-calls : (m : MemoryState) (place : ℕ) (pager : FailurePlan) → Calls (reclaimed_page m place pager).done pager (reclaimed_page m place pager).pager
unfolding reclaimed_page
reclaimed_page-calls m place pager = chosen (is_ok (discard_answer (word_at m place)))
  where
    chosen : (b : Bool) → Calls (moved_page (if b then Discard else Preserve) m place pager).done pager (moved_page (if b then Discard else Preserve) m place pager).pager
    chosen true = refl
    chosen false = calls_next pager

after-some : (count hand : ℕ) (steps : Option ℕ) → is_some (victim_after count hand steps) ≡ is_some steps
after-some count hand None = refl
after-some count hand (Some steps) = refl

-- a victim is found exactly where there is a candidate
pub victim-found : (words : List Fields) (hand : ℕ) → is_some (victim_of words hand) ≡ list_any is_candidate words
victim-found words hand = after-some (length words) hand (option_or (position (is_takeable false) (from_hand words hand)) (position (is_takeable true) (from_hand words hand)))
    ∙ victim_found words hand

evicted-faults : (m : MemoryState) (pager : FailurePlan) → m.free ≡ 0 → FaultsOf (evicted m pager).done m pager (evicted m pager).pager
unfolding evicted
evicted-faults m pager none_free = at (victim_of m.words m.hand) refl
  where
    at : (v : Option (ℕ × ℕ)) → victim_of m.words m.hand ≡ v → FaultsOf (evicted_at m v pager).done m pager (evicted_at m v pager).pager
    at None none = inl (none_free, sym (victim-found m.words m.hand) ∙ ap is_some none)
    at (Some victim) found = faults_from _ m pager pager _ refl (reclaimed_page-calls (passed_by m victim) victim.0 pager)

none-free : (free : ℕ) → nat_lt 0 free ≡ false → free ≡ 0
none-free free h = grind (arith, h)

pub freed-faults : (m : MemoryState) (pager : FailurePlan) → FaultsOf (frame_freed m pager).done m pager (frame_freed m pager).pager
unfolding frame_freed
freed-faults m pager = at (nat_lt 0 m.free) refl
  where
    at : (b : Bool) → nat_lt 0 m.free ≡ b →
        FaultsOf (if b then record { done = true; memory = m; pager = pager } else evicted m pager).done m pager
        (if b then record { done = true; memory = m; pager = pager } else evicted m pager).pager
    at true some = refl
    at false none = evicted-faults m pager (none-free m.free none)

filled-calls : (m : MemoryState) (page : ℕ) (pager : FailurePlan) → Calls (frame_filled m page pager).done pager (frame_filled m page pager).pager
filled-calls m page pager = at (is_preserved (word_at m page).content)
  where
    at : (b : Bool) → Calls (if b then moved_page Bring m page pager else record { done = true; memory = zeroed_at m page; pager = pager }).done pager
        (if b then moved_page Bring m page pager else record { done = true; memory = zeroed_at m page; pager = pager }).pager
    at true = calls_next pager
    at false = refl

-- one step after another, which is made where the first was done
then-faults : (m : MemoryState) (pager : FailurePlan) (first second : Paged) → FaultsOf first.done m pager first.pager → Calls second.done first.pager second.pager →
    FaultsOf (if first.done then second else first).done m pager (if first.done then second else first).pager
then-faults m pager first second before now = at first.done refl before
  where
    at : (b : Bool) → first.done ≡ b → FaultsOf b m pager first.pager → FaultsOf (if b then second else first).done m pager (if b then second else first).pager
    at true done before = faults_from second.done m pager first.pager second.pager before now
    at false failed before = subst (λ (b : Bool). FaultsOf b m pager first.pager) (sym failed) before

used_after-faults : (m : MemoryState) (page : ℕ) (pager : FailurePlan) (step : Paged) → FaultsOf step.done m pager step.pager →
    FaultsOf (is_paged (used_after step page).answer) m pager (used_after step page).pager
used_after-faults m page pager step given = at step.done given
  where
    at : (b : Bool) → FaultsOf b m pager step.pager →
        let t : Touched = if b then record { answer = Ok tt; memory = with_use step.memory page; pager = step.pager } else record { answer = Err NoPage; memory = step.memory; pager = step.pager } in
        FaultsOf (is_paged t.answer) m pager t.pager
    at true given = given
    at false given = given

-- when a touch failed
pub touched_page-faults : (m : MemoryState) (page : ℕ) (pager : FailurePlan) → FaultsOf (is_paged (touched_page m page pager).answer) m pager (touched_page m page pager).pager
unfolding touched_page
touched_page-faults m page pager = at (is_discarded (word_at m page)) (is_resident (word_at m page).content)
  where
    at : (d r : Bool) →
        let t : Touched = if d then record { answer = Err Discarded; memory = m; pager = pager } else if r then record { answer = Ok tt; memory = with_use m page; pager = pager } else used_after
        (filled_after (frame_freed m pager) page) page in
        FaultsOf (is_paged t.answer) m pager t.pager
    at true r = refl
    at false true = refl
    at false false =
        used_after-faults m page pager (filled_after (frame_freed m pager) page)
        (then-faults m pager (frame_freed m pager) (frame_filled (frame_freed m pager).memory page (frame_freed m pager).pager) (freed-faults m pager)
        (filled-calls (frame_freed m pager).memory page (frame_freed m pager).pager))

allowed_move-faults : (action : Move) (m : MemoryState) (place : ℕ) (pager : FailurePlan) → FaultsOf (allowed_move action m place pager).done m pager (allowed_move action m place pager).pager
allowed_move-faults Discard m place pager = refl
allowed_move-faults Preserve m place pager = faults_from (not (fails_next pager)) m pager pager (after_next pager) refl (calls_next pager)
allowed_move-faults Bring m place pager =
    then-faults m pager (frame_freed m pager) (moved_page Bring (frame_freed m pager).memory place (frame_freed m pager).pager) (freed-faults m pager) (calls_next (frame_freed m pager).pager)
allowed_move-faults Age m place pager = refl

answered-faults : (m : MemoryState) (pager : FailurePlan) (step : Paged) → FaultsOf step.done m pager step.pager → FaultsOf (is_made (move_answered step).answer) m pager (move_answered step).pager
answered-faults m pager step given = at step.done given
  where
    at : (b : Bool) → FaultsOf b m pager step.pager →
        let r : Applied = if b then record { answer = Ok tt; memory = step.memory; pager = step.pager } else record { answer = Err Paging; memory = step.memory; pager = step.pager } in
        FaultsOf (is_made r.answer) m pager r.pager
    at true given = given
    at false given = given

-- when a host move failed
pub applied-faults : (m : MemoryState) (place : ℕ) (action : Move) (pager : FailurePlan) → FaultsOf (is_made (applied m place action pager).answer) m pager (applied m place action pager).pager
unfolding applied
applied-faults m place action pager = at (move_answer (word_at m place) action)
  where
    at : (r : Result Fields Reason) → FaultsOf (is_made (applied_as r action m place pager).answer) m pager (applied_as r action m place pager).pager
    at (Ok moved) = answered-faults m pager (allowed_move action m place pager) (allowed_move-faults action m place pager)
    at (Err why) = refl

-- where neither another victim is there nor a put may be made, reclaiming ends
pub reclaimed-ends : (m : MemoryState) (pager : FailurePlan) (n j : ℕ) → one_more (reclaimed m pager n) ≡ reclaimed m pager n → reclaimed m pager (n + j) ≡ reclaimed m pager n
unfolding reclaimed
reclaimed-ends m pager n zero stays = ap (reclaimed m pager) (omega arith)
reclaimed-ends m pager n (suc j) stays =
    let next : n + suc j ≡ suc (n + j) = omega arith in
    ap (reclaimed m pager) next ∙ ap one_more (reclaimed-ends m pager n j stays) ∙ stays

-- after n victims, the others as they are
abbrev pub so_far : ℕ → Bool → MemoryState → FailurePlan → Reclaimed
so_far n failed m pager = record { count = n; paging = failed; memory = m; pager = pager }

pub ends-at : (m : MemoryState) (pager : FailurePlan) (n asked : ℕ) (r : Reclaimed) → reclaimed m pager n ≡ r → n ≤ asked → one_more r ≡ r → reclaimed m pager asked ≡ r
ends-at m pager n asked r now most stays =
    let more : n + (asked - n) ≡ asked = omega (arith, most) in
    ap (reclaimed m pager) (sym more) ∙ reclaimed-ends m pager n (asked - n) (rw now stays) ∙ now

-- no victim is left
pub none-more : (n : ℕ) (k : MemoryState) (q : FailurePlan) → victim_of k.words k.hand ≡ None → one_more (so_far n false k q) ≡ so_far n false k q
unfolding one_more
none-more n k q none = ap (more_at (so_far n false k q)) none

-- a put failed
pub failed-more : (n : ℕ) (k : MemoryState) (q : FailurePlan) → one_more (so_far n true k q) ≡ so_far n true k q
unfolding one_more
failed-more n k q = refl

counted-as : (n : ℕ) (step : Paged) (d : Bool) → d ≡ step.done → reclaim_counted n step ≡ (if d then so_far (n + 1) false step.memory step.pager else so_far n true step.memory step.pager)
counted-as n step d done = ap (λ (b : Bool). if b then so_far (n + 1) false step.memory step.pager else so_far n true step.memory step.pager) (sym done)

-- a victim's move
pub one-more : (n : ℕ) (k : MemoryState) (q : FailurePlan) (v : ℕ × ℕ) (d : Bool) (k' : MemoryState) (q' : FailurePlan) → victim_of k.words k.hand ≡ Some v →
    d ≡ (evicted_at k (Some v) q).done → k' ≡ (evicted_at k (Some v) q).memory → q' ≡ (evicted_at k (Some v) q).pager →
    one_more (so_far n false k q) ≡ (if d then so_far (n + 1) false k' q' else so_far n true k' q')
unfolding one_more
one-more n k q v d k' q' found done memory pager =
    ap (more_at (so_far n false k q)) found ∙ counted-as n (evicted_at k (Some v) q) d done
    ∙ ap (λ (l : MemoryState). if d then so_far (n + 1) false l (evicted_at k (Some v) q).pager else so_far n true l (evicted_at k (Some v) q).pager) (sym memory)
    ∙ ap (λ (p : FailurePlan). if d then so_far (n + 1) false k' p else so_far n true k' p) (sym pager)

-- one step of the loop
pub reclaimed-next : (m : MemoryState) (pager : FailurePlan) (n : ℕ) (r s : Reclaimed) → reclaimed m pager n ≡ r → one_more r ≡ s → reclaimed m pager (n + 1) ≡ s
unfolding reclaimed
reclaimed-next m pager n r s now more =
    let next : n + 1 ≡ suc n = omega arith in
    ap (reclaimed m pager) next ∙ ap one_more now ∙ more

-- before the first
pub reclaimed-first : (m : MemoryState) (pager : FailurePlan) → reclaimed m pager 0 ≡ so_far 0 false m pager
unfolding reclaimed
reclaimed-first m pager = refl

clash : (b : Bool) → b ≡ true → b ≡ false → ⊥
clash b holds fails = grind (arith, holds, fails)

-- what a victim's move leaves to tell
more_tells : (asked : ℕ) (pager : FailurePlan) (r : Reclaimed) (v : Option (ℕ × ℕ)) → ReclaimTells asked pager r → r.paging ≡ false → victim_of r.memory.words r.memory.hand ≡ v →
    ReclaimTells (asked + 1) pager (more_at r v)
more_tells asked pager r None told good found =
    let gone : list_any is_candidate r.memory.words ≡ false = sym (victim-found r.memory.words r.memory.hand) ∙ ap is_some found in
    record { most = omega (arith, told.most); risen = told.risen; same = told.same; short = λ less kept. gone }
more_tells asked pager r (Some v) told good found =
    let there : list_any is_candidate r.memory.words ≡ true = sym (victim-found r.memory.words r.memory.hand) ∙ ap is_some found in
    let calls = reclaimed_page-calls (passed_by r.memory v) v.0 r.pager in
    at (evicted_at r.memory (Some v) r.pager).done calls (λ less. clash (list_any is_candidate r.memory.words) there (told.short less good))
  where
    at : (d : Bool) → Calls d r.pager (evicted_at r.memory (Some v) r.pager).pager → (r.count < asked → ⊥) →
        ReclaimTells (asked + 1) pager (let step = evicted_at r.memory (Some v) r.pager in if d then so_far (r.count + 1) false step.memory step.pager else so_far r.count true step.memory step.pager)
    at true calls full = record {
      most = omega (arith, told.most);
      risen = λ failed. absurd (clash false failed refl);
      same = λ kept. calls ∙ told.same good;
      short = λ less kept. absurd (full (omega (arith, less)));
    }
    at false calls full = record {
      most = omega (arith, told.most);
      risen = λ failed. subst (λ n. raised n ≤ (evicted_at r.memory (Some v) r.pager).pager.faults) (told.same good) calls;
      same = λ kept. absurd (clash true refl kept);
      short = λ less kept. absurd (clash true refl kept);
    }

one_more-tells : (asked : ℕ) (pager : FailurePlan) (r : Reclaimed) → ReclaimTells asked pager r → ReclaimTells (asked + 1) pager (one_more r)
unfolding one_more
one_more-tells asked pager r told = at r.paging refl
  where
    at : (b : Bool) → r.paging ≡ b → ReclaimTells (asked + 1) pager (if b then r else more_at r (victim_of r.memory.words r.memory.hand))
    at true failed = record { most = omega (arith, told.most); risen = told.risen; same = told.same; short = λ less good. absurd (clash r.paging failed good) }
    at false good = more_tells asked pager r (victim_of r.memory.words r.memory.hand) told good refl

-- what an answer of reclaiming tells
pub reclaimed-tells : (m : MemoryState) (pager : FailurePlan) (asked : ℕ) → ReclaimTells asked pager (reclaimed m pager asked)
unfolding reclaimed
reclaimed-tells m pager zero = record {
  most = omega arith;
  risen = λ failed. absurd (clash false failed refl);
  same = λ good. refl;
  short = λ less good. absurd (omega (arith, less));
}
reclaimed-tells m pager (suc n) =
    let next : n + 1 ≡ suc n = omega arith in
    subst (λ (a : ℕ). ReclaimTells a pager (one_more (reclaimed m pager n))) next (one_more-tells n pager (reclaimed m pager n) (reclaimed-tells m pager n))

-- a pager's faults never fall: one call, and one step after another
falls_next : (pager : FailurePlan) → NeverFalls pager (after_next pager)
falls_next pager = at (fails_next pager)
  where
    at : (b : Bool) → NeverFalls pager (after_call pager b)
    at true = omega arith
    at false = omega arith

falls-none : (pager : FailurePlan) → NeverFalls pager pager
falls-none pager = omega arith

falls-trans : (p q r : FailurePlan) → NeverFalls p q → NeverFalls q r → NeverFalls p r
falls-trans p q r first second = omega (arith, first, second)

falls-either : (b : Bool) (m : MemoryState) (pager : FailurePlan) (first second : Paged) → NeverFalls pager first.pager → NeverFalls pager second.pager
    → NeverFalls pager (if b then first else second).pager
falls-either true m pager first second one other = one
falls-either false m pager first second one other = other

moved_page-falls : (action : Move) (m : MemoryState) (place : ℕ) (pager : FailurePlan) → NeverFalls pager (moved_page action m place pager).pager
moved_page-falls Discard m place pager = falls-none pager
moved_page-falls Preserve m place pager = falls_next pager
moved_page-falls Bring m place pager = falls_next pager
moved_page-falls Age m place pager = falls-none pager

evicted_at-falls : (m : MemoryState) (v : Option (ℕ × ℕ)) (pager : FailurePlan) → NeverFalls pager (evicted_at m v pager).pager
unfolding reclaimed_page
evicted_at-falls m None pager = falls-none pager
evicted_at-falls m (Some v) pager = moved_page-falls _ (passed_by m v) v.0 pager

freed-falls : (m : MemoryState) (pager : FailurePlan) → NeverFalls pager (frame_freed m pager).pager
unfolding frame_freed evicted
freed-falls m pager = falls-either (nat_lt 0 m.free) m pager _ _ (falls-none pager) (evicted_at-falls m (victim_of m.words m.hand) pager)

-- a touch's pager
pub touched_page-falls : (m : MemoryState) (page : ℕ) (pager : FailurePlan) → NeverFalls pager (touched_page m page pager).pager
unfolding touched_page
touched_page-falls m page pager = at (is_discarded (word_at m page)) (is_resident (word_at m page).content)
  where
    filled-falls : (f : Paged) → NeverFalls f.pager (frame_filled f.memory page f.pager).pager
    filled-falls f = falls-either (is_preserved (word_at f.memory page).content) f.memory f.pager _ _ (falls_next f.pager) (falls-none f.pager)

    after : NeverFalls pager (filled_after (frame_freed m pager) page).pager
    after =
        falls-either (frame_freed m pager).done m pager (frame_filled (frame_freed m pager).memory page (frame_freed m pager).pager) (frame_freed m pager)
        (falls-trans pager (frame_freed m pager).pager (frame_filled (frame_freed m pager).memory page (frame_freed m pager).pager).pager (freed-falls m pager)
        (filled-falls (frame_freed m pager))) (freed-falls m pager)

    used : (b : Bool) (step : Paged) → NeverFalls pager step.pager →
        NeverFalls pager (let t : Touched = if b then record { answer = Ok tt; memory = with_use step.memory page; pager = step.pager } else
        record { answer = Err NoPage; memory = step.memory; pager = step.pager } in t).pager
    used true step given = given
    used false step given = given

    at : (d r : Bool) →
        NeverFalls pager (let t : Touched = if d then record { answer = Err Discarded; memory = m; pager = pager } else if r then
        record { answer = Ok tt; memory = with_use m page; pager = pager } else used_after (filled_after (frame_freed m pager) page) page in t).pager
    at true r = falls-none pager
    at false true = falls-none pager
    at false false = used (filled_after (frame_freed m pager) page).done (filled_after (frame_freed m pager) page) after
