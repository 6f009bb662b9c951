-- What a touch keeps, and what it leaves of the page that is touched.
use Rattle.std.specs.Prelude.{◌≡◌, refl, ℕ, ◌<◌, length, Bool, true, false, not, Ok, Err, if◌then◌else◌}
use Rattle.std.proofs.Common.{arith, ap, sym, subst, ◌∙◌, get_or-set_other, get_or-set_same}
use Rattle.std.proofs.Math.ListN.{length-set}
use Rattle.cmm_types.specs.declared.page.Move.TheVariants.{Bring}
use Rattle.cmm_io.specs.FailurePlan.{FailurePlan, fails_next}
use Rattle.essa_state.specs.declared.fields.Fields.{Fields}
use Rattle.essa_state.specs.StateWord.{is_resident, is_preserved, is_zero, is_discarded, opening_word}
use Rattle.essa_state.specs.Moves.{brought}
use Rattle.essa_state.specs.PageBody.{Body, moved_body, actual}
use Rattle.essa_state.specs.PageValue.{PageValue}
use Rattle.essa_state.specs.Laws.PageValueLaws.{MayBecome-refl, MayBecome-trans}
use Rattle.cmm_storage.specs.StorageView.{touched_contents}
use Rattle.cmm_types.specs.Bytes.{zero_page}
use Rattle.cmm_storage.specs.declared.storage.Trap.TheVariants.{Discarded, Paging}
use Rattle.host_plain.specs.MemoryState.{MemoryState, IsMemory, no_body, word_at, body_at, memory_value_at, with_moved, with_use, body_with_bytes}
use Rattle.host_plain.specs.Eviction.{Paged, moved_page, brought_at, frame_freed}
use Rattle.host_plain.specs.Touches.{Touched, used_after, zeroed_at, frame_filled, filled_after, touched_page}
use Rattle.host_plain.specs.Keeping.{HostKeeps, TouchKeeps, TouchLeaves, SamePage}
use Rattle.host_plain.proofs.Kept.{use_kept, zeroed_kept}
use Rattle.host_plain.proofs.Keeping.{keeps-refl, busy_set, freed-keeps, freed-absent, freed-frees, brought_at-keeps}

-- what the host keeps, a touch keeps
pub touch-from : (m : MemoryState) (page : ℕ) (k : MemoryState) → HostKeeps m k → TouchKeeps m page k
touch-from m page k keeps = record { sound = keeps.sound; count = keeps.count; frames = keeps.frames; busy = keeps.busy; others = λ place other. keeps.values place }

pub touch-trans : (m k l : MemoryState) (page : ℕ) → TouchKeeps m page k → TouchKeeps k page l → TouchKeeps m page l
touch-trans m k l page first second = record {
  sound = second.sound;
  count = second.count ∙ first.count;
  frames = second.frames ∙ first.frames;
  busy = λ place. second.busy place ∙ first.busy place;
  others = λ place other. MayBecome-trans _ _ _ (first.others place other) (second.others place other);
}

touch-either : (b : Bool) (m k l : MemoryState) (page : ℕ) → TouchKeeps m page k → TouchKeeps m page l → TouchKeeps m page (if b then k else l)
touch-either true m k l page first second = first
touch-either false m k l page first second = second

-- another word and body at the page, which isn't busy otherwise than before
page_touched : (m : MemoryState) (page : ℕ) (word : Fields) (body : Body) → page < length m.words → word.busy ≡ (word_at m page).busy →
    IsMemory (with_moved m page word body) → TouchKeeps m page (with_moved m page word body)
page_touched m page word body below same sound = record {
  sound = sound;
  count = length-set m.words page word;
  frames = refl;
  busy = busy_set m page word below same;
  others = λ place other. rw (get_or-set_other m.words page place word opening_word other, get_or-set_other m.bodies page place body no_body other) (MayBecome-refl (memory_value_at m place));
}

pub used-keeps : (m : MemoryState) (page : ℕ) → IsMemory m → page < length m.words → is_resident (word_at m page).content ≡ true → TouchKeeps m page (with_use m page)
used-keeps m page sound below resident = record {
  sound = use_kept m page sound below resident;
  count = length-set m.words page _;
  frames = refl;
  busy = busy_set m page (record (word_at m page) { referenced = true }) below refl;
  others = λ place other. rw (get_or-set_other m.words page place (record (word_at m page) { referenced = true }) opening_word other) (MayBecome-refl (memory_value_at m place));
}

zeroed-keeps : (m : MemoryState) (page : ℕ) → IsMemory m → page < length m.words → is_zero (word_at m page).content ≡ true → 0 < m.free → TouchKeeps m page (zeroed_at m page)
zeroed-keeps m page sound below blank frame =
    page_touched m page (brought (word_at m page)) (body_with_bytes (body_at m page) zero_page) below refl (zeroed_kept m page sound below blank frame)

zero-else : (w : Fields) → is_resident w.content ≡ false → is_preserved w.content ≡ false → is_zero w.content ≡ true
zero-else w a b = grind arith

-- a page that isn't resident gets a free frame
pub filled-keeps : (m : MemoryState) (page : ℕ) (pager : FailurePlan) → IsMemory m → page < length m.words → is_resident (word_at m page).content ≡ false → 0 < m.free →
    TouchKeeps m page (frame_filled m page pager).memory
filled-keeps m page pager sound below absent frame = at (is_preserved (word_at m page).content) refl
  where
    at : (b : Bool) → is_preserved (word_at m page).content ≡ b →
        TouchKeeps m page (if b then moved_page Bring m page pager else record { done = true; memory = zeroed_at m page; pager = pager }).memory
    at true there = touch-either (fails_next pager) m m (brought_at m page) page (touch-from m page m (keeps-refl m sound)) (touch-from m page _ (brought_at-keeps m page sound below there frame))
    at false blank = zeroed-keeps m page sound below (zero-else (word_at m page) absent blank) frame

-- the value that a good touch leaves
abbrev touched_value : PageValue → PageValue
touched_value value = record value { contents = touched_contents true value.contents }

brought-value : (w : Fields) (body : Body) → is_preserved w.content ≡ true → actual (brought w) (moved_body Bring body) ≡ touched_value (actual w body)
brought-value w body there = grind arith

zeroed-value : (w : Fields) (body : Body) → is_zero w.content ≡ true → is_discarded w ≡ false → actual (brought w) (body_with_bytes body zero_page) ≡ touched_value (actual w body)
zeroed-value w body blank kept = grind arith

used-value : (w : Fields) (body : Body) → is_resident w.content ≡ true → actual (record w { referenced = true }) body ≡ touched_value (actual w body)
used-value w body resident = grind arith

-- what a step of a touch leaves of the page
abbrev StepLeaves : Bool → MemoryState → ℕ → MemoryState → Type 0
StepLeaves true m page k = (is_resident (word_at k page).content ≡ true) × (memory_value_at k page ≡ touched_value (memory_value_at m page))
StepLeaves false m page k = SamePage m page k

-- a resident page with another word and body
page_left : (m : MemoryState) (page : ℕ) (word : Fields) (body : Body) → IsMemory m → page < length m.words → is_resident word.content ≡ true →
    actual word body ≡ touched_value (memory_value_at m page) → StepLeaves true m page (with_moved m page word body)
page_left m page word body sound below resident value =
    let other : page < length m.bodies = omega (arith, below, sound.same) in (
      rw (get_or-set_same m.words page word opening_word below) resident,
      rw (get_or-set_same m.words page word opening_word below, get_or-set_same m.bodies page body no_body other) value,
    )

filled-leaves : (m : MemoryState) (page : ℕ) (pager : FailurePlan) → IsMemory m → page < length m.words → is_resident (word_at m page).content ≡ false →
    is_discarded (word_at m page) ≡ false → StepLeaves (frame_filled m page pager).done m page (frame_filled m page pager).memory
filled-leaves m page pager sound below absent kept = at (is_preserved (word_at m page).content) refl
  where
    got : (b : Bool) → is_preserved (word_at m page).content ≡ true → StepLeaves (not b) m page (if b then m else brought_at m page)
    got true there = (refl, refl)
    got false there = page_left m page (brought (word_at m page)) (moved_body Bring (body_at m page)) sound below refl (brought-value (word_at m page) (body_at m page) there)

    at : (b : Bool) → is_preserved (word_at m page).content ≡ b →
        StepLeaves (if b then moved_page Bring m page pager else record { done = true; memory = zeroed_at m page; pager = pager }).done m page
        (if b then moved_page Bring m page pager else record { done = true; memory = zeroed_at m page; pager = pager }).memory
    at true there = got (fails_next pager) there
    at false blank =
        page_left m page (brought (word_at m page)) (body_with_bytes (body_at m page) zero_page) sound below refl
        (zeroed-value (word_at m page) (body_at m page) (zero-else (word_at m page) absent blank) kept)

-- the same from the memory before it, where the page was as it is now
leaves_from : (b : Bool) (m k l : MemoryState) (page : ℕ) → SamePage m page k → StepLeaves b k page l → StepLeaves b m page l
leaves_from true m k l page (word, body) (resident, value) =
    (resident, value ∙ ap (λ (v : PageValue). touched_value v) (ap (λ (w : Fields). actual w (body_at k page)) word ∙ ap (λ (b : Body). actual (word_at m page) b) body))
leaves_from false m k l page (word, body) (w, b) = (w ∙ word, b ∙ body)

-- a frame is found, and filled
filled_after-leaves : (m : MemoryState) (page : ℕ) (pager : FailurePlan) → IsMemory m → page < length m.words → is_resident (word_at m page).content ≡ false →
    is_discarded (word_at m page) ≡ false → StepLeaves (filled_after (frame_freed m pager) page).done m page (filled_after (frame_freed m pager) page).memory
filled_after-leaves m page pager sound below absent kept = at (frame_freed m pager).done refl
  where
    found : HostKeeps m (frame_freed m pager).memory
    found = freed-keeps m pager sound

    still : SamePage m page (frame_freed m pager).memory
    still = freed-absent m pager page sound absent

    at : (b : Bool) → (frame_freed m pager).done ≡ b →
        StepLeaves (if b then frame_filled (frame_freed m pager).memory page (frame_freed m pager).pager else frame_freed m pager).done m page
        (if b then frame_filled (frame_freed m pager).memory page (frame_freed m pager).pager else frame_freed m pager).memory
    at true done =
        leaves_from (frame_filled (frame_freed m pager).memory page (frame_freed m pager).pager).done m (frame_freed m pager).memory
        (frame_filled (frame_freed m pager).memory page (frame_freed m pager).pager).memory page still
        (filled-leaves (frame_freed m pager).memory page (frame_freed m pager).pager found.sound (rw found.count below) (rw still.0 absent) (rw still.0 kept))
    at false failed = subst (λ (b : Bool). StepLeaves b m page (frame_freed m pager).memory) (sym failed) still

filled_after-keeps : (m : MemoryState) (page : ℕ) (pager : FailurePlan) → IsMemory m → page < length m.words → is_resident (word_at m page).content ≡ false →
    TouchKeeps m page (filled_after (frame_freed m pager) page).memory
filled_after-keeps m page pager sound below absent = at (frame_freed m pager).done refl
  where
    found : HostKeeps m (frame_freed m pager).memory
    found = freed-keeps m pager sound

    at : (b : Bool) → (frame_freed m pager).done ≡ b → TouchKeeps m page (if b then frame_filled (frame_freed m pager).memory page (frame_freed m pager).pager else frame_freed m pager).memory
    at true done =
        let still = freed-absent m pager page sound absent in
        touch-trans m (frame_freed m pager).memory _ page (touch-from m page (frame_freed m pager).memory found)
        (filled-keeps (frame_freed m pager).memory page (frame_freed m pager).pager found.sound (rw found.count below) (rw still.0 absent) (freed-frees m pager sound done))
    at false failed = touch-from m page (frame_freed m pager).memory found

used_after-leaves : (m : MemoryState) (page : ℕ) (step : Paged) → page < length step.memory.words → is_resident (word_at m page).content ≡ false → is_discarded (word_at m page) ≡ false →
    StepLeaves step.done m page step.memory → TouchLeaves (used_after step page).answer m page (used_after step page).memory
used_after-leaves m page step below absent kept = at step.done
  where
    at : (b : Bool) → StepLeaves b m page step.memory →
        let t : Touched = if b then record { answer = Ok tt; memory = with_use step.memory page; pager = step.pager } else record { answer = Err Paging; memory = step.memory; pager = step.pager } in
        TouchLeaves t.answer m page t.memory
    at true (resident, value) = (
      kept,
      rw (get_or-set_same step.memory.words page (record (word_at step.memory page) { referenced = true }) opening_word below) resident,
      rw (get_or-set_same step.memory.words page (record (word_at step.memory page) { referenced = true }) opening_word below) value,
      λ there. absurd (let bad : true ≡ false = sym there ∙ absent in cc),
    )
    at false still = (kept, absent, still)

used_after-keeps : (m : MemoryState) (page : ℕ) (step : Paged) → page < length m.words → TouchKeeps m page step.memory → StepLeaves step.done m page step.memory →
    TouchKeeps m page (used_after step page).memory
used_after-keeps m page step below keeps = at step.done
  where
    at : (b : Bool) → StepLeaves b m page step.memory →
        TouchKeeps m page (let t : Touched = if b then record { answer = Ok tt; memory = with_use step.memory page; pager = step.pager } else
        record { answer = Err Paging; memory = step.memory; pager = step.pager } in t).memory
    at true (resident, value) = touch-trans m step.memory _ page keeps (used-keeps step.memory page keeps.sound (rw keeps.count below) resident)
    at false still = keeps

-- a touch keeps the other pages
pub touched_page-keeps : (m : MemoryState) (page : ℕ) (pager : FailurePlan) → IsMemory m → page < length m.words → TouchKeeps m page (touched_page m page pager).memory
unfolding touched_page
touched_page-keeps m page pager sound below = at (is_discarded (word_at m page)) refl (is_resident (word_at m page).content) refl
  where
    at : (d : Bool) → is_discarded (word_at m page) ≡ d → (r : Bool) → is_resident (word_at m page).content ≡ r →
        TouchKeeps m page (let t : Touched = if d then record { answer = Err Discarded; memory = m; pager = pager } else if r then
        record { answer = Ok tt; memory = with_use m page; pager = pager } else used_after (filled_after (frame_freed m pager) page) page in t).memory
    at true gone r resident = touch-from m page m (keeps-refl m sound)
    at false kept true resident = used-keeps m page sound below resident
    at false kept false absent =
        used_after-keeps m page (filled_after (frame_freed m pager) page) below (filled_after-keeps m page pager sound below absent) (filled_after-leaves m page pager sound below absent kept)

-- and leaves the page that is touched as its answer says
pub touched_page-leaves : (m : MemoryState) (page : ℕ) (pager : FailurePlan) → IsMemory m → page < length m.words →
    TouchLeaves (touched_page m page pager).answer m page (touched_page m page pager).memory
unfolding touched_page
touched_page-leaves m page pager sound below = at (is_discarded (word_at m page)) refl (is_resident (word_at m page).content) refl
  where
    at : (d : Bool) → is_discarded (word_at m page) ≡ d → (r : Bool) → is_resident (word_at m page).content ≡ r →
        let t : Touched = if d then record { answer = Err Discarded; memory = m; pager = pager } else if r then record { answer = Ok tt; memory = with_use m page; pager = pager } else used_after
        (filled_after (frame_freed m pager) page) page in
        TouchLeaves t.answer m page t.memory
    at true gone r resident = (gone, refl)
    at false kept true resident = (
      kept,
      rw (get_or-set_same m.words page (record (word_at m page) { referenced = true }) opening_word below) resident,
      rw (get_or-set_same m.words page (record (word_at m page) { referenced = true }) opening_word below) (used-value (word_at m page) (body_at m page) resident),
      λ there. refl,
    )
    at false kept false absent =
        used_after-leaves m page (filled_after (frame_freed m pager) page) (rw (filled_after-keeps m page pager sound below absent).count below) absent kept
        (filled_after-leaves m page pager sound below absent kept)
