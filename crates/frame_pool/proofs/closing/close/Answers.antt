use Rattle.std.proofs.Common.{◌≡◌, ◌<◌, ◌+◌, ◌++◌, ℕ, List, length, length-append, arith, sym, ap, ◌∙◌}
use Rattle.std.specs.Prelude.{Option, None}
use Rattle.std.specs.Mem.Slots.{slots_items, slots_len, slots_counts}
use Rattle.std.proofs.lemmas.List.{length-map}
use mathlib.Core.Option.{some}
use lib.ListN.{get_elem?}
use Rattle.page_arena.specs.FrameView.{FrameView}
use Rattle.frame_pool.specs.Closing.{count_out, numbers_in}
use Rattle.frame_pool.proofs.Ending.{read, frame_here, gathered, in_and_out, none_some, count_most, count_more, count_same, out_step, in_step, full_next, taken_next, frames_in}
use Rattle.frame_pool.proofs.closing.close.Goals as goal

pub overflow_add-out : goal.overflow_add-out
overflow_add-out c =
    let most = count_most (slots_items c.close_with-closed.result.words) c.loop-place.place in
    record { fits = omega (arith, most, c.loop-place.invariant.out, c.loop-place-test.true, c.slot_count-frames.ensures, c.requires.most) }

pub loop-place-preserved-then-word-ne0 : goal.loop-place-preserved-then-word-ne0
loop-place-preserved-then-word-ne0 c =
    let inv = c.loop-place.invariant in
    let before = c.close_with-closed.result in
    let ws : List ℕ = slots_items before.words in
    let xs : List (Option FrameView) = slots_items before.slots in
    let at : get_elem? ws c.loop-place.place ≡ some c.word-word.result = rw inv.words at c.word-word.ensures in
    record {
      words = c.take-slot.ensures.others.3 ∙ inv.words;
      items = c.take-slot.ensures.others.0 ∙ inv.items;
      count = c.take-slot.ensures.others.2 ∙ inv.count;
      full = λ k from below. full_next _ _ c.loop-place.place (slots_len c.loop-place.closed.slots) c.take-slot.ensures.others.1 inv.full k from (rw c.take-slot.ensures.others.2 at below);
      taken = taken_next _ _ c.loop-place.place c.take-slot.ensures.others.1 inv.taken;
      into = out_step ws xs _ _ c.loop-place.place c.word-word.result at c.if-word-ne0.true inv.into;
      room = omega (arith, inv.room);
      out = ap (λ (n : ℕ). n + 1) inv.out ∙ count_more ws c.loop-place.place c.word-word.result at c.if-word-ne0.true;
    }

pub unreachable-requires : goal.unreachable-requires
unreachable-requires c =
    let inv = c.loop-place.invariant in
    let before = c.close_with-closed.result in
    let ws : List ℕ = slots_items before.words in
    let xs : List (Option FrameView) = slots_items before.slots in
    let fin = c.close_with-closed.ensures.values.2 in
    let at : get_elem? ws c.loop-place.place ≡ some c.word-word.result = rw inv.words at c.word-word.ensures in
    let slot : get_elem? xs c.loop-place.place ≡ some c.take-slot.result = rw inv.items at c.take-slot.ensures.value in
    let near : c.loop-place.place < length fin.0.homes =
    omega (arith, c.loop-place-test.true, c.slot_count-frames.ensures, fin.3, (slots_counts before.slots).0, c.close_with-closed.ensures.counts.1) in
    let frame = frame_here c.args.table.shared.key fin.0 fin.1.0 ws xs fin.2 fin.4 c.loop-place.place near (read ws c.loop-place.place c.word-word.result 0 at ∙ c.if-word-ne0.false) in
    none_some frame.0 (sym (read xs c.loop-place.place c.take-slot.result None slot ∙ c.in-None.is) ∙ frame.1)

pub loop-place-preserved : goal.loop-place-preserved
loop-place-preserved c =
    let inv = c.loop-place.invariant in
    let before = c.close_with-closed.result in
    let ws : List ℕ = slots_items before.words in
    let xs : List (Option FrameView) = slots_items before.slots in
    let at : get_elem? ws c.loop-place.place ≡ some c.word-word.result = rw inv.words at c.word-word.ensures in
    let slot : get_elem? xs c.loop-place.place ≡ some c.take-slot.result = rw inv.items at c.take-slot.ensures.value in
    record {
      words = c.take-slot.ensures.others.3 ∙ inv.words;
      items = c.take-slot.ensures.others.0 ∙ inv.items;
      count = c.take-slot.ensures.others.2 ∙ inv.count;
      full = λ k from below. full_next _ _ c.loop-place.place (slots_len c.loop-place.closed.slots) c.take-slot.ensures.others.1 inv.full k from (rw c.take-slot.ensures.others.2 at below);
      taken = taken_next _ _ c.loop-place.place c.take-slot.ensures.others.1 inv.taken;
      into = c.give_back.ensures.frames ∙ in_step ws xs _ _ c.loop-place.place c.word-word.result c.in-Some.frame at c.if-word-ne0.false (slot ∙ ap some c.in-Some.is) inv.into;
      room = omega (arith, inv.room, c.give_back.ensures.len, c.give_back.ensures.room);
      out = inv.out ∙ count_same ws c.loop-place.place c.word-word.result at c.if-word-ne0.false;
    }

pub returns-clause-frames : goal.returns-clause-frames
returns-clause-frames c =
    let inv = c.loop-place.invariant in
    let before = c.close_with-closed.result in
    let n : ℕ = c.args.table.shared.table_id.slots in
    let ws : List ℕ = slots_items before.words in
    let xs : List (Option FrameView) = slots_items before.slots in
    let fin = c.close_with-closed.ensures.values.2 in
    let size : length fin.0.homes ≡ n = omega (arith, fin.3, (slots_counts before.slots).0, c.close_with-closed.ensures.counts.1) in
    let end : c.loop-place.place ≡ n = omega (arith, c.loop-place-test.false, c.loop-place.auto.place-end, c.slot_count-frames.ensures) in
    let all = gathered c.args.table.shared.key fin.0 fin.1.0 ws xs fin.2 fin.4 n (omega arith) in
    record {
      state = fin.0;
      kept = fin.1.0;
      size = size;
      frames = frames_in ws xs n;
      appended = inv.into ∙ ap (λ (k : ℕ). c.args.into.now.items ++ frames_in ws xs k) end;
      of_region = all.0;
      numbers = all.1 ∙ ap (λ (l : List ℕ). numbers_in l n) (sym fin.2);
      out_is = inv.out ∙ (ap (count_out ws) end ∙ ap (λ (l : List ℕ). count_out l n) (sym fin.2));
    }

pub returns-clause-all : goal.returns-clause-all
returns-clause-all c =
    let inv = c.loop-place.invariant in
    let before = c.close_with-closed.result in
    let n : ℕ = c.args.table.shared.table_id.slots in
    let ws : List ℕ = slots_items before.words in
    let xs : List (Option FrameView) = slots_items before.slots in
    let fin = c.close_with-closed.ensures.values.2 in
    let size : length fin.0.homes ≡ n = omega (arith, fin.3, (slots_counts before.slots).0, c.close_with-closed.ensures.counts.1) in
    let end : c.loop-place.place ≡ n = omega (arith, c.loop-place-test.false, c.loop-place.auto.place-end, c.slot_count-frames.ensures) in
    let all = gathered c.args.table.shared.key fin.0 fin.1.0 ws xs fin.2 fin.4 n (omega arith) in
    let into : c.loop-place.into.items ≡ c.args.into.now.items ++ frames_in ws xs n = inv.into ∙ ap (λ (k : ℕ). c.args.into.now.items ++ frames_in ws xs k) end in
    let many : length (frames_in ws xs n) ≡ length (numbers_in ws n) = sym (length-map (frames_in ws xs n) (λ (f : FrameView). f.number)) ∙ ap (λ (l : List ℕ). length l) all.1 in
    let out : c.loop-place.out ≡ count_out ws n = inv.out ∙ ap (count_out ws) end in
    omega (arith, ap (λ (l : List FrameView). length l) into, length-append c.args.into.now.items (frames_in ws xs n), many, out, in_and_out ws n)
