-- Over a storage that never misses a processor that goes on alone comes to an end.
use Rattle.std.specs.Prelude.{◌≡◌, ◌<◌, ◌≤◌, ℕ, zero, suc, ◌+◌, ◌*◌, length, true, Option, Some, None, refl}
use Rattle.std.proofs.Common.{arith, sym, ap, subst, ◌∙◌}
use Rattle.cmm_types.specs.declared.turn.Turn.{Turn}
use Rattle.cmm_types.specs.declared.turn.Turn.TheVariants.{Moved, Finished, Waits, Again, Idle}
use Rattle.cmm_types.specs.declared.turn.Alone.{Alone}
use Rattle.cmm_types.specs.declared.turn.Alone.TheVariants.{Finished as AloneFinished, Waits as AloneWaits, Idle as AloneIdle}
use Rattle.cmm_types.specs.declared.plan.TheConstants.{MAX_FILE_PAGES}
use Rattle.cmm_types.specs.declared.command.Op.{Op}
use Rattle.cmm_types.specs.declared.command.Op.TheVariants.{Read, Write, Sync, MapFile, MapAnon, Unmap, Load, Store, Pin, Unpin}
use Rattle.cmm_flat.specs.Legal.{command_of, process_of}
use Rattle.cmm_io.specs.DiskView.{DiskView}
use Rattle.cmm_storage.specs.StorageView.{StorageView}
use Rattle.cmm_storage.specs.Views.{Seen, unbind, seen-keeps}
use Rattle.guest_maps.specs.declared.slot.Slot.{Slot}
use Rattle.guest_maps.specs.MapsView.{slot_at, find_slot}
use Rattle.guest_rules.specs.declared.processor.Phase.{Phase}
use Rattle.guest_rules.specs.declared.processor.Phase.TheVariants.{Start, Fill, Room as AtRoom, Sync as AtSync, SyncWrite, Teardown}
use Rattle.guest_rules.specs.GuestState.{GuestState, processor_at}
use Rattle.guest_rules.specs.Turns.{file_pages, mapping_pages, turn}
use Rattle.guest_rules.specs.Alone.{alone, alone_within, alone_after, found_pages, pages_to_tear, turns_of, most_turns}
use Rattle.guest_rules.specs.Fit.{Fit}
use Rattle.guest_rules.specs.Cause.{AloneCause, LastTurn, MayTake, HasMoved, WentRightly}
use Rattle.guest_rules.proofs.Cases.TurnCases.{TurnCase}
use Rattle.guest_rules.proofs.Cases.Inversion.{turn_case}
use Rattle.guest_rules.proofs.Causes.TurnCauses.{turn_causes}
use Rattle.guest_rules.proofs.Cases.FileSizes.{file_pages-most}
use Rattle.guest_rules.proofs.Bound.Ranks.{Rank, no_command, has_command, rank_some, command_rank}
use Rattle.guest_rules.proofs.Bound.Steps.{rank_step, never_again}
use Rattle.guest_rules.proofs.Bound.TurnsKept.{turns_kept}
use Rattle.guest_rules.proofs.Causes.Summary.{turn_summary}

-- a turn keeps what stands between turns
abbrev pub KeepsFit : Type 0
KeepsFit =
    (g : GuestState) (v w : StorageView) (d e : DiskView) (cpu : ℕ) (h : GuestState) (t : Turn) → Fit g v d → cpu < length g.processors
    → Seen {A = GuestState × Turn} (turn g cpu) v d (h, t) w e → Fit h w e

-- what a turn that moved left as it was
record Onward (g : GuestState) (cpu : ℕ) (h : GuestState) : Type 0 where
  moved : HasMoved g cpu h
  plan : h.plan ≡ g.plan
  turns : (op : Op) → command_of g.plan cpu (processor_at g cpu).place ≡ Some op → turns_of h cpu op ≡ turns_of g cpu op

-- a command of the later moment is the one of the earlier
command_before : (g h : GuestState) (cpu : ℕ) → Onward g cpu h → command_of h.plan cpu (processor_at h cpu).place ≡ command_of g.plan cpu (processor_at g cpu).place
command_before g h cpu on = ap (λ q. command_of q cpu (processor_at h cpu).place) on.plan ∙ ap (λ q. command_of g.plan cpu q) on.moved.place

-- a command may take as many turns before a turn that moved as after it
may_take_before : (g h : GuestState) (cpu turns : ℕ) → Onward g cpu h → MayTake h cpu turns → MayTake g cpu turns
may_take_before g h cpu turns on few op command = subst (λ n. turns ≤ n) (on.turns op command) (few op (command_before g h cpu on ∙ command))

may_take_next : (g h : GuestState) (cpu turns : ℕ) → Onward g cpu h → MayTake g cpu turns → MayTake h cpu turns
may_take_next g h cpu turns on few op command =
    let before = sym (command_before g h cpu on) ∙ command in subst (λ n. turns ≤ n) (sym (on.turns op before)) (few op before)

-- why a processor stopped, after so many turns that moved before
abbrev StopsAfter : (turns : ℕ) → GuestState → StorageView → DiskView → ℕ → Alone → GuestState → StorageView → DiskView → Type 0
StopsAfter turns g v d cpu (AloneFinished all) i w e = (moved : ℕ) × (all ≡ turns + moved + 1) × LastTurn moved g v d cpu Finished i w e × MayTake g cpu all
StopsAfter turns g v d cpu (AloneWaits all page owner) i w e = (moved : ℕ) × (all ≡ turns + moved) × LastTurn moved g v d cpu (Waits page owner) i w e × MayTake g cpu (all + 1)
StopsAfter turns g v d cpu AloneIdle i w e = WentRightly g v d cpu Idle i w e

-- one turn more that moved
moved_more : (moved : ℕ) (g h i : GuestState) (v m w : StorageView) (d y e : DiskView) (cpu : ℕ) (t : Turn) → WentRightly g v d cpu Moved h m y → LastTurn moved h m y cpu t i w e
    → LastTurn (suc moved) g v d cpu t i w e
moved_more moved g h i v m w d y e cpu t one k =
    record { guest = k.guest; storage = k.storage; disk = k.disk; before = (h, m, y, one, k.before); last = k.last }

one_more : (turns moved all : ℕ) → all ≡ turns + 1 + moved → all ≡ turns + suc moved
one_more turns moved all h = omega (arith, h)

-- why a processor stopped, seen from before a turn that moved
stop_before : (turns : ℕ) (g h i : GuestState) (v m w : StorageView) (d y e : DiskView) (cpu : ℕ) (a : Alone) → Onward g cpu h → WentRightly g v d cpu Moved h m y
    → StopsAfter (turns + 1) h m y cpu a i w e → StopsAfter turns g v d cpu a i w e
stop_before turns g h i v m w d y e cpu (AloneFinished all) on one (moved, is, k, few) =
    (suc moved, is ∙ (omega arith), moved_more moved g h i v m w d y e cpu Finished one k, may_take_before g h cpu all on few)
stop_before turns g h i v m w d y e cpu (AloneWaits all page owner) on one (moved, is, k, few) =
    (suc moved, one_more turns moved all is, moved_more moved g h i v m w d y e cpu (Waits page owner) one k, may_take_before g h cpu (all + 1) on few)
stop_before turns g h i v m w d y e cpu AloneIdle on one k =
    let bad : None ≡ Some on.moved.command.0 = sym k.cause.answer.3 ∙ command_before g h cpu on ∙ on.moved.command.1 in absurd cc

-- the first turn is the last
at_once : (g i : GuestState) (v w : StorageView) (d e : DiskView) (cpu : ℕ) (t : Turn) → WentRightly g v d cpu t i w e → LastTurn 0 g v d cpu t i w e
at_once g i v w d e cpu t one = record { guest = g; storage = v; disk = d; before = (refl, refl, refl); last = one }

few_now : (g : GuestState) (cpu turns left : ℕ) → MayTake g cpu (turns + suc left) → MayTake g cpu (turns + 1)
few_now g cpu turns left few op command = fewer turns left (turns_of g cpu op) (few op command)
  where
    fewer : (turns left most : ℕ) → turns + suc left ≤ most → turns + 1 ≤ most
    fewer turns left most h = omega (arith, h)

-- what follows a turn
after_turn : (g h i : GuestState) (v m w : StorageView) (d y e : DiskView) (cpu fuel left turns : ℕ) (t : Turn) (a : Alone) → Fit g v d → v.quiet ≡ true
    → TurnCase g cpu v d h t m y → WentRightly g v d cpu t h m y → Rank g v cpu (suc left) → MayTake g cpu (turns + suc left)
    → (Rank h m cpu left → MayTake h cpu (turns + suc left) → Seen {A = GuestState × Alone} (alone_within fuel (turns + 1) h cpu) m y (i, a) w e → StopsAfter (turns + 1) h m y cpu a i w e)
    → Seen {A = GuestState × Alone} (alone_after (λ q. alone_within fuel (turns + 1) q cpu) turns h t) m y (i, a) w e → StopsAfter turns g v d cpu a i w e
after_turn g h i v m w d y e cpu fuel left turns Moved a f quiet case one rank few next run =
    let plan = (turn_summary g v m d y cpu h Moved case).plan in
    let on : Onward g cpu h = record { moved = one.cause.answer.0; plan = plan; turns = λ op command. turns_kept g v m d y cpu op h f command plan case } in
    stop_before turns g h i v m w d y e cpu a on one (next (rank_step g v m d y cpu left h f quiet case rank) (may_take_next g h cpu (turns + suc left) on few) run)
after_turn g h i v m w d y e cpu fuel left turns Finished a f quiet case one rank few next (ea, em, ed) =
    let ei : i ≡ h = ap (λ q. q.0) ea in
    let er : a ≡ AloneFinished (turns + 1) = ap (λ q. q.1) ea in
    rw er (rw (ei, em, ed) (0, omega arith, at_once g h v m d y cpu Finished one, few_now g cpu turns left few))
after_turn g h i v m w d y e cpu fuel left turns (Waits page owner) a f quiet case one rank few next (ea, em, ed) =
    let ei : i ≡ h = ap (λ q. q.0) ea in
    let er : a ≡ AloneWaits turns page owner = ap (λ q. q.1) ea in
    rw er (rw (ei, em, ed) (0, omega arith, at_once g h v m d y cpu (Waits page owner) one, few_now g cpu turns left few))
after_turn g h i v m w d y e cpu fuel left turns (Again why) a f quiet case one rank few next run = absurd (never_again g v m d y cpu h why quiet case)
after_turn g h i v m w d y e cpu fuel left turns Idle a f quiet case one rank few next (ea, em, ed) =
    let ei : i ≡ h = ap (λ q. q.0) ea in
    let er : a ≡ AloneIdle = ap (λ q. q.1) ea in
    rw er (rw (ei, em, ed) one)

one_later : (turns left most : ℕ) → turns + suc left ≤ most → turns + 1 + left ≤ most
one_later turns left most h = omega (arith, h)

same_turns : (a b : ℕ) → a ≡ b → 0 + a ≤ b
same_turns a b same = omega (arith, same)

some_turns : 1 ≤ most_turns
unfolding most_turns
some_turns = omega arith

-- no command takes more turns than there are
paged_turns : (pages : ℕ) → pages ≤ MAX_FILE_PAGES → 12 + 3 * pages ≤ most_turns
unfolding most_turns
paged_turns pages h = omega (arith, h)

twelve : 12 ≤ most_turns
twelve = omega (arith, paged_turns 0 (omega arith))

-- g the guest, v its storage, d its disk
module _ (g : GuestState) (v : StorageView) (d : DiskView) where
  -- no mapping has more pages than a file may have
  mapping_pages-most : (slot : ℕ) → Fit g v d → mapping_pages (slot_at g.parts.maps slot) ≤ MAX_FILE_PAGES
  mapping_pages-most slot f = of (slot_at g.parts.maps slot) refl
    where
      of : (o : Option Slot) → slot_at g.parts.maps slot ≡ o → mapping_pages o ≤ MAX_FILE_PAGES
      of None e = omega arith
      of (Some mapping) e = omega (arith, (f.slots.shown slot mapping e).0)

  found_pages-most : (found : Option ℕ) → Fit g v d → found_pages g.parts.maps found ≤ MAX_FILE_PAGES
  found_pages-most None f = omega arith
  found_pages-most (Some slot) f = mapping_pages-most slot f

  pages_to_tear-most : (cpu number : ℕ) (phase : Phase) → Fit g v d → pages_to_tear g cpu number phase ≤ MAX_FILE_PAGES
  pages_to_tear-most cpu number Start f = found_pages-most (find_slot g.parts.maps (process_of g.plan cpu) number) f
  pages_to_tear-most cpu number (Teardown slot index) f = mapping_pages-most slot f
  pages_to_tear-most cpu number (Fill page) f = omega arith
  pages_to_tear-most cpu number (AtRoom page) f = omega arith
  pages_to_tear-most cpu number (AtSync index) f = omega arith
  pages_to_tear-most cpu number (SyncWrite index page) f = omega arith

  turns_of-most : (cpu : ℕ) (op : Op) → Fit g v d → turns_of g cpu op ≤ most_turns
  turns_of-most cpu (Sync file) f = paged_turns (file_pages g.plan.files file) (file_pages-most g.plan.files file f.sizes.range.files.each)
  turns_of-most cpu (Unmap number) f = paged_turns (pages_to_tear g cpu number (processor_at g cpu).phase) (pages_to_tear-most cpu number (processor_at g cpu).phase f)
  turns_of-most cpu (Read file off len) f = twelve
  turns_of-most cpu (Write file off bytes) f = twelve
  turns_of-most cpu (MapFile number file first count writable) f = twelve
  turns_of-most cpu (MapAnon number count) f = twelve
  turns_of-most cpu (Load number off len) f = twelve
  turns_of-most cpu (Store number off bytes) f = twelve
  turns_of-most cpu (Pin number index) f = twelve
  turns_of-most cpu (Unpin number index) f = twelve

-- a processor with so many turns left stops within them
stops_within : KeepsFit → (fuel left turns : ℕ) (g i : GuestState) (v w : StorageView) (d e : DiskView) (cpu : ℕ) (a : Alone) → Fit g v d → v.quiet ≡ true → cpu < length g.processors
    → Rank g v cpu left → left ≤ fuel → MayTake g cpu (turns + left) → Seen {A = GuestState × Alone} (alone_within fuel turns g cpu) v d (i, a) w e → StopsAfter turns g v d cpu a i w e
stops_within keep zero left turns g i v w d e cpu a f quiet below rank enough few run = let some : 1 ≤ left = rank_some g v cpu left rank in absurd (omega (arith, some, enough))
stops_within keep (suc fuel) zero turns g i v w d e cpu a f quiet below rank enough few run = let some : 1 ≤ 0 = rank_some g v cpu 0 rank in absurd (omega (arith, some))
stops_within keep (suc fuel) (suc left) turns g i v w d e cpu a f quiet below rank enough few run =
    let x = unbind (turn g cpu) (λ went. alone_after (λ q. alone_within fuel (turns + 1) q cpu) turns went.0 went.1) v d (i, a) w e run in
    let kept = seen-keeps (turn g cpu) v d x.answer x.storage x.disk x.first in
    let case = turn_case _ g v x.storage d x.disk cpu x.answer.0 x.answer.1 f below x.first in
    let f' = keep g v x.storage d x.disk cpu x.answer.0 x.answer.1 f below x.first in
    let summary = turn_summary g v x.storage d x.disk cpu x.answer.0 x.answer.1 case in
    let one : WentRightly g v d cpu x.answer.1 x.answer.0 x.storage x.disk =
    record { turns = x.first; cause = turn_causes g v x.storage d x.disk cpu x.answer.0 x.answer.1 f below x.first case; discards = summary.discards } in
    let size : length x.answer.0.processors ≡ length g.processors = f'.sizes.processors ∙ ap (λ q. length q.cpus) summary.plan ∙ sym f.sizes.processors in
    after_turn g x.answer.0 i v x.storage w d x.disk e cpu fuel left turns x.answer.1 a f quiet case one rank few
    (λ rank' few' run'. stops_within keep fuel left (turns + 1) x.answer.0 i x.storage w x.disk e cpu a f' (kept.quiet ∙ quiet) (rw size below) rank' (omega (arith, enough))
    (λ op command. let most = few' op command in one_later turns left (turns_of x.answer.0 cpu op) most) run')
    x.second

-- so many turns a command may take, and it takes no more
record FirstRank (g : GuestState) (v : StorageView) (cpu : ℕ) : Type 0 where
  left : ℕ
  rank : Rank g v cpu left
  enough : left ≤ most_turns
  few : MayTake g cpu (0 + left)

first_rank : (g : GuestState) (v : StorageView) (d : DiskView) (cpu : ℕ) (op : Option Op) → Fit g v d → command_of g.plan cpu (processor_at g cpu).place ≡ op → FirstRank g v cpu
first_rank g v d cpu None f none = record {
  left = 1;
  rank = no_command none (omega arith);
  enough = some_turns;
  few = λ op command. let bad : None ≡ Some op = sym none ∙ command in absurd cc;
}
first_rank g v d cpu (Some op) f command = record {
  left = turns_of g cpu op;
  rank = has_command op command (command_rank g v cpu op f.locks f.teardowns command);
  enough = turns_of-most g v d cpu op f;
  few = λ op' command'.
      let both : Some op ≡ Some op' = sym command ∙ command' in
      let same : op ≡ op' = cc in
      same_turns (turns_of g cpu op) (turns_of g cpu op') (ap (turns_of g cpu) same);
}

-- no turn moved before the first
from_start : (g i : GuestState) (v w : StorageView) (d e : DiskView) (cpu : ℕ) (a : Alone) → StopsAfter 0 g v d cpu a i w e → AloneCause g v d cpu a i w e
from_start g i v w d e cpu (AloneFinished all) (moved, is, k, few) = (moved, is ∙ (omega arith), k, few)
from_start g i v w d e cpu (AloneWaits all page owner) (moved, is, k, few) =
    let same : moved ≡ all = sym (is ∙ (omega arith)) in
    (subst (λ n. LastTurn n g v d cpu (Waits page owner) i w e) same k, few)
from_start g i v w d e cpu AloneIdle k = k

-- a processor that goes on alone over a storage that never misses stops within the turns that its command may take, and for a cause
pub alone_causes : KeepsFit → (g h : GuestState) (v w : StorageView) (d e : DiskView) (cpu : ℕ) (a : Alone) → v.quiet ≡ true → Fit g v d → cpu < length g.processors
    → Seen {A = GuestState × Alone} (alone g cpu) v d (h, a) w e → AloneCause g v d cpu a h w e
alone_causes keep g h v w d e cpu a quiet f below run =
    let k = first_rank g v d cpu (command_of g.plan cpu (processor_at g cpu).place) f refl in
    from_start g h v w d e cpu a (stops_within keep most_turns k.left 0 g h v w d e cpu a f quiet below k.rank k.enough k.few run)
