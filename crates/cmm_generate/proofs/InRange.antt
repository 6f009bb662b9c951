-- A generated scenario is within all ranges, and what it writes is bytes.
use Rattle.std.proofs.Common.{◌≡◌, ◌∙◌, ◌<◌, ◌≤◌, ◌+◌, ◌-◌, ◌*◌, ◌%◌, ◌&&◌, ◌==◌, ℕ, zero, suc, List, [], ◌∷◌, length, Bool, true, false, nat_lt, nat_le, All, refl, sym, arith, inl, inr, true≢false}
use Rattle.std.specs.Prelude.{if◌then◌else◌}
use Rattle.std.proofs.Math.Nat.{mod-lt}
use Rattle.std.proofs.lemmas.List.{length-append}
use Rattle.std.proofs.lemmas.List.Elements.{All-nil, All-cons, All-append, All-head, All-tail}
use Rattle.std.proofs.lemmas.Bool.{and_parts, and_from, cases_lt, eqb-true, eq-eqb}
use Rattle.hex.specs.Hex.{IsBytes}
use Rattle.cmm_types.specs.declared.command.Op.{Op}
use Rattle.cmm_types.specs.declared.command.Op.TheVariants.{MapFile, MapAnon}
use Rattle.cmm_types.specs.declared.page.Move.TheVariants.{Discard}
use Rattle.cmm_types.specs.declared.event.Event.{Event}
use Rattle.cmm_types.specs.declared.event.Event.TheVariants.{Host, Reclaim}
use Rattle.cmm_types.specs.declared.plan.FilePlan.{FilePlan}
use Rattle.cmm_types.specs.declared.plan.CpuPlan.{CpuPlan}
use Rattle.cmm_types.specs.declared.plan.GuestPlan.{GuestPlan}
use Rattle.cmm_types.specs.InRange.{IsPiece, OpInRange, FileInRange, CpuInRange, FailsInRange, GuestInRange, GuestHas, EventInRange, GuestsInRange, ScenarioInRange, guest_blocks_of}
use Rattle.cmm_scenario.specs.Spelling.{WritesBytes}
use Rattle.cmm_generate.specs.Writes.{WritesGuest, WritesScenario}
use Rattle.cmm_generate.specs.Draws.{Draw, give, below, in_turn, single, times}
use Rattle.cmm_generate.specs.Generated.{file, files, place, count, some_bytes, read, write, sync, load, store, of_kind, command, commands, guest_in_turn}
use Rattle.cmm_generate.specs.Generated.{cpu_in_turn, commands_of, discards_after, reclaims_after, events, schedule, cpu_plan, guest_plan, plan, generated}

below_limit : (limit number : ℕ) → 0 < limit → (below limit number).value < limit
unfolding below
below_limit limit number some = mod-lt _ some

in_turn_all : {A : Type 0} (P : A → Type 0) (draw : ℕ → Draw (List A)) → ((j number : ℕ) → All P (draw j number).value) → (count number : ℕ) → All P (in_turn draw count number).value
unfolding in_turn
in_turn_all P draw each zero number = All-nil P
in_turn_all P draw each (suc j) number = All-append P _ _ (in_turn_all P draw each j number) (each j (in_turn draw j number).number)

singles_all : {A : Type 0} (P : A → Type 0) (draw : ℕ → Draw A) → ((j number : ℕ) → P (draw j number).value) → (count number : ℕ) → All P (in_turn (λ j. single (draw j)) count number).value
singles_all P draw each = in_turn_all P (λ j. single (draw j)) (λ j number. All-cons P _ [] (each j number) (All-nil P))

pub singles_length : {A : Type 0} (draw : ℕ → Draw A) (count number : ℕ) → length (in_turn (λ j. single (draw j)) count number).value ≡ count
unfolding in_turn
singles_length draw zero number = refl
singles_length draw (suc j) number =
    let before = singles_length draw j number in
    omega (arith, length-append (in_turn (λ k. single (draw k)) j number).value ((draw j (in_turn (λ k. single (draw k)) j number).number).value ∷ []), before)

are_bytes : (bytes : List ℕ) → All (λ b. b < 256) bytes → IsBytes bytes
are_bytes [] each i = omega arith
are_bytes (b ∷ bytes) each zero = each 0 0 (omega arith)
are_bytes (b ∷ bytes) each (suc i) = are_bytes bytes (λ k d lt. each (suc k) d (omega (arith, lt))) i

times_bytes : (count number : ℕ) → IsBytes (times count (below 256) number).value
times_bytes count number = are_bytes _ (singles_all (λ b. b < 256) (λ j. below 256) (λ j n. below_limit 256 n (omega arith)) count number)

-- ---- commands

-- a command in range, whose bytes are bytes
abbrev pub IsWritten : Op → Type 0
IsWritten op = OpInRange op × WritesBytes op

piece : (page off len : ℕ) → page < 8 → off < 4033 → 1 ≤ len → len ≤ 64 → IsPiece (4096 * page + off) len
piece page off len p o some most = record { start = omega arith; some = some; most = most; within_page = omega arith }

place_piece : (number len : ℕ) → 1 ≤ len → len ≤ 64 → IsPiece (place number).value len
unfolding place
place_piece number len some most = piece _ _ len (below_limit 8 number (omega arith)) (below_limit 4033 _ (omega arith)) some most

counted : (number : ℕ) → (1 ≤ (count number).value) × ((count number).value ≤ 64)
unfolding count
counted number = let few = below_limit 64 number (omega arith) in (omega arith, omega (arith, few))

some_few : (number : ℕ) → (1 ≤ length (some_bytes number).value) × (length (some_bytes number).value ≤ 64)
unfolding some_bytes
some_few number =
    let few = below_limit 8 number (omega arith) in
    let size = singles_length (λ j. below 256) (1 + (below 8 number).value) (below 8 number).number in
    (omega (arith, size), omega (arith, size, few))

some_are_bytes : (number : ℕ) → IsBytes (some_bytes number).value
unfolding some_bytes
some_are_bytes number = times_bytes (1 + (below 8 number).value) (below 8 number).number

read_written : (number : ℕ) → IsWritten (read number).value
unfolding read
read_written number =
    let few = below_limit 5 number (omega arith) in
    let len = counted (place (below 5 number).number).number in
    ((omega (arith, few), place_piece (below 5 number).number _ len.0 len.1), tt)

write_written : (number : ℕ) → IsWritten (write number).value
unfolding write
write_written number =
    let few = below_limit 5 number (omega arith) in
    let len = some_few (place (below 5 number).number).number in
    ((omega (arith, few), place_piece (below 5 number).number _ len.0 len.1), some_are_bytes (place (below 5 number).number).number)

sync_written : (number : ℕ) → IsWritten (sync number).value
unfolding sync
sync_written number = let few = below_limit 5 number (omega arith) in (omega (arith, few), tt)

load_written : (map number : ℕ) → map < 2 → IsWritten (load map number).value
unfolding load
load_written map number two = let len = counted (place number).number in ((omega arith, place_piece number _ len.0 len.1), tt)

store_written : (map number : ℕ) → map < 2 → IsWritten (store map number).value
unfolding store
store_written map number two = let len = some_few (place number).number in ((omega arith, place_piece number _ len.0 len.1), some_are_bytes (place number).number)

-- one of two draws
either : {A : Type 0} (P : A → Type 0) (b : Bool) (x y : Draw A) → ((number : ℕ) → P (x number).value) → ((number : ℕ) → P (y number).value) → (number : ℕ) → P ((if b then x else y) number).value
either P true x y p q number = p number
either P false x y p q number = q number

kind_written : (kind number : ℕ) → IsWritten (of_kind kind number).value
unfolding of_kind
kind_written kind =
    either IsWritten (nat_le kind 1) read _ read_written
    (either IsWritten (kind == 2) write _ write_written
    (either IsWritten (kind == 3) sync _ sync_written
    (either IsWritten (nat_le kind 5) (load 0) _ (λ n. load_written 0 n (omega arith))
    (either IsWritten (kind == 6) (store 0) _ (λ n. store_written 0 n (omega arith))
    (either IsWritten (kind == 7) (load 1) (store 1) (λ n. load_written 1 n (omega arith)) (λ n. store_written 1 n (omega arith)))))))

command_written : (j number : ℕ) → IsWritten (command j number).value
unfolding command
command_written j =
    either IsWritten (nat_lt j 4) (give (MapFile 0 (j % 2) 0 8 true)) _ (λ n. ((omega arith, omega arith, record { start = omega arith; some = omega arith; most = omega arith }), tt))
    (either IsWritten (nat_lt j 8) (give (MapAnon 1 8)) _ (λ n. ((omega arith, record { start = omega arith; some = omega arith; most = omega arith }), tt))
    (λ n. kind_written (below 10 n).value (below 10 n).number))

commands_written : (size number : ℕ) → All IsWritten (commands size number).value
commands_written size number = singles_all IsWritten command command_written size number

-- ---- a processor's commands

keep_if : (P : Op → Type 0) (b : Bool) (op : Op) (rest : List Op) → P op → All P rest → All P (if b then op ∷ rest else rest)
keep_if P true op rest p each = All-cons P op rest p each
keep_if P false op rest p each = each

chosen_all : (guest cpu : ℕ) (P : Op → Type 0) (j : ℕ) (ops : List Op) → All P ops → All P (commands_of guest cpu j ops)
chosen_all guest cpu P j [] each = All-nil P
chosen_all guest cpu P j (op ∷ ops) each =
    keep_if P (guest_in_turn j == guest && cpu_in_turn j == cpu) op (commands_of guest cpu (suc j) ops) (All-head P op ops each) (chosen_all guest cpu P (suc j) ops (All-tail P op ops each))

-- one command more, where the rest has few
one_more_command : (guest cpu j wait : ℕ) (op : Op) (ops : List Op) → guest < 2 → cpu < 2 → wait < 4 → (j + wait) % 4 ≡ 2 * guest + cpu
    → ((next : ℕ) → next < 4 → (suc j + next) % 4 ≡ 2 * guest + cpu → 4 * length (commands_of guest cpu (suc j) ops) + next ≤ length ops + 3)
    → 4 * length (commands_of guest cpu j (op ∷ ops)) + wait ≤ length (op ∷ ops) + 3
one_more_command guest cpu j wait op ops g c w at few = go (guest_in_turn j == guest && cpu_in_turn j == cpu) refl
  where
    go : (b : Bool) → (guest_in_turn j == guest && cpu_in_turn j == cpu) ≡ b
        → 4 * length (if b then op ∷ commands_of guest cpu (suc j) ops else commands_of guest cpu (suc j) ops) + wait ≤ length (op ∷ ops) + 3
    go true its =
        let parts = and_parts (guest_in_turn j == guest) (cpu_in_turn j == cpu) its in
        let is_guest = eqb-true _ _ parts.0 in
        let is_cpu = eqb-true _ _ parts.1 in
        let rest = few 3 (omega arith) (omega (arith, is_guest, is_cpu, g, c)) in
        omega (arith, rest, at, is_guest, is_cpu, g, c, w)
    go false others =
        elim (cases_lt 0 wait) [
          | inl later ↦
              let rest = few (wait - 1) (omega (arith, w, later)) (omega (arith, at, later)) in
              omega (arith, rest, later)
          | inr now ↦
              let is_guest : (guest_in_turn j == guest) ≡ true = eq-eqb _ _ (omega (arith, at, now, g, c)) in
              let is_cpu : (cpu_in_turn j == cpu) ≡ true = eq-eqb _ _ (omega (arith, at, now, g, c)) in
              absurd (true≢false (sym (and_from (guest_in_turn j == guest) (cpu_in_turn j == cpu) is_guest is_cpu) ∙ others))
        ]

-- the processor's next command is `wait` commands on
chosen_few : (guest cpu j wait : ℕ) (ops : List Op) → guest < 2 → cpu < 2 → wait < 4 → (j + wait) % 4 ≡ 2 * guest + cpu → 4 * length (commands_of guest cpu j ops) + wait ≤ length ops + 3
chosen_few guest cpu j wait [] g c w at = omega arith
chosen_few guest cpu j wait (op ∷ ops) g c w at = one_more_command guest cpu j wait op ops g c w at (λ next small place. chosen_few guest cpu (suc j) next ops g c small place)

cpu_in_range : (guest cpu : ℕ) (ops : List Op) → guest < 2 → cpu < 2 → length ops ≤ 20000 → All IsWritten ops → CpuInRange (cpu_plan guest cpu ops)
cpu_in_range guest cpu ops g c few each = record {
  process = omega arith;
  few = let bound = chosen_few guest cpu 0 (2 * guest + cpu) ops g c (omega arith) (omega arith) in omega (arith, bound);
  commands = λ k d lt. (chosen_all guest cpu IsWritten 0 ops each k d lt).0;
}

-- ---- guests

file_in_range : (number : ℕ) → FileInRange (file number).value × IsBytes (file number).value.head
unfolding file
file_in_range number = (
  record { some = omega arith; most = omega arith; head = let size = singles_length (λ j. below 256) 16 number in omega (arith, size) },
  times_bytes 16 number,
)

no_fails : FailsInRange []
no_fails = record { few = omega arith; from_one = All-nil _; most = All-nil _ }

both_of : {A : Type 0} (P : A → Type 0) (x y : A) → P x → P y → All P (x ∷ y ∷ [])
both_of P x y p q = All-cons P x (y ∷ []) p (All-cons P y [] q (All-nil P))

guest_in_range : (guest number : ℕ) (ops : List Op) → guest < 2 → length ops ≤ 20000 → All IsWritten ops → GuestInRange (guest_plan guest (files number).value ops)
guest_in_range guest number ops g few each = record {
  some_page = omega arith;
  pages = omega arith;
  swap = omega arith;
  files = record { few = let size = singles_length (λ j. file) 5 number in omega (arith, size); each = singles_all FileInRange (λ j. file) (λ j n. (file_in_range n).0) 5 number };
  disk_fail = no_fails;
  pager_fail = no_fails;
  cpus = record { some = omega arith; few = omega arith; each = both_of CpuInRange _ _ (cpu_in_range guest 0 ops g (omega arith) few each) (cpu_in_range guest 1 ops g (omega arith) few each) };
}

guest_writes : (guest number : ℕ) (ops : List Op) → All IsWritten ops → WritesGuest (guest_plan guest (files number).value ops)
guest_writes guest number ops each = (
  singles_all (λ (f : FilePlan). IsBytes f.head) (λ j. file) (λ j n. (file_in_range n).1) 5 number,
  both_of (λ (plan : CpuPlan). All WritesBytes plan.commands) _ _ (λ k d lt. (chosen_all guest 0 IsWritten 0 ops each k d lt).1) (λ k d lt. (chosen_all guest 1 IsWritten 0 ops each k d lt).1),
)

all_blocks : (first second : ℕ) (ops : List Op) → guest_blocks_of (guest_plan 0 (files first).value ops ∷ guest_plan 1 (files second).value ops ∷ []) ≡ 208
unfolding in_turn file
all_blocks first second ops = refl

guests_in_range : (first second : ℕ) (ops : List Op) → length ops ≤ 20000 → All IsWritten ops → GuestsInRange (guest_plan 0 (files first).value ops ∷ guest_plan 1 (files second).value ops ∷ [])
guests_in_range first second ops few each = record {
  some = omega arith;
  few = omega arith;
  each = both_of GuestInRange _ _ (guest_in_range 0 first ops (omega arith) few each) (guest_in_range 1 second ops (omega arith) few each);
  pages_in_all = omega arith;
  blocks_in_all = let blocks = all_blocks first second ops in omega (arith, blocks);
}

-- ---- the schedule

has_guest : (one two : GuestPlan) (Has : GuestPlan → Type 0) (guest : ℕ) → guest < 2 → Has one → Has two → GuestHas (one ∷ two ∷ []) guest Has
has_guest one two Has zero lt h k = (one, refl, h)
has_guest one two Has (suc zero) lt h k = (two, refl, k)
has_guest one two Has (suc (suc guest)) lt h k = absurd (omega (arith, lt))

module _ (one two : GuestPlan) (cpus_one : length one.cpus ≡ 2) (cpus_two : length two.cpus ≡ 2) (pages_one : one.pages ≡ 64) (pages_two : two.pages ≡ 64) where
  abbrev Names : Event → Type 0
  Names = EventInRange (one ∷ two ∷ [])

  discards_in_range : (j number : ℕ) → All Names (discards_after j number).value
  unfolding discards_after
  discards_in_range j = either (All Names) (j % 8 == 7) (λ n. _) _ host (λ n. All-nil Names)
    where
      host : (n : ℕ) → All Names (Host (below 2 n).value (below 64 (below 2 n).number).value Discard ∷ [])
      host n =
          let few = below_limit 64 (below 2 n).number (omega arith) in
          All-cons Names _ []
          (has_guest one two (λ plan. (below 64 (below 2 n).number).value < plan.pages) _ (below_limit 2 n (omega arith)) (omega (arith, few, pages_one)) (omega (arith, few, pages_two)))
          (All-nil Names)

  reclaims_in_range : (j : ℕ) → All Names (reclaims_after j)
  reclaims_in_range j = go (j % 16 == 15)
    where
      go : (b : Bool) → All Names (if b then Reclaim 4 ∷ [] else [])
      go true = All-cons Names (Reclaim 4) [] (omega arith, omega arith) (All-nil Names)
      go false = All-nil Names

  events_in_range : (j number : ℕ) → All Names (events j number).value
  unfolding events
  events_in_range j number =
      All-cons Names _ _
      (has_guest one two (λ plan. cpu_in_turn j < length plan.cpus) (guest_in_turn j) (omega arith) (omega (arith, cpus_one)) (omega (arith, cpus_two)))
      (All-append Names (discards_after j number).value (reclaims_after j) (discards_in_range j number) (reclaims_in_range j))

  schedule_in_range : (size number : ℕ) → All Names (schedule size number).value
  schedule_in_range size number = in_turn_all Names events events_in_range size number

discards_few : (j number : ℕ) → length (discards_after j number).value ≤ 1
unfolding discards_after
discards_few j = either (λ (es : List Event). length es ≤ 1) (j % 8 == 7) (λ n. _) _ (λ n. omega arith) (λ n. omega arith)

reclaims_few : (j : ℕ) → length (reclaims_after j) ≤ 1
reclaims_few j = go (j % 16 == 15)
  where
    go : (b : Bool) → length (if b then Reclaim 4 ∷ [] else []) ≤ 1
    go true = omega arith
    go false = omega arith

events_few : (j number : ℕ) → length (events j number).value ≤ 3
unfolding events
events_few j number = omega (arith, length-append (discards_after j number).value (reclaims_after j), discards_few j number, reclaims_few j)

schedule_few : (size number : ℕ) → length (schedule size number).value ≤ 3 * size
unfolding in_turn
schedule_few zero number = omega arith
schedule_few (suc j) number =
    let before = schedule_few j number in
    let its = events_few j (schedule j number).number in
    omega (arith, length-append (schedule j number).value (events j (schedule j number).number).value, before, its)

-- ---- the whole

pub generated_in_range : (start size : ℕ) → size ≤ 20000 → ScenarioInRange (generated start size)
unfolding generated plan
generated_in_range start size few =
    let first = start in
    let second = (files first).number in
    let from = (files second).number in
    let ops = (commands size from).value in
    let size_is = singles_length command size from in
    let fits : length ops ≤ 20000 = omega (arith, size_is) in
    let each = commands_written size from in
    record {
      some_frame = omega arith;
      frames = omega arith;
      reclaimers = omega arith;
      pager_fail = no_fails;
      guests = guests_in_range first second ops fits each;
      few_events = let bound = schedule_few size (commands size from).number in omega (arith, bound);
      schedule = schedule_in_range (guest_plan 0 (files first).value ops) (guest_plan 1 (files second).value ops) refl refl refl refl size (commands size from).number;
    }

pub generated_writes : (start size : ℕ) → WritesScenario (generated start size)
unfolding generated plan
generated_writes start size =
    let second = (files start).number in
    let from = (files second).number in
    let ops = (commands size from).value in
    let each = commands_written size from in
    both_of WritesGuest _ _ (guest_writes 0 start ops each) (guest_writes 1 second ops each)
