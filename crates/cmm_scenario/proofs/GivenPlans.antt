-- A plan that is read is in all its ranges.
use Rattle.std.proofs.Common.{ℕ, ◌*◌, ◌≤◌, List, [], ◌∷◌, length, Option, Some, None, Result, Ok, Err, subst, arith}
use Rattle.std.specs.Prelude.{◌&&◌, nat_le, sum_by, codes, IfOk}
use Rattle.std.proofs.lemmas.Bool.{and_parts, leb-true}
use Rattle.hex.specs.Hex.{decode_of}
use Rattle.serde_json.specs.Data.{Data}
use Rattle.cmm_types.specs.declared.page.TheConstants.{PAGE}
use Rattle.cmm_types.specs.declared.plan.GuestPlan.{GuestPlan}
use Rattle.cmm_types.specs.declared.plan.Scenario.{Scenario}
use Rattle.cmm_types.specs.InRange.{OpInRange, EventInRange, FileInRange, CpuInRange, FailsInRange, GuestInRange, GuestsInRange, ScenarioInRange, blocks_of}
use Rattle.cmm_scenario.specs.declared.fault.Kind.TheVariants.{Range, Hex, Total}
use Rattle.cmm_scenario.specs.declared.error.ScenarioError.{ScenarioError}
use Rattle.cmm_scenario.specs.Words.{or_fault}
use Rattle.cmm_scenario.specs.Faults.{here, inside, at_root, Gives}
use Rattle.cmm_scenario.specs.Tree.{number, known_keys, member_of, member_or, list_of}
use Rattle.cmm_scenario.specs.Plans.{text_of, head_of, file_of, cpu_command_of, cpu_plan_of, fails_of, guest_keys}
use Rattle.cmm_scenario.specs.Plans.{guest_of, totals_of, guests_of, schedule_event_of, schedule_of, scenario_keys, whole_plan_of}
use Rattle.cmm_scenario.specs.Scenario.{tree_of, scenario_of_tree, scenario_of}
use Rattle.cmm_scenario.proofs.Given.{Given, given_next, given_any, given_map, given_checked}
use Rattle.cmm_scenario.proofs.GivenWords.{Between, op-given, event-given}
use Rattle.cmm_scenario.proofs.GivenTrees.{here-given, inside-given, Reads, member-given, member_or-given, number-given, IsList, list-given}

abbrev FitsPages : ℕ → List ℕ → Type 0
FitsPages pages head = length head ≤ PAGE * pages

head-given : (pages : ℕ) (tree : Data) → Given (FitsPages pages) (head_of pages tree)
unfolding head_of
head-given pages tree =
    given_any (FitsPages pages) (text_of tree) _ (λ digits. given_any (FitsPages pages) (or_fault Hex (decode_of digits)) _ (λ bytes.
    given_checked (FitsPages pages) (nat_le (length bytes) (PAGE * pages)) bytes Range (leb-true (length bytes) (PAGE * pages))))

file-given : Reads FileInRange file_of
unfolding file_of
file-given tree =
    given_any FileInRange (here (known_keys (codes "pages" ∷ codes "head" ∷ []) tree)) _ (λ _.
    given_next (Between 1 1024) FileInRange (member_of (codes "pages") (number 1 1024) tree) _ (member-given (Between 1 1024) (codes "pages") (number 1 1024) tree (number-given 1 1024)) (λ pages p.
    given_next (FitsPages pages) FileInRange (member_of (codes "head") (λ d. here (head_of pages d)) tree) _
    (member-given (FitsPages pages) (codes "head") (λ d. here (head_of pages d)) tree (λ d. here-given (FitsPages pages) (head_of pages d) (head-given pages d))) (λ head h.
    record { some = p.0; most = p.1; head = h })))

command-given : (tree : Data) → Given OpInRange (cpu_command_of tree)
unfolding cpu_command_of
command-given tree = given_any OpInRange (text_of tree) _ (λ text. op-given text)

cpu-given : Reads CpuInRange cpu_plan_of
unfolding cpu_plan_of
cpu-given tree =
    given_any CpuInRange (here (known_keys (codes "process" ∷ codes "commands" ∷ []) tree)) _ (λ _.
    given_next (Between 0 7) CpuInRange (member_of (codes "process") (number 0 7) tree) _ (member-given (Between 0 7) (codes "process") (number 0 7) tree (number-given 0 7)) (λ process p.
    given_next (IsList OpInRange 0 10000) CpuInRange (member_of (codes "commands") (list_of 0 10000 (λ d. here (cpu_command_of d))) tree) _
    (member-given (IsList OpInRange 0 10000) (codes "commands") (list_of 0 10000 (λ d. here (cpu_command_of d))) tree
    (list-given OpInRange 0 10000 (λ d. here (cpu_command_of d)) (λ d. here-given OpInRange (cpu_command_of d) (command-given d)))) (λ commands c.
    record { process = omega (arith, p.1); few = c.few; commands = c.each })))

are_fails : (numbers : List ℕ) → IsList (Between 1 4294967295) 0 1000 numbers → FailsInRange numbers
are_fails numbers h = record { few = h.few; from_one = λ k d lt. (h.each k d lt).0; most = λ k d lt. omega (arith, (h.each k d lt).1) }

fails-given : Reads FailsInRange fails_of
fails-given tree = given_map (IsList (Between 1 4294967295) 0 1000) FailsInRange (fails_of tree) are_fails
    (list-given (Between 1 4294967295) 0 1000 (number 1 4294967295) (number-given 1 4294967295) tree)

no_fails : FailsInRange []
no_fails = record { few = omega arith; from_one = λ k d lt. absurd (omega arith); most = λ k d lt. absurd (omega arith) }

guest-given : Reads GuestInRange guest_of
unfolding guest_of
guest-given tree =
    given_any GuestInRange (here (known_keys guest_keys tree)) _ (λ _.
    given_next (Between 1 4096) GuestInRange (member_of (codes "pages") (number 1 4096) tree) _ (member-given (Between 1 4096) (codes "pages") (number 1 4096) tree (number-given 1 4096)) (λ pages p.
    given_next (Between 0 65536) GuestInRange (member_of (codes "swap") (number 0 65536) tree) _ (member-given (Between 0 65536) (codes "swap") (number 0 65536) tree (number-given 0 65536)) (λ swap s.
    given_next (IsList FileInRange 0 64) GuestInRange (member_of (codes "files") (list_of 0 64 file_of) tree) _
    (member-given (IsList FileInRange 0 64) (codes "files") (list_of 0 64 file_of) tree (list-given FileInRange 0 64 file_of file-given)) (λ files f.
    given_next FailsInRange GuestInRange (member_or (codes "disk_fail") [] fails_of tree) _ (member_or-given FailsInRange (codes "disk_fail") [] fails_of tree no_fails fails-given) (λ disk_fail d.
    given_next FailsInRange GuestInRange (member_or (codes "pager_fail") [] fails_of tree) _ (member_or-given FailsInRange (codes "pager_fail") [] fails_of tree no_fails fails-given) (λ pager_fail g.
    given_next (IsList CpuInRange 1 8) GuestInRange (member_of (codes "cpus") (list_of 1 8 cpu_plan_of) tree) _
    (member-given (IsList CpuInRange 1 8) (codes "cpus") (list_of 1 8 cpu_plan_of) tree (list-given CpuInRange 1 8 cpu_plan_of cpu-given)) (λ cpus c.
    record {
      some_page = p.0;
      pages = p.1;
      swap = s.1;
      files = record { few = f.few; each = f.each };
      disk_fail = d;
      pager_fail = g;
      cpus =
          record { some = c.some; few = c.few; each = c.each };
    })))))))

abbrev InTotals : List GuestPlan → Unit {0} → Type 0
InTotals guests _ = (sum_by (λ guest. guest.pages) guests ≤ 65536) × (sum_by blocks_of guests ≤ 65536)

totals-given : (guests : List GuestPlan) → Given (InTotals guests) (totals_of guests)
unfolding totals_of
totals-given guests =
    let pages = sum_by (λ (guest : GuestPlan). guest.pages) guests in
    let blocks = sum_by blocks_of guests in
    given_checked (InTotals guests) (nat_le pages 65536 && nat_le blocks 65536) tt Total
    (λ t. (leb-true pages 65536 (and_parts (nat_le pages 65536) (nat_le blocks 65536) t).0, leb-true blocks 65536 (and_parts (nat_le pages 65536) (nat_le blocks 65536) t).1))

guests-given : Reads GuestsInRange guests_of
unfolding guests_of
guests-given tree =
    given_next (IsList GuestInRange 1 16) GuestsInRange (member_of (codes "guests") (list_of 1 16 guest_of) tree) _
    (member-given (IsList GuestInRange 1 16) (codes "guests") (list_of 1 16 guest_of) tree (list-given GuestInRange 1 16 guest_of guest-given)) (λ guests g.
    given_next (InTotals guests) GuestsInRange (inside (codes "guests") (here (totals_of guests))) _
    (inside-given (InTotals guests) (codes "guests") (here (totals_of guests)) (here-given (InTotals guests) (totals_of guests) (totals-given guests))) (λ _ t.
    record { some = g.some; few = g.few; each = g.each; pages_in_all = t.0; blocks_in_all = t.1 }))

schedule_event-given : (guests : List GuestPlan) (tree : Data) → Given (EventInRange guests) (schedule_event_of guests tree)
unfolding schedule_event_of
schedule_event-given guests tree = given_any (EventInRange guests) (text_of tree) _ (λ text. event-given guests text)

no_events : (guests : List GuestPlan) → IsList (EventInRange guests) 0 1000000 []
no_events guests = record { some = omega arith; few = omega arith; each = λ k d lt. absurd (omega arith) }

schedule-given : (guests : List GuestPlan) → Reads (IsList (EventInRange guests) 0 1000000) (schedule_of guests)
unfolding schedule_of
schedule-given guests tree =
    member_or-given (IsList (EventInRange guests) 0 1000000) (codes "schedule") [] (list_of 0 1000000 (λ d. here (schedule_event_of guests d))) tree (no_events guests)
    (list-given (EventInRange guests) 0 1000000 (λ d. here (schedule_event_of guests d)) (λ d. here-given (EventInRange guests) (schedule_event_of guests d) (schedule_event-given guests d)))

plan-given : Reads ScenarioInRange whole_plan_of
unfolding whole_plan_of
plan-given tree =
    given_any ScenarioInRange (here (known_keys scenario_keys tree)) _ (λ _.
    given_any ScenarioInRange (member_of (codes "version") (number 1 1) tree) _ (λ _.
    given_next (Between 1 65536) ScenarioInRange (member_of (codes "frames") (number 1 65536) tree) _
    (member-given (Between 1 65536) (codes "frames") (number 1 65536) tree (number-given 1 65536)) (λ frames f.
    given_next FailsInRange ScenarioInRange (member_or (codes "pager_fail") [] fails_of tree) _ (member_or-given FailsInRange (codes "pager_fail") [] fails_of tree no_fails fails-given)
    (λ pager_fail p.
    given_next (Between 0 8) ScenarioInRange (member_or (codes "reclaimers") 0 (number 0 8) tree) _
    (member_or-given (Between 0 8) (codes "reclaimers") 0 (number 0 8) tree (omega arith, omega arith) (number-given 0 8)) (λ reclaimers r.
    given_next GuestsInRange ScenarioInRange (guests_of tree) _ (guests-given tree) (λ guests g.
    given_next (IsList (EventInRange guests) 0 1000000) ScenarioInRange (schedule_of guests tree) _ (schedule-given guests tree) (λ schedule s.
    record { some_frame = f.0; frames = f.1; reclaimers = r.1; pager_fail = p; guests = g; few_events = s.few; schedule = s.each })))))))

at_root-given : {A : Type 0} (P : A → Type 0) (r : Result A ScenarioError) → Given P r → Given P (at_root r)
at_root-given P (Ok x) h = h
at_root-given P (Err e) h = tt

tree-given : (tree : Option Data) → Given ScenarioInRange (scenario_of_tree tree)
tree-given None = tt
tree-given (Some tree) = at_root-given ScenarioInRange (whole_plan_of tree) (plan-given tree)

scenario-given : (bytes : List ℕ) → Given ScenarioInRange (scenario_of bytes)
unfolding scenario_of
scenario-given bytes = tree-given (tree_of bytes)

answer-given : {A : Type 0} (P : A → Type 0) (result read : Result A ScenarioError) → Gives result read → Given P read → IfOk result P
answer-given P (Ok x) read e h = subst (λ r. Given P r) e h
answer-given P (Err e) read g h = tt

pub answer-in_range : (result : Result Scenario ScenarioError) (bytes : List ℕ) → Gives result (scenario_of bytes) → IfOk result ScenarioInRange
answer-in_range result bytes gives = answer-given ScenarioInRange result (scenario_of bytes) gives (scenario-given bytes)
