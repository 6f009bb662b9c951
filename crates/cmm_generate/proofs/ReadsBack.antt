-- A scenario that is written reads back.
use Rattle.std.proofs.Common.{◌≡◌, ◌∙◌, ◌≤◌, ◌*◌, ◌&&◌, ◌==◌, ℕ, suc, List, [], ◌∷◌, length, map, codes, Bool, true, false, nat_le, Some, None, Result, Ok, All, refl, sym, ap, arith}
use Rattle.std.specs.Prelude.{decimal, if◌then◌else◌}
use Rattle.std.proofs.lemmas.Bool.{le-leb, eqb-true}
use Rattle.std.proofs.lemmas.List.{length-map}
use Rattle.std.proofs.lemmas.List.Elements.{All-tail}
use Rattle.hex.specs.Hex.{IsBytes, encode_lower}
use Rattle.hex.proofs.HexLemmas.{decode_of-encode_lower}
use Rattle.serde_json.specs.Data.{Data, object, string, member, no_members}
use Rattle.serde_json.specs.View.{items_of}
use Rattle.serde_json.specs.Find.{get}
use Rattle.serde_json.proofs.OnLiterals.{serde_json_on_literals}
use Rattle.cmm_types.specs.declared.page.TheConstants.{PAGE}
use Rattle.cmm_types.specs.declared.command.Op.{Op}
use Rattle.cmm_types.specs.declared.event.Event.{Event}
use Rattle.cmm_types.specs.declared.plan.FilePlan.{FilePlan}
use Rattle.cmm_types.specs.declared.plan.CpuPlan.{CpuPlan}
use Rattle.cmm_types.specs.declared.plan.GuestPlan.{GuestPlan}
use Rattle.cmm_types.specs.declared.plan.Scenario.{Scenario}
use Rattle.cmm_types.specs.InRange.{OpInRange, FileInRange, CpuInRange, FailsInRange, GuestInRange, GuestsInRange, EventInRange, ScenarioInRange, guest_pages_of, guest_blocks_of}
use Rattle.cmm_scenario.specs.declared.fault.Kind.TheVariants.{Range}
use Rattle.cmm_scenario.specs.declared.error.ScenarioError.{ScenarioError}
use Rattle.cmm_scenario.specs.Outcome.{checked}
use Rattle.cmm_scenario.specs.Words.{within}
use Rattle.cmm_scenario.specs.Spelling.{op_text, WritesBytes, event_text}
use Rattle.cmm_scenario.specs.Faults.{here, inside}
use Rattle.cmm_scenario.specs.Tree.{whole_number, number_in, number, known_keys, required, optional, member_of, member_or, trees_of, each_from, list_of}
use Rattle.cmm_scenario.specs.Plans.{head_of, file_of, cpu_command_of, cpu_plan_of, fails_of, guest_keys, guest_of, totals_of, schedule_event_of, scenario_keys, guests_of, schedule_of, whole_plan_of}
use Rattle.cmm_scenario.proofs.Trees.{trees_of-items_of}
use Rattle.cmm_scenario.proofs.SpelledWords.{then_ok}
use Rattle.cmm_scenario.proofs.SpelledCommands.{op_of-text}
use Rattle.cmm_scenario.proofs.SpelledEvents.{event_of-text}
use Rattle.cmm_generate.specs.Text.{whole, list, is_empty, member_unless, file_tree, cpu_tree, guest_tree, scenario_tree}
use Rattle.cmm_generate.specs.Writes.{WritesGuest, WritesScenario}

-- ---- numbers, lists and members

within_back : (low high n : ℕ) → low ≤ n → n ≤ high → within low high n ≡ Ok n
unfolding within
within_back low high n least most = let a : nat_le low n ≡ true = le-leb _ _ least in let b : nat_le n high ≡ true = le-leb _ _ most in rw (a, b) refl

number_back : (low high n : ℕ) → low ≤ n → n ≤ high → number_in low high (whole n) ≡ Ok n
unfolding number_in whole_number
number_back low high n least most = within_back low high n least most

each_back : {A : Type 0} (read : Data → Result A ScenarioError) (tree : A → Data) (place : ℕ) (xs : List A) → All (λ x. read (tree x) ≡ Ok x) xs → each_from place read (map tree xs) ≡ Ok xs
unfolding each_from
each_back read tree place [] reads = refl
each_back read tree place (x ∷ xs) reads =
    then_ok _ _ x (Ok (x ∷ xs)) (ap (inside (decimal place)) (reads 0 x (omega arith)))
    (then_ok _ _ xs (Ok (x ∷ xs)) (each_back read tree (suc place) xs (All-tail (λ y. read (tree y) ≡ Ok y) x xs reads)) refl)

list_back : {A : Type 0} (low high : ℕ) (read : Data → Result A ScenarioError) (tree : A → Data) (xs : List A) → low ≤ length xs → length xs ≤ high → All (λ x. read (tree x) ≡ Ok x) xs
    → list_of low high read (list tree xs) ≡ Ok xs
unfolding list_of
list_back low high read tree xs least most reads =
    let size : length (map tree xs) ≡ length xs = length-map xs tree in
    let a : nat_le low (length (map tree xs)) ≡ true = le-leb _ _ (omega (arith, size, least)) in
    let b : nat_le (length (map tree xs)) high ≡ true = le-leb _ _ (omega (arith, size, most)) in
    let trees = trees_of (items_of (map tree xs)) in
    let fits : checked (nat_le low (length trees) && nat_le (length trees) high) trees Range ≡ Ok (map tree xs) =
    ap (λ ts. checked (nat_le low (length ts) && nat_le (length ts) high) ts Range) (trees_of-items_of (map tree xs)) ∙ rw (a, b) refl in
    then_ok _ _ (map tree xs) (Ok xs) (ap here fits) (each_back read tree 0 xs reads)

member_back : {A : Type 0} (key : List ℕ) (read : Data → Result A ScenarioError) (tree its : Data) (x : A) → get key tree ≡ Some its → read its ≡ Ok x → member_of key read tree ≡ Ok x
member_back key read tree its x there reads = ap (λ o. inside key (required read o)) there ∙ ap (inside key) reads

member_or_back : {A : Type 0} (key : List ℕ) (default : A) (read : Data → Result A ScenarioError) (tree its : Data) (x : A) (left_out : Bool)
    → get key tree ≡ (if left_out then None else Some its) → (left_out ≡ true → default ≡ x) → read its ≡ Ok x → member_or key default read tree ≡ Ok x
member_or_back key default read tree its x true there is reads = ap (λ o. inside key (optional default read o)) there ∙ ap Ok (is refl)
member_or_back key default read tree its x false there is reads = ap (λ o. inside key (optional default read o)) there ∙ ap (inside key) reads

empty_is : {A : Type 0} (xs : List A) → is_empty xs ≡ true → [] ≡ xs
empty_is [] empty = refl
empty_is (x ∷ xs) empty = let none : suc (length xs) ≡ 0 = eqb-true _ _ empty in absurd (omega (arith, none))

zero_is : (n : ℕ) → (n == 0) ≡ true → 0 ≡ n
zero_is n is = sym (eqb-true n 0 is)

-- ---- files and processors

head_back : (plan : FilePlan) → FileInRange plan → IsBytes plan.head → head_of plan.pages (string (encode_lower plan.head)) ≡ Ok plan.head
unfolding head_of
head_back plan range bytes =
    let fits : nat_le (length plan.head) (PAGE * plan.pages) ≡ true = le-leb _ _ range.head in
    rw (decode_of-encode_lower plan.head bytes, fits) refl

file_back : (plan : FilePlan) → FileInRange plan → IsBytes plan.head → file_of (file_tree plan) ≡ Ok plan
unfolding file_of known_keys serde_json_on_literals
file_back plan range bytes = rw (number_back 1 1024 plan.pages range.some range.most, head_back plan range bytes) refl

op_back : (op : Op) → OpInRange op → WritesBytes op → here (cpu_command_of (string (op_text op))) ≡ Ok op
unfolding cpu_command_of
op_back op range bytes = ap here (op_of-text op range bytes)

commands_back : (ops : List Op) → length ops ≤ 10000 → All OpInRange ops → All WritesBytes ops → list_of 0 10000 (λ d. here (cpu_command_of d)) (list (λ op. string (op_text op)) ops) ≡ Ok ops
commands_back ops few range bytes = list_back 0 10000 (λ d. here (cpu_command_of d)) (λ op. string (op_text op)) ops (omega arith) few (λ k d lt. op_back _ (range k d lt) (bytes k d lt))

cpu_back : (plan : CpuPlan) → CpuInRange plan → All WritesBytes plan.commands → cpu_plan_of (cpu_tree plan) ≡ Ok plan
unfolding cpu_plan_of known_keys serde_json_on_literals
cpu_back plan range bytes =
    rw (number_back 0 7 plan.process (omega arith) (let few = range.process in omega (arith, few)), commands_back plan.commands range.few range.commands bytes) refl

fails_back : (numbers : List ℕ) → FailsInRange numbers → fails_of (list whole numbers) ≡ Ok numbers
fails_back numbers range =
    list_back 0 1000 (number 1 4294967295) whole numbers (omega arith) range.few
    (λ k d lt. ap here (number_back 1 4294967295 _ (range.from_one k d lt) (let most = range.most k d lt in omega (arith, most))))

-- ---- guests

abbrev guest_object : (no_disk no_pager : Bool) (cpus disk files pager pages swap : Data) → Data
guest_object no_disk no_pager cpus disk files pager pages swap = object
    (member (codes "cpus") cpus
    (member_unless no_disk (codes "disk_fail") disk
    (member (codes "files") files
    (member_unless no_pager (codes "pager_fail") pager
    (member (codes "pages") pages
    (member (codes "swap") swap no_members))))))

-- what is found in the tree of a guest
record HasMembers (no_disk no_pager : Bool) (cpus disk files pager pages swap : Data) (tree : Data) : Type 0 where
  known : known_keys guest_keys tree ≡ Ok tt
  at_pages : get (codes "pages") tree ≡ Some pages
  at_swap : get (codes "swap") tree ≡ Some swap
  at_files : get (codes "files") tree ≡ Some files
  at_disk : get (codes "disk_fail") tree ≡ (if no_disk then None else Some disk)
  at_pager : get (codes "pager_fail") tree ≡ (if no_pager then None else Some pager)
  at_cpus : get (codes "cpus") tree ≡ Some cpus

has_members : (no_disk no_pager : Bool) (cpus disk files pager pages swap : Data)
    → HasMembers no_disk no_pager cpus disk files pager pages swap (guest_object no_disk no_pager cpus disk files pager pages swap)
unfolding known_keys serde_json_on_literals
has_members true true cpus disk files pager pages swap = record { known = refl; at_pages = refl; at_swap = refl; at_files = refl; at_disk = refl; at_pager = refl; at_cpus = refl }
has_members true false cpus disk files pager pages swap = record { known = refl; at_pages = refl; at_swap = refl; at_files = refl; at_disk = refl; at_pager = refl; at_cpus = refl }
has_members false true cpus disk files pager pages swap = record { known = refl; at_pages = refl; at_swap = refl; at_files = refl; at_disk = refl; at_pager = refl; at_cpus = refl }
has_members false false cpus disk files pager pages swap = record { known = refl; at_pages = refl; at_swap = refl; at_files = refl; at_disk = refl; at_pager = refl; at_cpus = refl }

files_back : (files : List FilePlan) → length files ≤ 64 → All FileInRange files → All (λ file. IsBytes file.head) files → list_of 0 64 file_of (list file_tree files) ≡ Ok files
files_back files few range bytes = list_back 0 64 file_of file_tree files (omega arith) few (λ k d lt. file_back _ (range k d lt) (bytes k d lt))

cpus_back : (cpus : List CpuPlan) → 1 ≤ length cpus → length cpus ≤ 8 → All CpuInRange cpus → All (λ cpu. All WritesBytes cpu.commands) cpus → list_of 1 8 cpu_plan_of (list cpu_tree cpus) ≡ Ok cpus
cpus_back cpus some few range bytes = list_back 1 8 cpu_plan_of cpu_tree cpus some few (λ k d lt. cpu_back _ (range k d lt) (bytes k d lt))

guest_back : (plan : GuestPlan) → GuestInRange plan → WritesGuest plan → guest_of (guest_tree plan) ≡ Ok plan
unfolding guest_of
guest_back plan range writes =
    let tree = guest_tree plan in
    let has = has_members (is_empty plan.disk_fail) (is_empty plan.pager_fail) (list cpu_tree plan.cpus) (list whole plan.disk_fail) (list file_tree plan.files) (list whole plan.pager_fail)
    (whole plan.pages) (whole plan.swap) in
    then_ok _ _ tt (Ok plan) (ap here has.known)
    (then_ok _ _ plan.pages (Ok plan) (member_back (codes "pages") (number 1 4096) tree _ plan.pages has.at_pages (ap here (number_back 1 4096 plan.pages range.some_page range.pages)))
    (then_ok _ _ plan.swap (Ok plan) (member_back (codes "swap") (number 0 65536) tree _ plan.swap has.at_swap (ap here (number_back 0 65536 plan.swap (omega arith) range.swap)))
    (then_ok _ _ plan.files (Ok plan) (member_back (codes "files") (list_of 0 64 file_of) tree _ plan.files has.at_files (files_back plan.files range.files.few range.files.each writes.0))
    (then_ok _ _ plan.disk_fail (Ok plan)
    (member_or_back (codes "disk_fail") [] fails_of tree _ plan.disk_fail (is_empty plan.disk_fail) has.at_disk (empty_is plan.disk_fail) (fails_back plan.disk_fail range.disk_fail))
    (then_ok _ _ plan.pager_fail (Ok plan)
    (member_or_back (codes "pager_fail") [] fails_of tree _ plan.pager_fail (is_empty plan.pager_fail) has.at_pager (empty_is plan.pager_fail) (fails_back plan.pager_fail range.pager_fail))
    (then_ok _ _ plan.cpus (Ok plan) (member_back (codes "cpus") (list_of 1 8 cpu_plan_of) tree _ plan.cpus has.at_cpus (cpus_back plan.cpus range.cpus.some range.cpus.few range.cpus.each writes.1))
    refl))))))

-- ---- the whole

abbrev scenario_object : (no_pager no_reclaimers no_schedule : Bool) (frames guests pager reclaimers schedule version : Data) → Data
scenario_object no_pager no_reclaimers no_schedule frames guests pager reclaimers schedule version = object
    (member (codes "frames") frames
    (member (codes "guests") guests
    (member_unless no_pager (codes "pager_fail") pager
    (member_unless no_reclaimers (codes "reclaimers") reclaimers
    (member_unless no_schedule (codes "schedule") schedule
    (member (codes "version") version no_members))))))

-- what is found in the tree of a scenario
record HasAll (no_pager no_reclaimers no_schedule : Bool) (frames guests pager reclaimers schedule version : Data) (tree : Data) : Type 0 where
  known : known_keys scenario_keys tree ≡ Ok tt
  at_version : get (codes "version") tree ≡ Some version
  at_frames : get (codes "frames") tree ≡ Some frames
  at_pager : get (codes "pager_fail") tree ≡ (if no_pager then None else Some pager)
  at_reclaimers : get (codes "reclaimers") tree ≡ (if no_reclaimers then None else Some reclaimers)
  at_guests : get (codes "guests") tree ≡ Some guests
  at_schedule : get (codes "schedule") tree ≡ (if no_schedule then None else Some schedule)

has_all : (no_pager no_reclaimers no_schedule : Bool) (frames guests pager reclaimers schedule version : Data)
    → HasAll no_pager no_reclaimers no_schedule frames guests pager reclaimers schedule version (scenario_object no_pager no_reclaimers no_schedule frames guests pager reclaimers schedule version)
unfolding known_keys serde_json_on_literals
has_all true true true f g p r s v = record { known = refl; at_version = refl; at_frames = refl; at_pager = refl; at_reclaimers = refl; at_guests = refl; at_schedule = refl }
has_all true true false f g p r s v = record { known = refl; at_version = refl; at_frames = refl; at_pager = refl; at_reclaimers = refl; at_guests = refl; at_schedule = refl }
has_all true false true f g p r s v = record { known = refl; at_version = refl; at_frames = refl; at_pager = refl; at_reclaimers = refl; at_guests = refl; at_schedule = refl }
has_all true false false f g p r s v = record { known = refl; at_version = refl; at_frames = refl; at_pager = refl; at_reclaimers = refl; at_guests = refl; at_schedule = refl }
has_all false true true f g p r s v = record { known = refl; at_version = refl; at_frames = refl; at_pager = refl; at_reclaimers = refl; at_guests = refl; at_schedule = refl }
has_all false true false f g p r s v = record { known = refl; at_version = refl; at_frames = refl; at_pager = refl; at_reclaimers = refl; at_guests = refl; at_schedule = refl }
has_all false false true f g p r s v = record { known = refl; at_version = refl; at_frames = refl; at_pager = refl; at_reclaimers = refl; at_guests = refl; at_schedule = refl }
has_all false false false f g p r s v = record { known = refl; at_version = refl; at_frames = refl; at_pager = refl; at_reclaimers = refl; at_guests = refl; at_schedule = refl }

totals_back : (guests : List GuestPlan) → GuestsInRange guests → totals_of guests ≡ Ok tt
unfolding totals_of
totals_back guests range =
    let a : nat_le (guest_pages_of guests) 65536 ≡ true = le-leb _ _ range.pages_in_all in
    let b : nat_le (guest_blocks_of guests) 65536 ≡ true = le-leb _ _ range.blocks_in_all in
    rw (a, b) refl

guests_back : (plan : Scenario) (tree : Data) → ScenarioInRange plan → WritesScenario plan → get (codes "guests") tree ≡ Some (list guest_tree plan.guests) → guests_of tree ≡ Ok plan.guests
unfolding guests_of
guests_back plan tree range writes there =
    then_ok _ _ plan.guests (Ok plan.guests)
    (member_back (codes "guests") (list_of 1 16 guest_of) tree _ plan.guests there
    (list_back 1 16 guest_of guest_tree plan.guests range.guests.some range.guests.few (λ k x lt. guest_back _ (range.guests.each k x lt) (writes k x lt))))
    (then_ok _ _ tt (Ok plan.guests) (ap (λ t. inside (codes "guests") (here t)) (totals_back plan.guests range.guests)) refl)

event_back : (guests : List GuestPlan) (event : Event) → GuestsInRange guests → EventInRange guests event → here (schedule_event_of guests (string (event_text event))) ≡ Ok event
unfolding schedule_event_of
event_back guests event range is = ap here (event_of-text guests event range is)

schedule_back : (plan : Scenario) (tree : Data) → ScenarioInRange plan
    → get (codes "schedule") tree ≡ (if is_empty plan.schedule then None else Some (list (λ event. string (event_text event)) plan.schedule)) → schedule_of plan.guests tree ≡ Ok plan.schedule
unfolding schedule_of
schedule_back plan tree range there =
    member_or_back (codes "schedule") [] (list_of 0 1000000 (λ d. here (schedule_event_of plan.guests d))) tree _ plan.schedule (is_empty plan.schedule) there (empty_is plan.schedule)
    (list_back 0 1000000 (λ d. here (schedule_event_of plan.guests d)) (λ event. string (event_text event)) plan.schedule (omega arith) range.few_events
    (λ k x lt. event_back plan.guests _ range.guests (range.schedule k x lt)))

pub plan_back : (plan : Scenario) → ScenarioInRange plan → WritesScenario plan → whole_plan_of (scenario_tree plan) ≡ Ok plan
unfolding whole_plan_of
plan_back plan range writes =
    let tree = scenario_tree plan in
    let has = has_all (is_empty plan.pager_fail) (plan.reclaimers == 0) (is_empty plan.schedule) (whole plan.frames) (list guest_tree plan.guests) (list whole plan.pager_fail) (whole plan.reclaimers)
    (list (λ event. string (event_text event)) plan.schedule) (whole 1) in
    then_ok _ _ tt (Ok plan) (ap here has.known)
    (then_ok _ _ 1 (Ok plan) (member_back (codes "version") (number 1 1) tree _ 1 has.at_version (ap here (number_back 1 1 1 (omega arith) (omega arith))))
    (then_ok _ _ plan.frames (Ok plan) (member_back (codes "frames") (number 1 65536) tree _ plan.frames has.at_frames (ap here (number_back 1 65536 plan.frames range.some_frame range.frames)))
    (then_ok _ _ plan.pager_fail (Ok plan)
    (member_or_back (codes "pager_fail") [] fails_of tree _ plan.pager_fail (is_empty plan.pager_fail) has.at_pager (empty_is plan.pager_fail) (fails_back plan.pager_fail range.pager_fail))
    (then_ok _ _ plan.reclaimers (Ok plan)
    (member_or_back (codes "reclaimers") 0 (number 0 8) tree _ plan.reclaimers (plan.reclaimers == 0) has.at_reclaimers (zero_is plan.reclaimers)
    (ap here (number_back 0 8 plan.reclaimers (omega arith) range.reclaimers)))
    (then_ok _ _ plan.guests (Ok plan) (guests_back plan tree range writes has.at_guests)
    (then_ok _ _ plan.schedule (Ok plan) (schedule_back plan tree range has.at_schedule) refl))))))
