-- Members that are put in turn, and what stands of the tree of a scenario: it has no float, and its text reads back.
use Rattle.std.proofs.Common.{◌≡◌, ◌∙◌, ◌<◌, ◌≤◌, ◌+◌, ◌==◌, ◌||◌, ℕ, suc, List, [], ◌∷◌, ◌++◌, length, get_or, max, take, map, codes, Bool, true, false, refl, sym, ap, ap₂, Some, Ok, arith}
use Rattle.std.specs.Str.{IsUtf8}
use Rattle.std.proofs.lemmas.Grind.{take_at_read}
use Rattle.std.proofs.lemmas.List.{map-append}
use Rattle.serde_json.specs.Data.{Data, object, string, Members, member, no_members, put, depth, members_depth}
use Rattle.serde_json.specs.Read.{max_depth, read}
use Rattle.serde_json.specs.Written.{has_float, members_have_float, compact_text}
use Rattle.serde_json.proofs.OnLiterals.{serde_json_on_literals}
use Rattle.cmm_types.specs.declared.plan.CpuPlan.{CpuPlan}
use Rattle.cmm_types.specs.declared.plan.GuestPlan.{GuestPlan}
use Rattle.cmm_types.specs.declared.plan.Scenario.{Scenario}
use Rattle.cmm_types.specs.InRange.{ScenarioInRange}
use Rattle.cmm_scenario.specs.Spelling.{op_text, event_text}
use Rattle.cmm_scenario.specs.Faults.{at_root}
use Rattle.cmm_scenario.specs.Scenario.{scenario_of}
use Rattle.cmm_scenario.proofs.Meanings.{scenario_of-tree}
use Rattle.cmm_generate.specs.Writes.{WritesScenario}
use Rattle.cmm_generate.proofs.ReadsBack.{plan_back}
use Rattle.cmm_generate.specs.Text.{whole, list, is_empty, member_unless, file_tree, cpu_tree, guest_tree, scenario_tree, scenario_text}
use Rattle.cmm_generate.specs.Puts.{put_unless, guest_puts, scenario_puts}

put_guest : (d p : Bool) (cpus disk files pager pages swap : Data)
    → put (codes "cpus") cpus (put_unless d (codes "disk_fail") disk (put (codes "files") files
    (put_unless p (codes "pager_fail") pager (put (codes "pages") pages (put (codes "swap") swap no_members)))))
    ≡ member (codes "cpus") cpus (member_unless d (codes "disk_fail") disk (member (codes "files") files
    (member_unless p (codes "pager_fail") pager (member (codes "pages") pages (member (codes "swap") swap no_members)))))
unfolding serde_json_on_literals
put_guest true true cpus disk files pager pages swap = refl
put_guest true false cpus disk files pager pages swap = refl
put_guest false true cpus disk files pager pages swap = refl
put_guest false false cpus disk files pager pages swap = refl

pub guest_value : (plan : GuestPlan) → object (guest_puts plan) ≡ guest_tree plan
guest_value plan =
    ap object (put_guest (is_empty plan.disk_fail) (is_empty plan.pager_fail) (list cpu_tree plan.cpus) (list whole plan.disk_fail) (list file_tree plan.files)
    (list whole plan.pager_fail) (whole plan.pages) (whole plan.swap))

put_scenario : (p r s : Bool) (frames guests pager reclaimers schedule version : Data)
    → put (codes "frames") frames (put (codes "guests") guests (put_unless p (codes "pager_fail") pager
    (put_unless r (codes "reclaimers") reclaimers (put_unless s (codes "schedule") schedule (put (codes "version") version no_members)))))
    ≡ member (codes "frames") frames (member (codes "guests") guests (member_unless p (codes "pager_fail") pager
    (member_unless r (codes "reclaimers") reclaimers (member_unless s (codes "schedule") schedule (member (codes "version") version no_members)))))
unfolding serde_json_on_literals
put_scenario true true true frames guests pager reclaimers schedule version = refl
put_scenario true true false frames guests pager reclaimers schedule version = refl
put_scenario true false true frames guests pager reclaimers schedule version = refl
put_scenario true false false frames guests pager reclaimers schedule version = refl
put_scenario false true true frames guests pager reclaimers schedule version = refl
put_scenario false true false frames guests pager reclaimers schedule version = refl
put_scenario false false true frames guests pager reclaimers schedule version = refl
put_scenario false false false frames guests pager reclaimers schedule version = refl

pub scenario_value : (plan : Scenario) → object (scenario_puts plan) ≡ scenario_tree plan
scenario_value plan =
    ap object (put_scenario (is_empty plan.pager_fail) (plan.reclaimers == 0) (is_empty plan.schedule) (whole plan.frames) (list guest_tree plan.guests) (list whole plan.pager_fail)
    (whole plan.reclaimers) (list (λ event. string (event_text event)) plan.schedule) (whole 1))

-- ---- no floats

neither : (a b : Bool) → a ≡ false → b ≡ false → (a || b) ≡ false
neither a b e f = rw (e, f) refl

list_free : {A : Type 0} (tree : A → Data) → ((x : A) → has_float (tree x) ≡ false) → (xs : List A) → has_float (list tree xs) ≡ false
list_free tree each [] = refl
list_free tree each (x ∷ xs) = neither _ _ (each x) (list_free tree each xs)

unless_free : (b : Bool) (key : List ℕ) (tree : Data) (others : Members) → has_float tree ≡ false → members_have_float others ≡ false → members_have_float (member_unless b key tree others) ≡ false
unless_free true key tree others e f = f
unless_free false key tree others e f = neither _ _ e f

numbers_free : (numbers : List ℕ) → has_float (list whole numbers) ≡ false
numbers_free = list_free whole (λ n. refl)

cpu_free : (plan : CpuPlan) → has_float (cpu_tree plan) ≡ false
cpu_free plan = neither _ _ (list_free (λ op. string (op_text op)) (λ op. refl) plan.commands) refl

guest_free : (plan : GuestPlan) → has_float (guest_tree plan) ≡ false
guest_free plan =
    neither _ _ (list_free cpu_tree cpu_free plan.cpus)
    (unless_free (is_empty plan.disk_fail) (codes "disk_fail") _ _ (numbers_free plan.disk_fail)
    (neither _ _ (list_free file_tree (λ file. refl) plan.files)
    (unless_free (is_empty plan.pager_fail) (codes "pager_fail") _ _ (numbers_free plan.pager_fail) refl)))

pub scenario_free : (plan : Scenario) → has_float (scenario_tree plan) ≡ false
scenario_free plan =
    neither _ _ refl
    (neither _ _ (list_free guest_tree guest_free plan.guests)
    (unless_free (is_empty plan.pager_fail) (codes "pager_fail") _ _ (numbers_free plan.pager_fail)
    (unless_free (plan.reclaimers == 0) (codes "reclaimers") _ _ refl
    (unless_free (is_empty plan.schedule) (codes "schedule") _ _ (list_free (λ event. string (event_text event)) (λ event. refl) plan.schedule) refl))))

-- ---- how deep a tree is

list_depth : {A : Type 0} (tree : A → Data) (n : ℕ) → ((x : A) → depth (tree x) ≤ n) → (xs : List A) → depth (list tree xs) ≤ suc n
list_depth tree n each [] = omega arith
list_depth tree n each (x ∷ xs) = let first = each x in let rest = list_depth tree n each xs in omega (arith, first, rest)

unless_depth : (n : ℕ) (b : Bool) (key : List ℕ) (tree : Data) (others : Members) → depth tree ≤ n → members_depth others ≤ n → members_depth (member_unless b key tree others) ≤ n
unless_depth n true key tree others few rest = rest
unless_depth n false key tree others few rest = omega (arith, few, rest)

both_depth : (n a b : ℕ) → a ≤ n → b ≤ n → max a b ≤ n
both_depth n a b few rest = omega (arith, few, rest)

deeper : (n a : ℕ) → a ≤ n → suc a ≤ suc n
deeper n a few = omega (arith, few)

numbers_depth : (n : ℕ) (numbers : List ℕ) → depth (list whole numbers) ≤ suc n
numbers_depth n = list_depth whole n (λ k. omega arith)

cpu_depth : (plan : CpuPlan) → depth (cpu_tree plan) ≤ 2
cpu_depth plan = let few = list_depth (λ op. string (op_text op)) 0 (λ op. omega arith) plan.commands in omega (arith, few)

guest_depth : (plan : GuestPlan) → depth (guest_tree plan) ≤ 4
guest_depth plan =
    deeper 3 _ (both_depth 3 _ _ (list_depth cpu_tree 2 cpu_depth plan.cpus)
    (unless_depth 3 (is_empty plan.disk_fail) (codes "disk_fail") _ _ (numbers_depth 2 plan.disk_fail)
    (both_depth 3 _ _ (list_depth file_tree 2 (λ file. omega arith) plan.files)
    (unless_depth 3 (is_empty plan.pager_fail) (codes "pager_fail") _ _ (numbers_depth 2 plan.pager_fail) (omega arith)))))

scenario_depth : (plan : Scenario) → depth (scenario_tree plan) ≤ 6
scenario_depth plan =
    deeper 5 _ (both_depth 5 _ _ (omega arith)
    (both_depth 5 _ _ (list_depth guest_tree 4 guest_depth plan.guests)
    (unless_depth 5 (is_empty plan.pager_fail) (codes "pager_fail") _ _ (numbers_depth 4 plan.pager_fail)
    (unless_depth 5 (plan.reclaimers == 0) (codes "reclaimers") _ _ (omega arith)
    (unless_depth 5 (is_empty plan.schedule) (codes "schedule") _ _ (list_depth (λ event. string (event_text event)) 4 (λ event. omega arith) plan.schedule) (omega arith))))))

-- ---- a loop that makes a list

pub one_more : {X Y Z : Type 0} (f : X → Z) (t : Y → Z) (done : List X) (x : X) (ys : List Y) (i : ℕ) (y : Y) → i < length ys → map f done ≡ map t (take i ys) → f x ≡ t (get_or ys i y)
    → map f (done ++ x ∷ []) ≡ map t (take (i + 1) ys)
one_more {X} {Y} {Z} f t done x ys i y lt is at =
    map-append f done (x ∷ []) ∙ ap₂ (λ (a b : List Z). a ++ b) is (ap (λ z. z ∷ []) at) ∙ sym (map-append t (take i ys) (get_or ys i y ∷ [])) ∙ ap (map t) (sym (take_at_read ys i y lt).1)

-- the bytes of a value are the text of the scenario that it stands for
pub text_is : (tree : Data) (plan : Scenario) (bytes : List ℕ) → tree ≡ scenario_tree plan → (has_float tree ≡ false → bytes ≡ compact_text tree) → bytes ≡ scenario_text plan
unfolding scenario_text
text_is tree plan bytes is text = text (ap has_float is ∙ scenario_free plan) ∙ ap compact_text is

-- and they read back
pub reads_back : (tree : Data) (plan : Scenario) (bytes : List ℕ) → tree ≡ scenario_tree plan → IsUtf8 bytes → (depth tree ≤ max_depth → read bytes ≡ Some tree)
    → ScenarioInRange plan → WritesScenario plan → scenario_of bytes ≡ Ok plan
reads_back tree plan bytes is utf8 reads range writes =
    let few : depth tree ≤ max_depth = omega (arith, ap depth is, scenario_depth plan) in
    scenario_of-tree bytes (scenario_tree plan) utf8 (reads few ∙ ap Some is) ∙ ap at_root (plan_back plan range writes)
