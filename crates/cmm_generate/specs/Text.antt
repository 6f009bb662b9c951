-- A scenario as JSON text. An optional key is left out where its value is the default.
use Rattle.std.specs.Prelude.{ℕ, ◌==◌, Bool, true, false, List, map, length, codes}
use Rattle.hex.specs.Hex.{encode_lower}
use Rattle.serde_json.specs.Data.{Data, object, array, string, number, unsigned, Members, member, no_members}
use Rattle.serde_json.specs.View.{items_of}
use Rattle.serde_json.specs.Written.{compact_text}
use Rattle.cmm_types.specs.declared.plan.FilePlan.{FilePlan}
use Rattle.cmm_types.specs.declared.plan.CpuPlan.{CpuPlan}
use Rattle.cmm_types.specs.declared.plan.GuestPlan.{GuestPlan}
use Rattle.cmm_types.specs.declared.plan.Scenario.{Scenario}
use Rattle.cmm_scenario.specs.Spelling.{op_text, event_text}

abbrev pub whole : ℕ → Data
whole n = number (unsigned n)

abbrev pub list : {A : Type 0} → (A → Data) → List A → Data
list tree xs = array (items_of (map tree xs))

abbrev pub is_empty : {A : Type 0} → List A → Bool
is_empty xs = length xs == 0

-- the member, unless it has its default
abbrev pub member_unless : Bool → List ℕ → Data → Members → Members
member_unless true key tree members = members
member_unless false key tree members = member key tree members

abbrev pub file_tree : FilePlan → Data
file_tree plan = object (member (codes "head") (string (encode_lower plan.head)) (member (codes "pages") (whole plan.pages) no_members))

abbrev pub cpu_tree : CpuPlan → Data
cpu_tree plan = object (member (codes "commands") (list (λ op. string (op_text op)) plan.commands) (member (codes "process") (whole plan.process) no_members))

abbrev pub guest_tree : GuestPlan → Data
guest_tree plan = object
    (member (codes "cpus") (list cpu_tree plan.cpus)
    (member_unless (is_empty plan.disk_fail) (codes "disk_fail") (list whole plan.disk_fail)
    (member (codes "files") (list file_tree plan.files)
    (member_unless (is_empty plan.pager_fail) (codes "pager_fail") (list whole plan.pager_fail)
    (member (codes "pages") (whole plan.pages)
    (member (codes "swap") (whole plan.swap) no_members))))))

abbrev pub scenario_tree : Scenario → Data
scenario_tree plan = object
    (member (codes "frames") (whole plan.frames)
    (member (codes "guests") (list guest_tree plan.guests)
    (member_unless (is_empty plan.pager_fail) (codes "pager_fail") (list whole plan.pager_fail)
    (member_unless (plan.reclaimers == 0) (codes "reclaimers") (whole plan.reclaimers)
    (member_unless (is_empty plan.schedule) (codes "schedule") (list (λ event. string (event_text event)) plan.schedule)
    (member (codes "version") (whole 1) no_members))))))

-- the text without spaces, its keys in byte order
unfoldable pub scenario_text : Scenario → List ℕ
scenario_text plan = compact_text (scenario_tree plan)
