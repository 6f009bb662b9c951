-- For private clauses: members as they are put, one after another.
use Rattle.std.specs.Prelude.{ℕ, ◌==◌, Bool, true, false, List, codes}
use Rattle.serde_json.specs.Data.{Data, string, Members, no_members, put}
use Rattle.cmm_types.specs.declared.plan.GuestPlan.{GuestPlan}
use Rattle.cmm_types.specs.declared.plan.Scenario.{Scenario}
use Rattle.cmm_scenario.specs.Spelling.{event_text}
use Rattle.cmm_generate.specs.Text.{whole, list, is_empty, file_tree, cpu_tree, guest_tree}

-- the member, unless it has its default
abbrev pub put_unless : Bool → List ℕ → Data → Members → Members
put_unless true key tree members = members
put_unless false key tree members = put key tree members

abbrev pub guest_puts : GuestPlan → Members
guest_puts plan =
    put (codes "cpus") (list cpu_tree plan.cpus)
    (put_unless (is_empty plan.disk_fail) (codes "disk_fail") (list whole plan.disk_fail)
    (put (codes "files") (list file_tree plan.files)
    (put_unless (is_empty plan.pager_fail) (codes "pager_fail") (list whole plan.pager_fail)
    (put (codes "pages") (whole plan.pages)
    (put (codes "swap") (whole plan.swap) no_members)))))

abbrev pub scenario_puts : Scenario → Members
scenario_puts plan =
    put (codes "frames") (whole plan.frames)
    (put (codes "guests") (list guest_tree plan.guests)
    (put_unless (is_empty plan.pager_fail) (codes "pager_fail") (list whole plan.pager_fail)
    (put_unless (plan.reclaimers == 0) (codes "reclaimers") (whole plan.reclaimers)
    (put_unless (is_empty plan.schedule) (codes "schedule") (list (λ event. string (event_text event)) plan.schedule)
    (put (codes "version") (whole 1) no_members)))))
