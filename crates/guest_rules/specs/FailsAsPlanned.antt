-- No more commands of a guest fail than calls are planned to.
use Rattle.std.specs.Prelude.{◌≡◌, ◌≤◌, List, []}
use Rattle.cmm_types.specs.declared.plan.GuestPlan.{GuestPlan}
use Rattle.cmm_types.specs.declared.command.Entry.{Entry}
use Rattle.cmm_flat.specs.Failures.{disk_failures, paging_failures}
use Rattle.cmm_io.specs.Counted.{distinct}
use Rattle.guest_rules.specs.FlatReplies.{HasFlatReplies}

-- at most as many commands failed for the disk, and for the pager, as different calls of it are planned to fail; so where none is, each reply is
-- the flat machine's, or tells of the want of a page
pub record FailsAsPlanned (plan : GuestPlan) (journal : List Entry) : Type 0 where
  pub by_disk : disk_failures journal ≤ distinct plan.disk_fail
  pub by_pager : paging_failures journal ≤ distinct plan.pager_fail
  pub flat : plan.disk_fail ≡ [] → plan.pager_fail ≡ [] → HasFlatReplies plan journal
