use Rattle.std.proofs.Common.{◌≡◌, ◌≤◌, take}
use Rattle.std.specs.List.{count_by}
use Rattle.guest_rules.specs.MakeRoom.{is_pinned}
use Rattle.guest_reclaim.proofs.look.pinned_count.Given as goal

abbrev pub invariant-loop-page : goal.invariant-loop-page
invariant-loop-page l = (l.pinned ≡ count_by is_pinned (take l.page l.parts.pages.infos)) × (l.pinned ≤ l.page)
