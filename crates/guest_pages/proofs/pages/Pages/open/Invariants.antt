use Rattle.std.proofs.Common.{◌≡◌, ◌≤◌, vec_capacity}
use Rattle.std.specs.List.{range_with_len}
use Rattle.guest_pages.proofs.pages.Pages.open.Given as goal

abbrev pub invariant-loop-page : goal.invariant-loop-page
invariant-loop-page l = (l.free.items ≡ range_with_len 0 l.page) × (l.count ≤ vec_capacity l.free)
