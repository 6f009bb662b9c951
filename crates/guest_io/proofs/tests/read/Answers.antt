use Rattle.std.proofs.Common.{rules}
use Rattle.guest_io.proofs.tests.read.Goals as goal

pub read_page-answer-requires : goal.read_page-answer-requires
read_page-answer-requires c = record {
  takes = record { in_use = c.in_ok-parts.ensures; there = search rules; none_held = search rules };
  bytes = record { few = search rules; within = search rules };
}
