use Rattle.std.proofs.Common.{rules}
use Rattle.guest_io.proofs.tests.write.Goals as goal

pub write_page-answer-requires : goal.write_page-answer-requires
write_page-answer-requires c = record {
  takes = record { in_use = c.in_ok-parts.ensures; there = search rules; none_held = search rules };
  within = search rules;
}
