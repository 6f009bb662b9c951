use Rattle.std.proofs.Common.{[], rules}
use Rattle.std.proofs.lemmas.List.Elements.{All-nil, All-cons}
use Rattle.cmm_types.specs.InRange.{FileInRange}
use Rattle.guest_pages.specs.PagesView.{popped, with_info}
use Rattle.guest_cache.specs.CacheView.{with_page}
use Rattle.guest_io.proofs.sync_tests.back.Goals as goal

pub open-requires-5-clause-ranges : goal.open-requires-5-clause-ranges
open-requires-5-clause-ranges c = All-cons FileInRange c.in_ok-file.file [] c.in_ok-file.ensures.range (All-nil FileInRange)

pub write_back-filled-requires : goal.write_back-filled-requires
unfolding popped with_info with_page
write_back-filled-requires c = record {
  writes = record {
    below = search rules;
    there = search rules;
    tag = search rules;
    block = search rules;
    used = search rules;
    none_held = search rules;
  };
}
