use Rattle.std.proofs.Common.{rules}
use Rattle.guest_pages.specs.PagesView.{popped}
use Rattle.guest_io.proofs.tests.pin.Goals as goal

pub pin_page-answer-requires-clause-takes : goal.pin_page-answer-requires-clause-takes
unfolding popped
pin_page-answer-requires-clause-takes c = record {
  in_use = record { below = search rules; shown = search rules; not_free = search rules; tag = search rules };
  there = search rules;
  none_held = search rules;
}

pub pin_page-answer-requires-clause-pin : goal.pin_page-answer-requires-clause-pin
unfolding popped
pin_page-answer-requires-clause-pin c = record { place = c.in_ok-mapped_page.ensures.place; most = search rules; some = search rules }
