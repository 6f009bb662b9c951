use Rattle.std.proofs.Common.{length, not, position, ap, sym, ◌∙◌}
use Rattle.std.specs.List.{range_with_len}
use Rattle.page_arena.specs.FrameView.{has_number}
use Rattle.page_arena.proofs.Numbers.{none_missing, least_missing, count_in_flags}
use Rattle.page_arena.proofs.region.absent.Goals as goal

pub returns-in_err-first-clause-none : goal.returns-in_err-first-clause-none
returns-in_err-first-clause-none c =
    rw c.from_residual.ensures (none_missing (has_number c.args.frames.now) (length c.args.back.now) (ap (position not) (sym c.note_numbers.ensures) ∙ sym c.in_err-first.ensures))

pub returns-clause-least : goal.returns-clause-least
returns-clause-least c =
    least_missing (has_number c.args.frames.now) (length c.args.back.now) c.in_ok-first.first (ap (position not) (sym c.note_numbers.ensures) ∙ sym c.in_ok-first.ensures)

pub returns-clause-count : goal.returns-clause-count
returns-clause-count c =
    rw c.note_numbers.ensures at c.count_unset.ensures.count ∙ count_in_flags (has_number c.args.frames.now) (range_with_len 0 (length c.args.back.now))
