use Rattle.std.proofs.Common.{rules, refl}
use Rattle.frame_pool.proofs.Moves.{copies}
use Rattle.frame_pool.proofs.steps.copy.Goals as goal

pub split_seat-requires : goal.split_seat-requires
split_seat-requires c = (search rules, search rules, copies _ c.args.frames _ _ _ _ refl refl refl refl c.requires.unspent)
