use Rattle.std.proofs.Common.{rules, refl, ap}
use Rattle.frame_pool.specs.Plays.{PoolSeated}
use Rattle.frame_pool.proofs.Moves.{joins}
use Rattle.frame_pool.proofs.steps.join.Goals as goal

pub join_seat-requires : goal.join_seat-requires
join_seat-requires c = (search rules, search rules, search rules, search rules, joins _ c.args.frames _ _ _ _ _ refl refl (ap (λ (m : PoolSeated). m.0.named) c.requires.other.1))
