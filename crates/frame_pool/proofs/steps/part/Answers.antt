use Rattle.std.proofs.Common.{rules, ◌≡◌, ap, ◌∙◌, ℕ}
use Rattle.frame_pool.specs.Plays.{PoolSeated, paired, named_word}
use Rattle.frame_pool.specs.declared.view.PoolView.{PoolView}
use Rattle.frame_pool.specs.declared.view.Named.TheVariants.{Lent, Pair}
use Rattle.frame_pool.proofs.Moves.{pairs, compares, parts}
use Rattle.frame_pool.proofs.steps.part.Goals as goal

-- the two words that the joined seat names
both_named : (one other : ℕ) (v w : PoolView) → v.named ≡ Lent one → w.named ≡ Lent other → (paired v w).named ≡ Pair one other
both_named one other v w first second = λ j. Pair (ap named_word first j) (ap named_word second j)

pub join_seat-requires : goal.join_seat-requires
join_seat-requires c =
    let first = ap (λ (m : PoolSeated). m.0.named) c.requires.first.1 in
    let second = ap (λ (m : PoolSeated). m.0.named) c.requires.second.1 in
    (search rules, search rules, search rules, search rules, pairs _ c.args.frames _ _ _ _ c.args.one c.args.other first second)

pub load-requires : goal.load-requires
load-requires c =
    let v : PoolView = paired c.args.first.me.0 c.args.second.me.0 in
    let named = both_named _ _ c.args.first.me.0 c.args.second.me.0 (ap (λ (m : PoolSeated). m.0.named) c.requires.first.1) (ap (λ (m : PoolSeated). m.0.named) c.requires.second.1) in
    (search rules, search rules, compares _ _ _ _ v c.args.one c.args.other _ (search rules) named)

pub split_seat-second-requires : goal.split_seat-second-requires
split_seat-second-requires c =
    let v : PoolView = paired c.args.first.me.0 c.args.second.me.0 in
    let named = both_named _ _ c.args.first.me.0 c.args.second.me.0 (ap (λ (m : PoolSeated). m.0.named) c.requires.first.1) (ap (λ (m : PoolSeated). m.0.named) c.requires.second.1) in
    let same : c.load.new.seat.me.0.named ≡ v.named = search rules in
    (search rules, search rules, parts _ c.args.frames _ _ c.args.one c.args.other (same ∙ named))
