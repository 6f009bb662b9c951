use Rattle.std.proofs.Common.{rules, ap, ◌∷◌, [], refl, sym, ◌∙◌, ◌≡◌, List, ℕ}
use Rattle.std.specs.Prelude.{Some, Option}
use Rattle.atomic_table.specs.Table.{rest}
use Rattle.page_arena.specs.FrameView.{FrameView}
use Rattle.frame_pool.specs.Plays.{PoolSeated, naming}
use Rattle.frame_pool.specs.declared.view.Named.TheVariants.{Taken}
use Rattle.frame_pool.proofs.Moves.{lends_at}
use Rattle.frame_pool.proofs.steps.lend.Goals as goal

pub exchange-requires : goal.exchange-requires
exchange-requires c = let held : c.args.seat.now.me.1 ≡ (c.args.word, Some c.requires.seat.0) ∷ [] = ap (λ (m : PoolSeated). m.1) c.requires.seat.1 in
    (search rules, (Some c.requires.seat.0, held ∙ ap (λ (l : List (ℕ × Option FrameView)). (c.args.word, Some c.requires.seat.0) ∷ rest l) (sym held)))

pub fetch_sub-requires : goal.fetch_sub-requires
fetch_sub-requires c = (search rules, search rules, lends_at _ _ _ _ _ (naming c.args.seat.now.me.0 (Taken c.args.word)) c.args.word c.requires.wide.0 (search rules) (search rules) refl)
