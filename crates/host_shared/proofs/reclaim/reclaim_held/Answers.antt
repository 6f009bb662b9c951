use Rattle.std.proofs.Common.{rules, refl, ◌∙◌, Some, None}
use Rattle.cmm_types.specs.declared.page.Move.TheVariants.{Discard, Preserve, Age}
use Rattle.host_shared.specs.Bodies.{lent_body}
use Rattle.host_shared.specs.declared.reclaim.Outcome.TheVariants.{Discarded, Preserved, Aged, Left, Paging}
use Rattle.host_shared.proofs.Moving.{gave_back, not_discard}
use Rattle.host_shared.proofs.reclaim.reclaim_held.Goals as goal

pub returns-then-ne-clause-outcome : goal.returns-then-ne-clause-outcome
returns-then-ne-clause-outcome g c v claimed =
    gave_back (Left _) c.args.page c.args.urgent v c.args.seat.now.view c.release.new.self.view c.args.word (lent_body c.args.body) None _ _ claimed c.release.ensures.view c.requires.free
    (search rules, c.requires.free, search rules, refl)

pub returns-then-is_spared-clause-outcome : goal.returns-then-is_spared-clause-outcome
returns-then-is_spared-clause-outcome g c v claimed =
    gave_back Aged c.args.page c.args.urgent v c.args.seat.now.view c.release-then-is_spared.new.self.view c.args.word (lent_body c.args.body) (Some Age) _ _ claimed
    c.release-then-is_spared.ensures.view c.requires.free (c.requires.free, search rules, search rules, refl)

pub returns-then-eq-clause-outcome : goal.returns-then-eq-clause-outcome
returns-then-eq-clause-outcome g c v claimed =
    gave_back Discarded c.args.page c.args.urgent v c.args.seat.now.view c.release-then-eq.new.self.view c.args.word (lent_body c.args.body) (Some Discard) _ _ claimed
    c.release-then-eq.ensures.view c.requires.free (record { free = c.requires.free; resident = search rules; not_spared = search rules; chosen = search rules }, refl)

pub returns-in-Ok-clause-outcome : goal.returns-in-Ok-clause-outcome
returns-in-Ok-clause-outcome g c v claimed =
    gave_back Preserved c.args.page c.args.urgent v c.args.seat.now.view c.release-in-Ok.new.self.view c.args.word (lent_body c.args.body) (Some Preserve) _ _ claimed
    c.release-in-Ok.ensures.view c.requires.free (
      record {
        free = c.requires.free;
        resident = search rules;
        not_spared = search rules;
        chosen = not_discard c.args.word (λ e. let is = c.reclaiming_move.ensures.chosen ∙ e in search (rules, is));
      },
      refl,
    )

pub returns-in-Err-clause-outcome : goal.returns-in-Err-clause-outcome
returns-in-Err-clause-outcome g c v claimed =
    gave_back Paging c.args.page c.args.urgent v c.args.seat.now.view c.release-in-Err.new.self.view c.args.word (lent_body c.args.body) None _ _ claimed
    c.release-in-Err.ensures.view c.requires.free (
      record {
        free = c.requires.free;
        resident = search rules;
        not_spared = search rules;
        chosen = not_discard c.args.word (λ e. let is = c.reclaiming_move.ensures.chosen ∙ e in search (rules, is));
      },
      refl,
      search rules,
    )
