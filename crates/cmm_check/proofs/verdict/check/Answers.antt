use Rattle.std.proofs.Common.{rules, ◌≡◌, sym, ◌∙◌, refl}
use Rattle.cmm_check.specs.declared.verdict.Verdict.TheVariants.{Accepted}
use Rattle.cmm_check.specs.Verdict.{verdict_of}
use Rattle.cmm_check.proofs.AcceptedLaws.{accepted_is_legal}
use Rattle.cmm_check.proofs.LegalLaws.{legal_is_accepted}
use Rattle.cmm_check.proofs.verdict.check.Goals as goal

pub returns-in-Ok-clause-legal : goal.returns-in-Ok-clause-legal
returns-in-Ok-clause-legal c =
    let accepted : verdict_of c.args.plan.now c.args.report.now ≡ Accepted = search rules in
    (λ is. accepted_is_legal c.args.plan.now c.args.report.now accepted, λ legal. refl)

pub returns-in-Err-Unfit-clause-legal : goal.returns-in-Err-Unfit-clause-legal
returns-in-Err-Unfit-clause-legal c =
    let rejected : verdict_of c.args.plan.now c.args.report.now ≡ c.rejected.result = search rules in
    (λ is. accepted_is_legal c.args.plan.now c.args.report.now (rejected ∙ is), λ legal. sym rejected ∙ legal_is_accepted c.args.plan.now c.args.report.now c.requires.range legal)
