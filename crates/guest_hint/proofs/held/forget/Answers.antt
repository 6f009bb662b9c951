use Rattle.std.proofs.Common.{ap, sym, subst, ◌∙◌}
use Rattle.guest_rules.specs.declared.parts.Parts.{Parts}
use Rattle.guest_rules.specs.Answers.{IsFree}
use Rattle.guest_rules.proofs.Rows.AnswerLaws.{freed-is_free}
use Rattle.guest_rules.proofs.Kept.RowChanges.{freed-faults}
use Rattle.guest_hint.proofs.held.forget.Goals as goal

pub returns-clause-free : goal.returns-clause-free
returns-clause-free c = subst (λ (parts : Parts). IsFree parts c.args.page) (sym c.run_forget.ensures) (freed-is_free c.args.parts.now c.args.page c.requires.in_use.below)

pub returns-clause-faults : goal.returns-clause-faults
returns-clause-faults c = ap (λ (parts : Parts). parts.faults) c.run_forget.ensures ∙ freed-faults c.args.parts.now c.args.page
