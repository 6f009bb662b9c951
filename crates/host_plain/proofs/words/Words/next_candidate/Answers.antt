use Rattle.std.proofs.Common.{◌≤◌, List, length, sym, subst}
use Rattle.std.specs.Prelude.{IfSome, IfNone}
use Rattle.essa_state.specs.declared.fields.Fields.{Fields}
use Rattle.host_plain.specs.Candidates.{NoCandidates}
use Rattle.host_plain.proofs.Choosing.{no-candidates-to, no-candidates-before}
use Rattle.host_plain.proofs.words.Words.next_candidate.Goals as goal

pub returns-clause-none : goal.returns-clause-none
returns-clause-none c =
    let within : c.args.to ≤ length c.self.inside.words.items = subst (λ (ws : List Fields). c.args.to ≤ length ws) (sym c.self.view_is) c.requires in
    subst (λ (ws : List Fields). IfNone c.next.result (NoCandidates ws c.args.from c.args.to)) c.self.view_is
    (no-candidates-to c.self.inside.words.items c.self.inside.candidates c.args.from c.args.to c.next.result c.self.invariant.0 within c.next.ensures.none)

pub returns-clause-first : goal.returns-clause-first
returns-clause-first c =
    let within : c.args.to ≤ length c.self.inside.words.items = subst (λ (ws : List Fields). c.args.to ≤ length ws) (sym c.self.view_is) c.requires in
    subst (λ (ws : List Fields). IfSome c.next.result (λ place. NoCandidates ws c.args.from place)) c.self.view_is
    (no-candidates-before c.self.inside.words.items c.self.inside.candidates c.args.from c.args.to c.next.result c.self.invariant.0 within c.next.ensures.within c.next.ensures.first)
