use Rattle.std.proofs.Common.{ℕ, Option, sym, subst}
use Rattle.std.specs.Prelude.{IfSome}
use Rattle.host_plain.proofs.Keeping.{IsVictim, victim-sound}
use Rattle.host_plain.proofs.words.Words.victim.Goals as goal

pub returns-in-Some-clause-candidate : goal.returns-in-Some-clause-candidate
returns-in-Some-clause-candidate c =
    (subst (λ (v : Option (ℕ × ℕ)). IfSome v (IsVictim c.args.self.now)) (sym c.in-Some.ensures) (victim-sound c.args.self.now c.args.hand c.requires)).2
