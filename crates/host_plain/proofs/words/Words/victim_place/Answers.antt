use Rattle.std.proofs.Common.{◌≡◌, ◌∙◌, ℕ, List, Option, Some, length, ap, subst}
use Rattle.std.specs.Option.{option_or}
use Rattle.essa_state.specs.declared.fields.Fields.{Fields}
use Rattle.host_clock.specs.Victim.{victim_of, chosen_at}
use Rattle.marks.specs.Marking.{first_marked}
use Rattle.host_clock.specs.Laws.VictimLaws.{victim-chosen}
use Rattle.host_plain.proofs.words.Words.victim_place.Goals as goal

pub returns-in-Some : goal.returns-in-Some
returns-in-Some c =
    let found : chosen_at (length c.self.inside.words.items) (Some c.in-Some.place) ≡ victim_of c.self.inside.words.items c.args.hand =
    ap (λ (place : Option ℕ). chosen_at (length c.self.inside.words.items) (option_or place (first_marked c.self.inside.candidates c.args.hand))) c.in-Some.ensures.first
    ∙ victim-chosen c.self.inside.words.items c.args.hand c.self.inside.unreferenced c.self.inside.candidates c.self.invariant.1 c.self.invariant.0 in
    subst (λ (ws : List Fields). chosen_at (length ws) (Some c.in-Some.place) ≡ victim_of ws c.args.hand) c.self.view_is found

pub returns-in-None : goal.returns-in-None
returns-in-None c =
    let found : chosen_at (length c.self.inside.words.items) c.first-in-None.result ≡ victim_of c.self.inside.words.items c.args.hand =
    ap (λ (place : Option ℕ). chosen_at (length c.self.inside.words.items) place) c.first-in-None.ensures.first
    ∙ ap (λ (place : Option ℕ). chosen_at (length c.self.inside.words.items) (option_or place (first_marked c.self.inside.candidates c.args.hand))) c.in-None.ensures.first
    ∙ victim-chosen c.self.inside.words.items c.args.hand c.self.inside.unreferenced c.self.inside.candidates c.self.invariant.1 c.self.invariant.0 in
    subst (λ (ws : List Fields). chosen_at (length ws) c.first-in-None.result ≡ victim_of ws c.args.hand) c.self.view_is found
