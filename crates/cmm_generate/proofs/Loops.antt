-- Lists that loops draw piece by piece.
use Rattle.std.proofs.Common.{◌≡◌, ◌∙◌, ◌+◌, ℕ, suc, List, [], ◌∷◌, ◌++◌, refl, sym, ap, ap₂, subst, arith}
use Rattle.cmm_types.specs.declared.command.Op.{Op}
use Rattle.cmm_types.specs.declared.event.Event.{Event}
use Rattle.cmm_types.specs.declared.plan.FilePlan.{FilePlan}
use Rattle.cmm_generate.specs.Draws.{Drawn, Draw, Draws, Appended, in_turn, single}
use Rattle.cmm_generate.specs.Generated.{files, commands, schedule, scenario, plan, generated}

next_drawn : {A : Type 0} (draw : ℕ → Draw (List A)) (j start old new : ℕ) (before after : List A) → Draws (in_turn draw j) start old before → Appended (draw j) old new before after
    → Draws (in_turn draw (suc j)) start new after
unfolding in_turn
next_drawn {A = A} draw j start old new before after is its =
    ap (λ (d : Drawn (List A)). record { value = d.value ++ (draw j d.number).value; number = (draw j d.number).number }) is
    ∙ ap₂ (λ (xs : List A) n. record { value = xs; number = n }) (sym its.1) (sym its.0)

-- what is appended next to what was drawn before
pub in_turn_on : {A : Type 0} (draw : ℕ → Draw (List A)) (j start old new : ℕ) (before after : List A) → Draws (in_turn draw j) start old before → Appended (draw j) old new before after
    → Draws (in_turn draw (j + 1)) start new after
in_turn_on draw j start old new before after drawn its =
    let more : j + 1 ≡ suc j = omega arith in
    subst (λ n. Draws (in_turn draw n) start new after) (sym more) (next_drawn draw j start old new before after drawn its)

-- one item more
pub one_more : {A : Type 0} (draw : ℕ → Draw A) (j start old new : ℕ) (before : List A) (x : A) → Draws (in_turn (λ k. single (draw k)) j) start old before → Draws (draw j) old new x
    → Draws (in_turn (λ k. single (draw k)) (j + 1)) start new (before ++ x ∷ [])
one_more {A = A} draw j start old new before x drawn its =
    in_turn_on (λ k. single (draw k)) j start old new before (before ++ x ∷ []) drawn
    (ap (λ (d : Drawn A). d.number) (sym its), ap (λ (d : Drawn A). before ++ d.value ∷ []) (sym its))

-- ---- the whole

pub drawn_in_turn : (start size a b c d : ℕ) (first second : List FilePlan) (ops : List Op) (events : List Event) → Draws files start a first → Draws files a b second → Draws (commands size) b c ops
    → Draws (schedule size) c d events → scenario first second ops events ≡ generated start size
unfolding generated plan
drawn_in_turn start size a b c d first second ops events one two three four = rw (one, two, three, four) refl
