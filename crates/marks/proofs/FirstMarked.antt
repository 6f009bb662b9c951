-- The first marked place from the hand is the first behind it, or else the first before it.
use Rattle.std.specs.Prelude.{◌≡◌, ℕ, zero, suc, ◌+◌, ◌-◌, ◌<◌, ◌≤◌, List, [], ◌∷◌, length, take, drop, Bool, true, false, Option, Some, None, IfSome, IfNone, position, nat_lt, cond, refl}
use Rattle.std.specs.List.{position_or_len}
use Rattle.std.specs.Option.{option_or, option_map}
use Rattle.std.proofs.Common.{arith, ap, sym, subst, ◌∙◌}
use Rattle.std.proofs.lemmas.List.{get_or-drop, get_or-take, length-drop, length-take-le}
use Rattle.marks.specs.Marking.{is_marked, NoneMarked, wrapped, first_marked}
use Rattle.marks.specs.Laws.MarkingLaws.{wrapped-same, wrapped-over}
use Rattle.marks.proofs.Joined.{position-append}

abbrev is_set : Bool → Bool
is_set marked = marked

first_at : (marks : List Bool) (i : ℕ) → i < length marks → is_marked marks i ≡ true → ((k : ℕ) → k < i → is_marked marks k ≡ false) → position_or_len is_set marks ≡ i
first_at [] i below marked before = absurd (omega (arith, below))
first_at (mark ∷ marks) zero below marked before = rw marked refl
first_at (mark ∷ marks) (suc i) below marked before =
    rw (before 0 (omega arith)) (omega (arith, first_at marks i (omega (arith, below)) marked (λ k less. before (suc k) (omega (arith, less)))))

none_at : (marks : List Bool) → ((k : ℕ) → k < length marks → is_marked marks k ≡ false) → position_or_len is_set marks ≡ length marks
none_at [] before = refl
none_at (mark ∷ marks) before =
    rw (before 0 (omega arith)) (omega (arith, none_at marks (λ k less. before (suc k) (omega (arith, less)))))

found-by : (at count : ℕ) → at < count → cond (nat_lt at count) (Some at) None ≡ Some at
found-by at count below = grind (arith, below)

none-by : (at : ℕ) → (let found : Option ℕ = cond (nat_lt at at) (Some at) None in found) ≡ None
none-by at = grind arith

pub position-first : (marks : List Bool) (i : ℕ) → i < length marks → is_marked marks i ≡ true → ((k : ℕ) → k < i → is_marked marks k ≡ false) → position is_set marks ≡ Some i
position-first marks i below marked before = rw (first_at marks i below marked before) (found-by i (length marks) below)

pub position-none : (marks : List Bool) → ((k : ℕ) → k < length marks → is_marked marks k ≡ false) → position is_set marks ≡ None
position-none marks before = rw (none_at marks before) (none-by (length marks))

-- a mark behind the hand
pub first_marked-on : (marks : List Bool) (hand place : ℕ) → hand ≤ place → place < length marks → is_marked marks place ≡ true → NoneMarked marks hand place →
    first_marked marks hand ≡ Some place
first_marked-on marks hand place low below marked before =
    let at : hand + (place - hand) ≡ place = omega (arith, low) in
    let inside : place - hand < length (drop hand marks) = rw (length-drop hand marks) (omega (arith, low, below)) in
    let here : is_marked (drop hand marks) (place - hand) ≡ true = rw (get_or-drop hand marks (place - hand) false, at) marked in
    let first : position is_set (drop hand marks) ≡ Some (place - hand) =
    position-first (drop hand marks) (place - hand) inside here (λ k less. rw (get_or-drop hand marks k false) (before (hand + k) (omega arith) (omega (arith, less, low)))) in
    ap (λ (steps : Option ℕ). option_map (λ s. wrapped (length marks) (hand + s)) steps) (position-append is_set (drop hand marks) (take hand marks)
    ∙ ap (λ (steps : Option ℕ). option_or steps (option_map (λ k. length (drop hand marks) + k) (position is_set (take hand marks)))) first)
    ∙ ap (λ n. Some (wrapped (length marks) n)) at ∙ ap Some (wrapped-same (length marks) place below)

none-behind : (marks : List Bool) (hand : ℕ) → NoneMarked marks hand (length marks) → position is_set (drop hand marks) ≡ None
none-behind marks hand none =
    position-none (drop hand marks)
    (λ k less. rw (get_or-drop hand marks k false) (none (hand + k) (omega arith) (let small : k < length marks - hand = subst (λ n. k < n) (length-drop hand marks) less in omega (arith, small))))

-- none behind the hand, and one before it
pub first_marked-before : (marks : List Bool) (hand place : ℕ) → hand < length marks → place < hand → is_marked marks place ≡ true → NoneMarked marks hand (length marks) →
    NoneMarked marks 0 place → first_marked marks hand ≡ Some place
first_marked-before marks hand place held below marked behind before =
    let inside : place < length (take hand marks) = rw (length-take-le hand marks (omega (arith, held))) below in
    let here : is_marked (take hand marks) place ≡ true = rw (get_or-take hand marks place false below) marked in
    let first : position is_set (take hand marks) ≡ Some place =
    position-first (take hand marks) place inside here (λ k less. let near : k < hand = omega (arith, less, below) in rw (get_or-take hand marks k false near) (before k (omega arith) less)) in
    let at : hand + (length (drop hand marks) + place) ≡ length marks + place = rw (length-drop hand marks) (omega (arith, held)) in
    ap (λ (steps : Option ℕ). option_map (λ s. wrapped (length marks) (hand + s)) steps) (position-append is_set (drop hand marks) (take hand marks)
    ∙ ap (λ (steps : Option ℕ). option_or steps (option_map (λ k. length (drop hand marks) + k) (position is_set (take hand marks)))) (none-behind marks hand behind)
    ∙ ap (λ (steps : Option ℕ). option_map (λ k. length (drop hand marks) + k) steps) first)
    ∙ ap (λ n. Some (wrapped (length marks) n)) at ∙ ap Some (wrapped-over (length marks) place)

-- no mark
pub first_marked-none : (marks : List Bool) (hand : ℕ) → hand < length marks → NoneMarked marks hand (length marks) → NoneMarked marks 0 hand → first_marked marks hand ≡ None
first_marked-none marks hand held behind before =
    let none : position is_set (take hand marks) ≡ None =
    position-none (take hand marks)
    (λ k less. let near : k < hand = subst (λ n. k < n) (length-take-le hand marks (omega (arith, held))) less in rw (get_or-take hand marks k false near) (before k (omega arith) near)) in
    ap (λ (steps : Option ℕ). option_map (λ s. wrapped (length marks) (hand + s)) steps) (position-append is_set (drop hand marks) (take hand marks)
    ∙ ap (λ (steps : Option ℕ). option_or steps (option_map (λ k. length (drop hand marks) + k) (position is_set (take hand marks)))) (none-behind marks hand behind)
    ∙ ap (λ (steps : Option ℕ). option_map (λ k. length (drop hand marks) + k) steps) none)

-- none behind the hand, and what there is before it
pub first_marked-next : (marks : List Bool) (hand : ℕ) (found : Option ℕ) → hand < length marks → NoneMarked marks hand (length marks) → IfNone found (NoneMarked marks 0 hand) →
    IfSome found (λ place. (0 ≤ place) × (place < hand)) → IfSome found (λ place. is_marked marks place ≡ true) → IfSome found (λ place. NoneMarked marks 0 place) →
    found ≡ first_marked marks hand
first_marked-next marks hand None held behind none within marked before = sym (first_marked-none marks hand held behind none)
first_marked-next marks hand (Some place) held behind none within marked before = sym (first_marked-before marks hand place held within.1 marked behind before)
