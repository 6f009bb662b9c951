-- Laws of the victim by the marks of two kinds of pages.
use Rattle.std.specs.Prelude.{◌≡◌, refl, ℕ, ◌+◌, List, [], ◌∷◌, ◌++◌, length, take, drop, map, Bool, true, false, not, Option, Some, None, position, cond}
use Rattle.std.specs.List.{position_or_len}
use Rattle.std.specs.Option.{option_or, option_map}
use Rattle.std.proofs.Common.{ap, sym, ◌∙◌}
use Rattle.std.proofs.lemmas.List.{drop-map, take-map, map-append, length-map}
use Rattle.essa_state.specs.declared.fields.Fields.{Fields}
use Rattle.host_clock.specs.Victim.{is_candidate, is_takeable, from_hand, victim_after, victim_of, chosen_at}
use Rattle.marks.specs.Marking.{wrapped, first_marked}

abbrev is_set : Bool → Bool
is_set marked = marked

position-map : (p : Fields → Bool) (words : List Fields) → position is_set (map p words) ≡ position p words
position-map p words = rw (or_len words, length-map words p) refl
  where
    or_len : (ws : List Fields) → position_or_len is_set (map p ws) ≡ position_or_len p ws
    or_len [] = refl
    or_len (w ∷ ws) = ap (λ n. cond (not (p w)) (1 + n) 0) (or_len ws)

marks-of : (p : Fields → Bool) (words : List Fields) (hand : ℕ) →
    first_marked (map p words) hand ≡ option_map (λ steps. wrapped (length words) (hand + steps)) (position p (from_hand words hand))
marks-of p words hand =
    let same : drop hand (map p words) ++ take hand (map p words) ≡ map p (from_hand words hand) =
    rw (drop-map p hand words, take-map p hand words) (sym (map-append p (drop hand words) (take hand words))) in
    ap (λ n. option_map (λ steps. wrapped n (hand + steps)) (position is_set (drop hand (map p words) ++ take hand (map p words)))) (length-map words p)
    ∙ ap (λ (ms : List Bool). option_map (λ steps. wrapped (length words) (hand + steps)) (position is_set ms)) same
    ∙ ap (λ (steps : Option ℕ). option_map (λ s. wrapped (length words) (hand + s)) steps) (position-map p (from_hand words hand))

chosen-steps : (count hand : ℕ) (first second : Option ℕ) →
    chosen_at count (option_or (option_map (λ steps. wrapped count (hand + steps)) first) (option_map (λ steps. wrapped count (hand + steps)) second))
    ≡ victim_after count hand (option_or first second)
chosen-steps count hand None None = refl
chosen-steps count hand None (Some steps) = refl
chosen-steps count hand (Some steps) second = refl

-- the victim, by the marks of the unreferenced candidates and of all candidates
pub victim-chosen : (words : List Fields) (hand : ℕ) (unreferenced candidates : List Bool) → unreferenced ≡ map (is_takeable false) words → candidates ≡ map is_candidate words →
    chosen_at (length words) (option_or (first_marked unreferenced hand) (first_marked candidates hand)) ≡ victim_of words hand
victim-chosen words hand unreferenced candidates by_unreferenced by_candidates =
    ap (λ (ms : List Bool). chosen_at (length words) (option_or (first_marked ms hand) (first_marked candidates hand))) by_unreferenced
    ∙ ap (λ (ms : List Bool). chosen_at (length words) (option_or (first_marked (map (is_takeable false) words) hand) (first_marked ms hand))) by_candidates
    ∙ ap (λ (place : Option ℕ). chosen_at (length words) (option_or place (first_marked (map is_candidate words) hand))) (marks-of (is_takeable false) words hand)
    ∙ ap (λ (place : Option ℕ). chosen_at (length words) (option_or (option_map (λ steps. wrapped (length words) (hand + steps)) (position (is_takeable false) (from_hand words hand))) place))
    (marks-of is_candidate words hand)
    ∙ chosen-steps (length words) hand (position (is_takeable false) (from_hand words hand)) (position (is_takeable true) (from_hand words hand))
