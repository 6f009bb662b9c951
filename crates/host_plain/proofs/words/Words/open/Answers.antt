use Rattle.std.proofs.Common.{◌≡◌, ◌∙◌, ap, sym, map, replicate, List, false}
use Rattle.essa_state.specs.declared.fields.Fields.{Fields}
use Rattle.host_clock.specs.Victim.{is_candidate, is_takeable}
use Rattle.essa_state.specs.StateWord.{opening_word}
use Rattle.host_plain.proofs.Choosing.{map-replicate}
use Rattle.host_plain.proofs.words.Words.open.Goals as goal

pub invariant_of-result : goal.invariant_of-result
invariant_of-result c =
    let words : c.in_ok-vec.field-0.items ≡ replicate c.args.count opening_word = c.in_ok-vec.ensures.items_if_clones_equal (λ y h. h) ∙ ap (replicate c.args.count) c.new-word.ensures in (
      c.in_ok-open.ensures ∙ sym (map-replicate is_candidate c.args.count opening_word) ∙ ap (λ (ws : List Fields). map is_candidate ws) (sym words),
      c.in_ok-open-2.ensures ∙ sym (map-replicate (is_takeable false) c.args.count opening_word) ∙ ap (λ (ws : List Fields). map (is_takeable false) ws) (sym words),
    )

pub returns : goal.returns
returns c = c.in_ok-vec.ensures.items_if_clones_equal (λ y h. h) ∙ ap (replicate c.args.count) c.new-word.ensures
