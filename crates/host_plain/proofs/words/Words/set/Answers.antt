use Rattle.std.proofs.Common.{◌∙◌, ap, sym, map, List, Bool, false, slice_set}
use Rattle.std.proofs.lemmas.List.{map-set}
use Rattle.host_clock.specs.Victim.{is_candidate, is_takeable}
use Rattle.host_plain.proofs.words.Words.set.Goals as goal

pub invariant_of-self : goal.invariant_of-self
invariant_of-self c = (
  c.set.ensures ∙ ap (λ (marks : List Bool). slice_set marks c.args.place c.is_candidate.result) c.self.invariant.0
      ∙ ap (slice_set (map is_candidate c.self.inside.words.items) c.args.place) c.is_candidate.ensures ∙ sym (map-set is_candidate c.self.inside.words.items c.args.place c.args.word),
  c.set-2.ensures ∙ ap (λ (marks : List Bool). slice_set marks c.args.place c.is_unreferenced.result) c.self.invariant.1
      ∙ ap (slice_set (map (is_takeable false) c.self.inside.words.items) c.args.place) c.is_unreferenced.ensures
      ∙ sym (map-set (is_takeable false) c.self.inside.words.items c.args.place c.args.word),
)
