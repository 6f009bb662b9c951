use Rattle.std.proofs.Common.{◌≡◌, ◌<◌, ◌-◌, List, arith, length, sym, ap, ◌∙◌, subst}
use Rattle.std.proofs.Math.ListN.{length-set}
use Rattle.essa_state.specs.declared.fields.Fields.{Fields}
use Rattle.host_plain.specs.Candidates.{NoCandidates}
use Rattle.host_plain.proofs.Choosing.{aged_words-step, aged_words-up_to, aged_words-zero}
use Rattle.host_plain.proofs.words.Words.age_between.Goals as goal

pub loop-place-init : goal.loop-place-init
loop-place-init c = (aged_words-zero c.args.self.now c.args.from (c.args.from - c.args.from) (omega arith), omega arith, c.requires.order, c.requires.within)

pub loop-place-preserved : goal.loop-place-preserved
loop-place-preserved c =
    let below : c.in-Some.place < length c.args.self.now = omega (arith, c.in-Some.ensures.within.1, c.requires.within) in
    let count : length c.set.new.self ≡ length c.loop-place.self = ap (λ (ws : List Fields). length ws) c.set.ensures ∙ length-set c.loop-place.self c.in-Some.place c.aged_candidate-aged.result in (
      c.set.ensures
          ∙ aged_words-step c.args.self.now c.args.from c.loop-place.start c.in-Some.place c.loop-place.self c.aged_candidate-aged.result c.get.result c.loop-place.invariant.1
          c.in-Some.ensures.within.0 below c.loop-place.invariant.0 c.in-Some.ensures.first c.get.ensures c.aged_candidate-aged.ensures,
      omega (arith, c.loop-place.invariant.1, c.in-Some.ensures.within.0),
      omega (arith, c.in-Some.ensures.within.1),
      omega (arith, count, c.loop-place.invariant.3),
    )

pub returns : goal.returns
returns c =
    c.loop-place.invariant.0
    ∙ sym (aged_words-up_to c.args.self.now c.args.from c.loop-place.start c.args.to c.loop-place.invariant.1 c.loop-place.invariant.2 c.requires.within
    (subst (λ (ws : List Fields). NoCandidates ws c.loop-place.start c.args.to) c.loop-place.invariant.0 c.in_default.ensures.none))
