use Rattle.std.proofs.Common.{◌<◌, length, sym, ◌∙◌, subst}
use Rattle.std.proofs.lemmas.List.{get_or_default}
use Rattle.essa_state.specs.PageValue.{IsValue, opening_value}
use Rattle.essa_state.specs.Laws.PageValueLaws.{MayBecome-is_value}
use Rattle.cmm_storage.specs.NoisyState.{NoisyState}
use Rattle.cmm_storage.proofs.NoisyLemmas.{taken_sound}
use Rattle.cmm_storage.proofs.noisy.NoisyStorageStorage.take.Goals as goal
use Rattle.cmm_storage.proofs.noisy.NoisyStorageStorage.take.Goals.{then-eq-2, else-eq-2}

pub invariant_of-self-2 : goal.invariant_of-self-2
invariant_of-self-2 c =
    let there : c.args.page < length c.self.inside.pages.items = subst (λ (s : NoisyState). c.args.page < length s.pages) (sym c.self.view_is) c.requires.page in
    let found : IsValue c.index_mut-it.result.now =
    subst IsValue (sym (c.index_mut-it.ensures.value ∙ get_or_default c.self.inside.pages.items c.args.page c.index_mut-it.result.now opening_value there)) (c.self.invariant.values c.args.page)
    in
    elim c.if-eq-2.branch [
      | then-eq-2 w ↦ rw w.self-inside-is (taken_sound _ c.args.page w.discard.new.self c.self.invariant there (MayBecome-is_value _ _ found w.discard.ensures.allowed))
      | else-eq-2 w ↦ rw w.self-inside-is (taken_sound _ c.args.page c.index_mut-it.result.now c.self.invariant there found)
    ]
