use Rattle.std.proofs.Common.{◌≡◌, ◌<◌, Some, length, rules, ap, ◌∙◌, get_or}
use Rattle.std.proofs.lemmas.List.{get_or_default}
use Rattle.cmm_storage.specs.StorageView.{has_bytes}
use Rattle.essa_state.specs.PageValue.{opening_value}
use Rattle.cmm_storage.proofs.NoisyLemmas.{set_sound}
use Rattle.cmm_storage.proofs.noisy.NoisyStorageStorage.order.Goals as goal

pub invariant_of-self : goal.invariant_of-self
invariant_of-self c =
    let held : c.self.inside.held ≡ Some c.args.page = search rules in
    let below : c.args.page < length c.self.inside.pages.items = c.self.invariant.below c.args.page held in
    let found : c.index_mut-it.result.now ≡ get_or c.self.inside.pages.items c.args.page opening_value =
    c.index_mut-it.ensures.value ∙ get_or_default c.self.inside.pages.items c.args.page _ opening_value below in
    set_sound _ c.args.page c.order.new.self c.self.invariant below c.order.ensures.value
    (c.order.ensures.bytes ∙ ap (λ v. has_bytes v.contents) found)
