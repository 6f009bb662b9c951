use Rattle.std.proofs.Common.{◌≡◌, true, false, arith, rules, subst, sym, vec_len}
use Rattle.cmm_types.specs.declared.page.TheConstants.{PAGE}
use Rattle.cmm_types.specs.declared.page.Content.TheVariants.{Zero, Resident}
use Rattle.essa_state.specs.PageValue.{PageValue, is_lost}
use Rattle.cmm_storage.specs.StorageView.{touched_contents}
use Rattle.cmm_types.specs.Bytes.{zero_page}
use Rattle.cmm_storage.specs.NoisyState.{noisy_value}
use Rattle.cmm_storage.proofs.NoisyLemmas.{filled_value, zeros_filled}
use Rattle.cmm_storage.proofs.noisy_page.NoisyPage.fill.Goals as goal

pub returns-then-eq-clause-contents : goal.returns-then-eq-clause-contents
returns-then-eq-clause-contents c =
    let whole : vec_len c.self.inside.frame ≡ PAGE = omega (arith, c.self.inside.frame.ok.0, c.self.invariant.0) in
    let filled : c.fill.new.self.items ≡ zero_page = zeros_filled _ _ (c.fill.ensures.items (λ y h. h)) whole in
    let zero : c.self.inside.word.content ≡ Zero = search rules in
    let word : c.new-self-inside.result ≡ record c.self.inside.word { content = Resident } = cc in
    let same : noisy_value c.self.inside.word c.self.inside.frame.items ≡ c.args.self.now = c.self.view_is in
    let kept : is_lost (noisy_value c.self.inside.word c.self.inside.frame.items).contents ≡ false =
    subst (λ (q : PageValue). is_lost q.contents ≡ false) (sym same) c.requires in
    subst (λ (q : PageValue). noisy_value c.new-self-inside.result c.fill.new.self.items ≡ record q { contents = touched_contents true q.contents }) same
    (filled_value c.self.inside.word c.new-self-inside.result c.self.inside.frame.items c.fill.new.self.items zero kept word filled)
