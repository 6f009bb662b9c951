use Rattle.std.proofs.Common.{rules, sym, ◌∙◌}
use Rattle.cmm_storage.proofs.NoisyLemmas.{content_after-noisy, noisy_content-same}
use Rattle.cmm_storage.proofs.noisy_page.NoisyPage.order.Goals as goal

pub returns-clause-bytes : goal.returns-clause-bytes
returns-clause-bytes c = search rules

pub returns-clause-after : goal.returns-clause-after
returns-clause-after c = noisy_content-same _ _ (returns-clause-bytes c) ∙ sym (content_after-noisy c.args.code c.args.self.now.contents)
