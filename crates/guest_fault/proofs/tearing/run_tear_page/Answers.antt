use Rattle.std.proofs.Common.{◌<◌, ap, subst, sym, ◌∙◌}
use Rattle.cmm_types.specs.declared.page.Tag.TheVariants.{Anon}
use Rattle.guest_cache.specs.CacheView.{CacheView, without_page}
use Rattle.guest_rules.specs.declared.parts.Parts.{Parts}
use Rattle.guest_rules.proofs.Kept.RowChanges.{freed-cache}
use Rattle.guest_fault.proofs.tearing.run_tear_page.Goals as goal

pub release-requires : goal.release-requires
unfolding without_page
release-requires g c =
    let cache = ap (λ (p : Parts). p.cache) c.forget.ensures.row ∙ freed-cache c.args.parts.now c.args.page (Anon c.args.slot c.args.index) c.requires.tagged in
    (subst (λ slots. c.args.slot < slots) (sym (ap (λ (q : CacheView). q.slots) cache)) c.requires.is_tag.0, c.requires.is_tag.1)
