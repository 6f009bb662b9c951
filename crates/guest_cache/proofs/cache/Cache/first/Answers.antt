use Rattle.std.proofs.Common.{◌<◌, length, get_or, sym, ap, ◌∙◌, subst, arith, zero-add}
use Rattle.std.proofs.lemmas.List.FromFn.{get_or-map-range_with_len, length-map-range_with_len}
use Rattle.guest_cache.specs.CacheView.{CacheView, pages_before}
use Rattle.guest_cache.proofs.cache.Cache.first.Goals as goal

pub index-requires : goal.index-requires
index-requires c =
    let below : c.args.file < length c.self.inside.files.items = subst (λ (cache : CacheView). c.args.file < length cache.files) (sym c.self.view_is) c.requires in
    omega (arith, below, ap length c.self.invariant.0, length-map-range_with_len (pages_before c.self.inside.files.items) 0 (length c.self.inside.files.items))

pub returns : goal.returns
returns c =
    let below : c.args.file < length c.self.inside.files.items = subst (λ (cache : CacheView). c.args.file < length cache.files) (sym c.self.view_is) c.requires in
    c.index.ensures
    ∙ ap (λ firsts. get_or firsts c.args.file c.index.result.now) c.self.invariant.0
    ∙ get_or-map-range_with_len (pages_before c.self.inside.files.items) 0 (length c.self.inside.files.items) c.args.file c.args.file c.index.result.now below (zero-add c.args.file)
    ∙ ap (λ (cache : CacheView). pages_before cache.files c.args.file) c.self.view_is
