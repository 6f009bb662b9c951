use Rattle.std.proofs.Common.{rules, ◌≡◌, ◌+◌, ◌*◌, refl, arith, zero-add, None, sym, ap, ◌∙◌, length, sum, take}
use Rattle.std.proofs.lemmas.List.FromFn.{map-range_with_len_more}
use Rattle.std.proofs.lemmas.List.Sums.{sum_by_more}
use Rattle.std.proofs.lemmas.List.{length-replicate, take_all}
use Rattle.cmm_types.specs.declared.command.TheConstants.{MAX_MAPPING_PAGES}
use Rattle.guest_cache.specs.CacheView.{pages_before}
use Rattle.guest_cache.proofs.Swaps.{IsTable-opening}
use Rattle.guest_cache.proofs.FreeSlots.{free-opening}
use Rattle.guest_cache.proofs.cache.Cache.open.Goals as goal

pub loop-pages-preserved : goal.loop-pages-preserved
loop-pages-preserved c =
    let number_is : 0 + c.loop-pages.pages-index ≡ c.loop-pages.pages-index = zero-add c.loop-pages.pages-index in (
      let more = map-range_with_len_more (pages_before c.args.files.now) 0 c.loop-pages.pages-index c.loop-pages.pages-index number_is in
          rw (c.in_ok-push.ensures.items, c.loop-pages.invariant.0, c.loop-pages.invariant.1, more) refl,
      omega (arith, c.loop-pages.invariant.1, sum_by_more (λ x. x) c.args.files.now c.loop-pages.pages-index 0 c.loop-pages-test.true),
    )

pub invariant_of-result : goal.invariant_of-result
invariant_of-result c =
    let end : c.loop-pages.pages-index ≡ length c.args.files.now = omega (arith, c.loop-pages.auto.pages-index-end, c.loop-pages-test.false) in
    let all : take c.loop-pages.pages-index c.args.files.now ≡ c.in_ok-from_slice.field-0.items =
    take_all c.loop-pages.pages-index c.args.files.now (omega (arith, end)) ∙ sym c.in_ok-from_slice.ensures.items in
    let pages : c.loop-pages.file_pages ≡ sum c.in_ok-from_slice.field-0.items = c.loop-pages.invariant.1 ∙ ap sum all in
    let swap : length c.in_ok-no_tags.field-0.items ≡ c.args.swap = ap length c.in_ok-no_tags.ensures ∙ length-replicate c.args.swap None in (
      search rules,
      pages,
      omega (arith, c.requires.blocks, pages, swap, ap sum c.in_ok-from_slice.ensures.items),
      c.requires.slots,
      ap length c.in_ok-open.ensures ∙ length-replicate (c.loop-pages.file_pages + c.args.slots * MAX_MAPPING_PAGES) None ∙ ap (λ n. n + c.args.slots * MAX_MAPPING_PAGES) pages,
      rw (c.in_ok-no_tags.ensures, c.in_ok-open-2.ensures) (IsTable-opening c.args.slots c.args.swap),
      rw c.in_ok-no_tags.ensures (c.in_ok-all_free.ensures ∙ free-opening c.args.swap),
    )
