use Rattle.std.proofs.Common.{◌≡◌, map, sum, replicate, sym, ap, subst, ◌∙◌, arith}
use Rattle.std.proofs.lemmas.List.Sums.{sum-map}
use Rattle.cmm_types.specs.declared.plan.TheConstants.{MAX_MAPPING_SLOTS}
use Rattle.cmm_types.specs.declared.plan.FilePlan.{FilePlan}
use Rattle.cmm_types.specs.Laws.RangeLaws.{blocks_bound}
use Rattle.guest_cache.specs.CacheView.{opening_cache}
use Rattle.guest_rules.specs.GuestState.{first_processor}
use Rattle.guest_rules.specs.Fit.{Fit}
use Rattle.guest_rules.proofs.Opening.Opening.{Fit-opening}
use Rattle.guest_core.proofs.Opened.{all_at_start, opened}
use Rattle.guest_core.proofs.guest.Guest.open.Goals as goal

pub open-requires-2-clause-blocks : goal.open-requires-2-clause-blocks
open-requires-2-clause-blocks c =
    let pages : c.deref.result.now ≡ map (λ (file : FilePlan). file.pages) c.args.plan.now.files =
    c.deref.ensures.value ∙ c.in_ok-files.ensures ∙ ap (λ files. map (λ (file : FilePlan). file.pages) files) c.as_slice.ensures
    in
    omega (arith, ap sum pages, sum-map (λ (file : FilePlan). file.pages) c.args.plan.now.files, blocks_bound c.args.plan.now c.requires)

pub returns-clause-opening : goal.returns-clause-opening
returns-clause-opening c =
    opened
    c.args.plan.now
    c.in_ok-copy_plan.field-0
    c.in_ok-open.field-0
    c.in_ok-open-2.field-0
    c.in_ok-open-3.field-0
    c.in_ok-with_capacity.field-0.items
    c.in_ok-vec.field-0.items
    c.in_ok-copy_plan.ensures
    c.in_ok-open.ensures
    (c.in_ok-open-2.ensures
    ∙ ap (λ files. opening_cache files c.args.plan.now.swap MAX_MAPPING_SLOTS)
    (c.deref.ensures.value ∙ c.in_ok-files.ensures ∙ ap (λ files. map (λ (file : FilePlan). file.pages) files) c.as_slice.ensures))
    c.in_ok-open-3.ensures
    c.in_ok-with_capacity.ensures.items
    (c.in_ok-vec.ensures.items_if_clones_equal (λ y h. h) ∙ ap (λ n. replicate n first_processor) c.len.ensures ∙ all_at_start c.args.plan.now.cpus)

pub returns-clause-fit : goal.returns-clause-fit
returns-clause-fit c v d fresh = subst (λ guest. Fit guest v d) (sym (returns-clause-opening c)) (Fit-opening c.args.plan.now v d c.requires fresh)
