-- What the host did meanwhile keeps fit.
use Rattle.std.proofs.Common.{◌≡◌, ◌<◌, ℕ, Option, Some, None, length, refl, ap, sym, ◌∙◌, arith}
use Rattle.cmm_types.specs.declared.page.Tag.{Tag}
use Rattle.cmm_io.specs.DiskView.{DiskView}
use Rattle.cmm_flat.specs.State.{FlatState}
use Rattle.cmm_storage.specs.StorageView.{StorageView}
use Rattle.guest_pages.specs.PagesView.{info_at}
use Rattle.guest_cache.specs.CacheView.{IsTag, page_of}
use Rattle.guest_rules.specs.GuestState.{GuestState}
use Rattle.guest_rules.specs.Fit.{FitAt, SizesFit, backing, current, current_at, one_if_lost}
use Rattle.guest_rules.proofs.Cases.TurnCases.{AllMay}
use Rattle.guest_rules.proofs.Rows.ValueLaws.{may-faults}
use Rattle.guest_rules.proofs.Kept.Faults.{sum_below-le}
use Rattle.guest_rules.proofs.Kept.PageFits.{EachPageFits, PageFits-may, PageFits-same, EachPageFits-from, HintsFit-from, ContentsFit-from, backing-same}
use Rattle.guest_rules.proofs.Kept.Currents.{current_bytes-may}
use Rattle.guest_rules.proofs.Kept.TagsKept.{tags_stand, TagsFit-from}
use Rattle.guest_rules.proofs.Kept.FlatTags.{flat_tag-is}

pub infos-pages : (g : GuestState) (v : StorageView) (d : DiskView) → SizesFit g v d → length g.parts.pages.infos ≡ v.pages
infos-pages g v d f = f.infos ∙ sym f.pages

pub FitAt-may : (state : FlatState) (g : GuestState) (v : StorageView) (d : DiskView) (w : StorageView) (e : DiskView) → FitAt state g v d → AllMay v d w e → FitAt state g w e
FitAt-may state g v d w e f may = record {
  sizes = record {
    range = f.sizes.range;
    infos = f.sizes.infos;
    pages = may.pages ∙ f.sizes.pages;
    processors = f.sizes.processors;
    files = f.sizes.files;
    swap = f.sizes.swap;
    slots = f.sizes.slots;
    index = f.sizes.index;
    blocks = may.count ∙ f.sizes.blocks;
  };
  pages = f.pages;
  slots = f.slots;
  entries = f.entries;
  pins = f.pins;
  tags = TagsFit-from g.parts w e (tags_stand g.parts v f.tags) fits;
  locks = f.locks;
  teardowns = f.teardowns;
  hints = HintsFit-from g.parts w e may.held fits;
  contents = ContentsFit-from g.parts w e (may.tells ∙ f.contents.tells) f.contents.told.0 (may.blocks ∙ f.contents.told.1) (rw (may.count, may.blocks) f.contents.blocks) fits;
  flat = record { lengths = f.flat.lengths; sound = f.flat.sound; pages = λ tag is. f.flat.pages tag is ∙ sym (same tag (flat_tag-is state g v d f.sizes f.slots tag is)) };
  journal = f.journal;
  faults = rw may.pages (omega (
    arith,
    sum_below-le (λ i. (v.values i).count) (λ i. one_if_lost (w.values i)) (λ i. (w.values i).count) (λ i. one_if_lost (v.values i)) v.pages
        (λ i lt. may-faults (v.values i) (w.values i) (may.values i lt)),
    f.faults,
  ));
}
  where
    size : length g.parts.pages.infos ≡ v.pages
    size = infos-pages g v d f.sizes

    before : EachPageFits g.parts v d
    before = EachPageFits-from g.parts v d size f.tags f.hints f.contents

    fits : EachPageFits g.parts w e
    fits = record {
      size = size ∙ sym may.pages;
      each = λ i lt.
          PageFits-same g.parts.cache g.parts.cache d e (info_at g.parts.pages i) (w.values i) refl refl may.blocks
          (PageFits-may g.parts.cache d (info_at g.parts.pages i) (v.values i) (w.values i) (before.each i (rw may.pages at lt)) (may.values i (rw may.pages at lt)));
    }

    same : (tag : Tag) → IsTag g.parts.cache tag → current g.parts w e tag ≡ current g.parts v d tag
    same tag is = ap (current_at g.parts w (page_of g.parts.cache tag)) (backing-same g.parts.cache g.parts.cache d e tag refl refl may.blocks) ∙ of (page_of g.parts.cache tag) refl
      where
        of : (o : Option ℕ) → page_of g.parts.cache tag ≡ o → current_at g.parts w o (backing g.parts.cache d tag) ≡ current_at g.parts v o (backing g.parts.cache d tag)
        of None z = refl
        of (Some i) z =
            let here = f.pages.found i tag is z in
            let below : i < v.pages = rw size at here.0 in
            current_bytes-may g.parts.cache d (info_at g.parts.pages i) (v.values i) (w.values i) tag (before.each i below) here.1 (may.values i below)
