-- What backs a tag is a whole page of bytes.
use Rattle.std.proofs.Common.{◌≡◌, ◌<◌, ℕ, List, [], length, Option, None, Some, refl, ap, ◌∙◌, arith}
use Rattle.std.proofs.lemmas.List.Elements.{All-get_or}
use Rattle.cmm_types.specs.declared.page.TheConstants.{PAGE}
use Rattle.cmm_types.specs.declared.page.Tag.{Tag}
use Rattle.cmm_types.specs.Laws.BytesLaws.{length-zero_page}
use Rattle.cmm_io.specs.DiskView.{DiskView, AreBlocks}
use Rattle.cmm_storage.specs.StorageView.{StorageView}
use Rattle.guest_cache.specs.CacheView.{IsTag, backing_of}
use Rattle.guest_cache.specs.Laws.CacheLaws.{backing_of-below}
use Rattle.guest_rules.specs.GuestState.{GuestState}
use Rattle.guest_rules.specs.Fit.{SizesFit, ContentsFit, backed, block_bytes, backing}
use Rattle.guest_rules.proofs.Ready.ReadyCalls.{blocks-most}

pub length-backing : (g : GuestState) (v : StorageView) (d : DiskView) (tag : Tag) → SizesFit g v d → ContentsFit g.parts v d → IsTag g.parts.cache tag
    → length (backing g.parts.cache d tag) ≡ PAGE
length-backing g v d tag sizes contents is = of (backing_of g.parts.cache tag) refl
  where
    are : AreBlocks d.count (Some contents.told.0)
    are = rw contents.told.1 at contents.blocks

    of : (o : Option ℕ) → backing_of g.parts.cache tag ≡ o → length (backed d.blocks o) ≡ PAGE
    of None e = length-zero_page
    of (Some block) e =
        let below : block < length contents.told.0 = omega (arith, are.0, backing_of-below g.parts.cache tag block is e, blocks-most g v d sizes) in
        ap (λ (o : Option (List (List ℕ))). length (block_bytes o block)) contents.told.1 ∙ All-get_or (λ bytes. length bytes ≡ PAGE) contents.told.0 block [] below are.1
