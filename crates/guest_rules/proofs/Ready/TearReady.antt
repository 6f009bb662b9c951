-- What the page that an unmap is at gives the call that takes it off a mapping of pages of its own.
use Rattle.std.specs.Prelude.{◌≡◌, ℕ, Some, None}
use Rattle.cmm_types.specs.declared.page.Tag.TheVariants.{Anon}
use Rattle.cmm_io.specs.DiskView.{DiskView}
use Rattle.cmm_flat.specs.Legal.{flat_of}
use Rattle.cmm_storage.specs.StorageView.{StorageView}
use Rattle.guest_pages.specs.PagesView.{info_at}
use Rattle.guest_cache.specs.CacheView.{IsTag, page_of}
use Rattle.guest_rules.specs.GuestState.{GuestState}
use Rattle.guest_rules.specs.Calls.{CanTear}
use Rattle.guest_rules.specs.Fit.{Fit, IsTearing}
use Rattle.guest_rules.proofs.Kept.FlatTags.{own-is_tag}
use Rattle.guest_rules.proofs.Ready.ReadyCalls.{tagged-takes}

-- its tag has a place in the index
pub tearing-is_tag : (g : GuestState) (v : StorageView) (d : DiskView) (cpu slot index : ℕ) → Fit g v d → IsTearing g cpu slot index → IsTag g.parts.cache (Anon slot index)
tearing-is_tag g v d cpu slot index f k = own-is_tag (flat_of g.plan g.journal) g v d f.sizes f.slots slot index k.mapping k.at k.within

-- the page that has its tag can be taken off, where nobody has locked it
pub tearing-tears : (g : GuestState) (v : StorageView) (d : DiskView) (cpu slot index page : ℕ) → Fit g v d → IsTearing g cpu slot index → page_of g.parts.cache (Anon slot index) ≡ Some page
    → (info_at g.parts.pages page).owner ≡ None → CanTear g.parts v slot index page
tearing-tears g v d cpu slot index page f k there unlocked =
    let is = tearing-is_tag g v d cpu slot index f k in
    let tagged = (f.pages.found page (Anon slot index) is there).1 in
    record {
      takes = tagged-takes g v d page (Anon slot index) f tagged;
      is_tag = is;
      tagged = tagged;
      unlocked = unlocked;
      once = f.tags.distinct;
    }
