-- The page that a guest holds: where its contents are at every moment of the hold.
use Rattle.std.specs.Prelude.{◌≡◌, ℕ, true, Some}
use Rattle.cmm_types.specs.declared.page.Content.TheVariants.{Resident}
use Rattle.cmm_storage.specs.StorageView.{StorageView, IsPlaced}

-- the page is held, its contents are where its value says, and it is resident once it was touched
pub record IsInHold (v : StorageView) (page : ℕ) : Type 0 where
  pub held : v.held ≡ Some page
  pub placed : IsPlaced v.content (v.values page)
  pub touched : v.touched ≡ true → v.content ≡ Resident
