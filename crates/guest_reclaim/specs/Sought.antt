-- What a look at a guest's pages is for.
use Rattle.std.specs.Prelude.{ℕ, ◌<◌, length, Bool, IfSome}
use Rattle.guest_pages.specs.declared.info.PageInfo.{PageInfo}
use Rattle.guest_pages.specs.PagesView.{info_at}
use Rattle.guest_cache.specs.CacheView.{IsTag}
use Rattle.guest_rules.specs.declared.parts.Parts.{Parts}
use Rattle.guest_rules.specs.MakeRoom.{can_go, is_locked}
use Rattle.guest_reclaim.specs.declared.look.Sought.{Sought}
use Rattle.guest_reclaim.specs.declared.look.Sought.TheVariants.{Movable, Locked}

-- the page is one that is sought
abbrev pub passes : Parts → Sought → PageInfo → Bool
passes parts Movable = can_go parts
passes parts Locked = is_locked

-- whatever tag a page has is one
abbrev pub HasTags : Parts → Type 0
HasTags parts = (page : ℕ) → page < length parts.pages.infos → IfSome (info_at parts.pages page).tag (λ tag. IsTag parts.cache tag)
