-- When a guest has no page for a command: none is free, and none can go.
use Rattle.std.specs.Prelude.{◌≡◌, ◌≢◌, ◌⊎◌, ◌<◌, ℕ, [], length, true, None, Some}
use Rattle.cmm_types.specs.declared.page.Tag.TheVariants.{Anon}
use Rattle.cmm_types.specs.declared.command.Op.{Op}
use Rattle.cmm_types.specs.declared.page.Tag.{Tag}
use Rattle.cmm_flat.specs.Legal.{command_of, process_of}
use Rattle.guest_pages.specs.PagesView.{info_at}
use Rattle.guest_cache.specs.CacheView.{swap_slot, free_swap, page_of}
use Rattle.guest_rules.specs.declared.parts.Parts.{Parts}
use Rattle.guest_rules.specs.declared.processor.Phase.TheVariants.{Start}
use Rattle.guest_rules.specs.GuestState.{GuestState, processor_at}
use Rattle.guest_rules.specs.Wanted.{wanted_tag}

-- the page is dirty and anonymous, and has no swap slot while all of them are assigned
pub record IsUnslotted (parts : Parts) (page : ℕ) : Type 0 where
  pub dirty : (info_at parts.pages page).dirty ≡ true
  pub slot : ℕ
  pub index : ℕ
  pub tagged : (info_at parts.pages page).tag ≡ Some (Anon slot index)
  pub none : swap_slot parts.cache (Anon slot index) ≡ None
  pub all_assigned : free_swap parts.cache ≡ None

-- no page is free, none is locked, and each is pinned or can be written nowhere
pub record IsStuck (parts : Parts) : Type 0 where
  pub full : parts.pages.free ≡ []
  pub unlocked : (page : ℕ) → page < length parts.pages.infos → (info_at parts.pages page).owner ≡ None
  pub fast : (page : ℕ) → page < length parts.pages.infos → ((info_at parts.pages page).pins ≢ 0) ⊎ IsUnslotted parts page

-- a processor looks at a command that needs a page with a tag that no page has
pub record NeedsFreePage (g : GuestState) (cpu : ℕ) (op : Op) : Type 0 where
  pub command : command_of g.plan cpu (processor_at g cpu).place ≡ Some op
  pub start : (processor_at g cpu).phase ≡ Start
  pub tag : Tag
  pub wants : wanted_tag g.parts (process_of g.plan cpu) op ≡ Some tag
  pub none : page_of g.parts.cache tag ≡ None
