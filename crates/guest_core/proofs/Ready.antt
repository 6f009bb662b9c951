-- What a guest that fits gives the calls of its turns on pages.
use Rattle.std.proofs.Common.{◌≡◌, ◌<◌, ℕ, [], ◌∷◌, length, drop, Contains, Option, Some, None, MatchOption, sym, subst, arith}
use Rattle.cmm_types.specs.declared.page.Tag.{Tag}
use Rattle.cmm_types.specs.declared.command.Op.{Op}
use Rattle.cmm_flat.specs.Legal.{command_of, flat_of}
use Rattle.cmm_io.specs.DiskView.{DiskView}
use Rattle.cmm_storage.specs.StorageView.{StorageView}
use Rattle.guest_pages.specs.Laws.PagesLaws.{Contains-first}
use Rattle.guest_cache.specs.CacheView.{IsTag, page_of}
use Rattle.guest_rules.specs.GuestState.{GuestState, processor_at}
use Rattle.guest_rules.specs.Calls.{CanTake}
use Rattle.guest_rules.specs.Fit.{Fit, answered_early}
use Rattle.guest_rules.proofs.Cases.TurnCases.{Starts, Wants}
use Rattle.guest_rules.proofs.Cases.WantedTags.{is_wanted}
use Rattle.guest_rules.proofs.Ready.ReadyCalls.{found-takes, journal-room, place-below}
use Rattle.guest_core.specs.Between.{CanEnter, CanGetTag, IsFit}

-- the tag that a command needs a page of is one
pub is_tag : (g : GuestState) (v : StorageView) (cpu : ℕ) (op : Op) (tag : Tag) → IsFit g v → Starts g cpu op → Wants g cpu op tag → IsTag g.parts.cache tag
is_tag g v cpu op tag fit starts wants = (is_wanted (flat_of g.plan g.journal) g v fit.0 cpu op tag fit.1.sizes fit.1.slots starts wants).is_tag

-- its page can be taken
pub found_takes : (g : GuestState) (v : StorageView) (page : ℕ) (tag : Tag) → IsFit g v → IsTag g.parts.cache tag → page_of g.parts.cache tag ≡ Some page → CanTake g.parts v page
found_takes g v page tag fit is found = found-takes g v fit.0 page tag fit.1 is found

-- the next free page is one of the pages
next_below : (g : GuestState) (v : StorageView) (page : ℕ) (o : Option ℕ) → IsFit g v
    → MatchOption o (g.parts.pages.free ≡ []) (λ page. g.parts.pages.free ≡ page ∷ drop 1 g.parts.pages.free) → o ≡ Some page → page < length g.parts.pages.infos
next_below g v page o fit top is =
    let first : g.parts.pages.free ≡ page ∷ drop 1 g.parts.pages.free = rw is at top in
    (fit.1.pages.free page (subst (λ free. Contains free page) (sym first) (Contains-first page (drop 1 g.parts.pages.free)))).0

-- or none is free
pub none_free : (g : GuestState) (o : Option ℕ) → MatchOption o (g.parts.pages.free ≡ []) (λ page. g.parts.pages.free ≡ page ∷ drop 1 g.parts.pages.free) → o ≡ None → g.parts.pages.free ≡ []
none_free g o top is = rw is at top

-- it can get the tag
pub next_begins : (g : GuestState) (v : StorageView) (page : ℕ) (tag : Tag) (o : Option ℕ) → IsFit g v
    → MatchOption o (g.parts.pages.free ≡ []) (λ page. g.parts.pages.free ≡ page ∷ drop 1 g.parts.pages.free) → o ≡ Some page
    → IsTag g.parts.cache tag → page_of g.parts.cache tag ≡ None → CanGetTag g.parts page tag
next_begins g v page tag o fit top is tagged none = record { below = next_below g v page o fit top is; is_tag = tagged; new = none }

-- and the storage has it
pub next_there : (g : GuestState) (v : StorageView) (page : ℕ) (o : Option ℕ) → IsFit g v
    → MatchOption o (g.parts.pages.free ≡ []) (λ page. g.parts.pages.free ≡ page ∷ drop 1 g.parts.pages.free) → o ≡ Some page → page < v.pages
next_there g v page o fit top is = omega (arith, next_below g v page o fit top is, fit.1.sizes.infos, fit.1.sizes.pages)

-- while a processor has a command that isn't answered yet, its reply can be entered
pub can_enter : (g : GuestState) (v : StorageView) (d : DiskView) (cpu : ℕ) (op : Op) → Fit g v d → cpu < length g.processors
    → command_of g.plan cpu (processor_at g cpu).place ≡ Some op → answered_early (processor_at g cpu).phase ≡ 0
    → CanEnter g cpu
can_enter g v d cpu op f below command early = record {
  there = below;
  room = journal-room g v d cpu op f below command early;
  next = omega (arith, place-below g v d cpu op f command);
}
