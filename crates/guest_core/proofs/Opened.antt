-- What the parts of a guest are at opening.
use Rattle.std.proofs.Common.{◌≡◌, List, [], ◌∷◌, length, map, replicate, refl, ap}
use Rattle.cmm_types.specs.declared.plan.TheConstants.{MAX_MAPPING_SLOTS}
use Rattle.cmm_types.specs.declared.plan.CpuPlan.{CpuPlan}
use Rattle.cmm_types.specs.declared.plan.GuestPlan.{GuestPlan}
use Rattle.cmm_types.specs.declared.command.Entry.{Entry}
use Rattle.guest_pages.specs.PagesView.{PagesView, opening_pages}
use Rattle.guest_cache.specs.CacheView.{CacheView, opening_cache}
use Rattle.guest_maps.specs.MapsView.{MapsView, opening_maps}
use Rattle.guest_rules.specs.declared.processor.Processor.{Processor}
use Rattle.guest_rules.specs.GuestState.{first_processor, opening_guest}

pub all_at_start : (cpus : List CpuPlan) → replicate (length cpus) first_processor ≡ map (λ cpu. first_processor) cpus
all_at_start [] = refl
all_at_start (cpu ∷ cpus) = ap (λ processors. first_processor ∷ processors) (all_at_start cpus)

pub opened : (plan copy : GuestPlan) (pages : PagesView) (cache : CacheView) (maps : MapsView) (journal : List Entry) (processors : List Processor)
    → copy ≡ plan → pages ≡ opening_pages plan.pages → cache ≡ opening_cache (map (λ file. file.pages) plan.files) plan.swap MAX_MAPPING_SLOTS
    → maps ≡ opening_maps plan.pages MAX_MAPPING_SLOTS → journal ≡ [] → processors ≡ map (λ cpu. first_processor) plan.cpus
    → (record { plan = copy; parts = record { pages = pages; cache = cache; maps = maps; hand = 0; faults = 0 }; journal = journal; processors = processors }) ≡ opening_guest plan
opened plan copy pages cache maps journal processors is_plan is_pages is_cache is_maps is_journal is_processors =
    rw (is_plan, is_pages, is_cache, is_maps, is_journal, is_processors) refl
