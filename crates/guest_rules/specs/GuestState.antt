-- What a guest has: its plan, its tables, its journal, and where its processors are.
use Rattle.std.specs.Prelude.{ℕ, ◌+◌, ◌++◌, List, [], ◌∷◌, map, slice_set, slice_index_or}
use Rattle.cmm_types.specs.declared.plan.TheConstants.{MAX_MAPPING_SLOTS}
use Rattle.guest_pages.specs.PagesView.{opening_pages}
use Rattle.guest_cache.specs.CacheView.{opening_cache}
use Rattle.guest_maps.specs.MapsView.{opening_maps}
use Rattle.cmm_types.specs.declared.plan.GuestPlan.{GuestPlan}
use Rattle.cmm_types.specs.declared.command.Op.{Op}
use Rattle.cmm_types.specs.declared.command.Reply.{Reply}
use Rattle.cmm_types.specs.declared.command.Entry.{Entry}
use Rattle.guest_rules.specs.declared.parts.Parts.{Parts}
use Rattle.guest_rules.specs.declared.processor.Phase.{Phase}
use Rattle.guest_rules.specs.declared.processor.Phase.TheVariants.{Start}
use Rattle.guest_rules.specs.declared.processor.Processor.{Processor}

pub record GuestState : Type 0 where
  pub plan : GuestPlan
  pub parts : Parts
  pub journal : List Entry
  pub processors : List Processor

abbrev pub first_processor : Processor
first_processor = record { place = 0; phase = Start }

abbrev pub processor_at : GuestState → ℕ → Processor
processor_at g cpu = slice_index_or g.processors cpu first_processor

abbrev pub with_parts : GuestState → Parts → GuestState
with_parts g parts = record g { parts = parts }

abbrev pub with_processor : GuestState → ℕ → Processor → GuestState
with_processor g cpu processor = record g { processors = slice_set g.processors cpu processor }

unfoldable pub with_phase : GuestState → ℕ → Phase → GuestState
with_phase g cpu phase = with_processor g cpu (record { place = (processor_at g cpu).place; phase = phase })

-- the reply stands in the journal, and the processor goes on to its next command
unfoldable pub entered : GuestState → ℕ → Op → Reply → GuestState
entered g cpu op reply =
    record g {
      journal = g.journal ++ record { cpu = cpu; k = (processor_at g cpu).place; op = op; reply = reply } ∷ [];
      processors = slice_set g.processors cpu (record { place = (processor_at g cpu).place + 1; phase = Start });
    }

-- the reply stands in the journal while the processor's command goes on, in this phase
unfoldable pub answered : GuestState → ℕ → Op → Reply → Phase → GuestState
answered g cpu op reply phase =
    record g {
      journal = g.journal ++ record { cpu = cpu; k = (processor_at g cpu).place; op = op; reply = reply } ∷ [];
      processors = slice_set g.processors cpu (record { place = (processor_at g cpu).place; phase = phase });
    }

-- a processor whose command was answered goes on to its next one
unfoldable pub next_command : GuestState → ℕ → GuestState
next_command g cpu = with_processor g cpu (record { place = (processor_at g cpu).place + 1; phase = Start })

-- a guest before its first turn: every page is free, nothing is cached, and no command has its reply
abbrev pub opening_guest : GuestPlan → GuestState
opening_guest plan = record {
  plan = plan;
  parts = record {
    pages = opening_pages plan.pages;
    cache = opening_cache (map (λ file. file.pages) plan.files) plan.swap MAX_MAPPING_SLOTS;
    maps =
        opening_maps plan.pages MAX_MAPPING_SLOTS;
    hand = 0;
    faults = 0;
  };
  journal = [];
  processors = map (λ cpu. first_processor) plan.cpus;
}
