-- Fit of the whole guest, from fit of its parts, where what is known of pages and of tags is as it was: other mappings, another journal,
-- other processors.
use Rattle.std.proofs.Common.{◌≡◌, ◌*◌, ℕ, true, List, length, Option, ap, subst, ◌∙◌}
use Rattle.cmm_types.specs.declared.page.TheConstants.{PAGE}
use Rattle.cmm_types.specs.declared.page.Tag.{Tag}
use Rattle.cmm_types.specs.declared.page.Tag.TheVariants.{File, Anon}
use Rattle.cmm_types.specs.Bytes.{bytes_at}
use Rattle.cmm_types.specs.declared.command.Entry.{Entry}
use Rattle.cmm_io.specs.DiskView.{DiskView}
use Rattle.cmm_flat.specs.State.{FlatState}
use Rattle.cmm_storage.specs.StorageView.{StorageView}
use Rattle.guest_maps.specs.declared.slot.Slot.{Slot}
use Rattle.guest_maps.specs.MapsView.{MapsView, slot_at, is_live_slot}
use Rattle.guest_rules.specs.declared.processor.Processor.{Processor}
use Rattle.guest_rules.specs.GuestState.{GuestState}
use Rattle.guest_rules.specs.Fit.{SlotsFit, EntriesFit, PinsFit, LocksFit, TeardownsFit, FlatFit, JournalFit, FitAt, IsLiveOwnPage, IsFlatTag, own_bytes, flat_of_slot, flat_page, current}
use Rattle.guest_rules.proofs.Kept.FlatTags.{is_own}
use Rattle.guest_rules.proofs.Kept.TagsKept.{TagsStand}

abbrev pub with_others : GuestState → MapsView → List Entry → List Processor → GuestState
with_others g maps journal processors = record { plan = g.plan; parts = record g.parts { maps = maps }; journal = journal; processors = processors }

-- what of fit speaks of the mappings, the journal and the processors, for a flat state
pub record OthersFit (later : FlatState) (h : GuestState) : Type 0 where
  pub slots : SlotsFit later h.parts
  pub entries : EntriesFit h.parts
  pub pins : PinsFit h.parts
  pub tags : TagsStand h.parts
  pub locks : LocksFit h
  pub teardowns : TeardownsFit h
  pub journal : JournalFit h

-- also for another flat state
pub FitAt-others : (state later : FlatState) (g : GuestState) (v : StorageView) (d : DiskView) (maps : MapsView) (journal : List Entry) (processors : List Processor) → FitAt state g v d
    → FlatFit later (with_others g maps journal processors) v d → length processors ≡ length g.processors → OthersFit later (with_others g maps journal processors)
    → FitAt later (with_others g maps journal processors) v d
FitAt-others state later g v d maps journal processors f flat size others = record {
  sizes = record {
    range = f.sizes.range;
    infos = f.sizes.infos;
    pages = f.sizes.pages;
    processors = size ∙ f.sizes.processors;
    files = f.sizes.files;
    swap = f.sizes.swap;
    slots = f.sizes.slots;
    index = f.sizes.index;
    blocks = f.sizes.blocks;
  };
  pages = record { once = f.pages.once; free = f.pages.free; stacked = f.pages.stacked; bare = f.pages.bare; indexed = f.pages.indexed; found = f.pages.found };
  slots = others.slots;
  entries = others.entries;
  pins = others.pins;
  tags = record { pages = others.tags.pages; swapped = others.tags.swapped; distinct = others.tags.distinct; written = f.tags.written };
  locks = others.locks;
  teardowns = others.teardowns;
  hints = record { none_held = f.hints.none_held; values = f.hints.values; hints = f.hints.hints; volatile = f.hints.volatile; unused = f.hints.unused };
  contents = record { tells = f.contents.tells; told = f.contents.told; blocks = f.contents.blocks; not_blank = f.contents.not_blank; whole = f.contents.whole; same = f.contents.same };
  flat = flat;
  journal = others.journal;
  faults = f.faults;
}

-- the flat state is the same, and so are the slots of its mappings
pub FlatFit-others : (state : FlatState) (g : GuestState) (v : StorageView) (d : DiskView) (maps : MapsView) (journal : List Entry) (processors : List Processor) → FlatFit state g v d
    → ((slot : ℕ) → is_live_slot (slot_at maps slot) ≡ true → slot_at maps slot ≡ slot_at g.parts.maps slot) → FlatFit state (with_others g maps journal processors) v d
FlatFit-others state g v d maps journal processors f same = record { lengths = f.lengths; sound = f.sound; pages = of }
  where
    of : (tag : Tag) → IsFlatTag (record g.parts { maps = maps }) tag → flat_page state maps tag ≡ current g.parts v d tag
    of (File file index) is = f.pages (File file index) is
    of (Anon slot index) is =
        let k = is_own maps slot index is in
        let there = same slot (ap is_live_slot k.at ∙ k.live) in
        ap (λ (o : Option Slot). bytes_at (own_bytes (flat_of_slot state o)) (PAGE * index) PAGE) there
        ∙ f.pages (Anon slot index) (subst (λ (o : Option Slot). IsLiveOwnPage o index) there is)
