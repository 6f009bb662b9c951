-- Before the first turn no slot is taken, no entry is set, and nothing is pinned.
use Rattle.std.proofs.Common.{◌≡◌, ◌*◌, ℕ, Bool, true, false, get_or, replicate, Option, Some, None, ap, sym, ◌∙◌, inl, inr}
use Rattle.std.specs.FinMap as finite
use Rattle.std.proofs.lemmas.Bool.{cases_lt}
use Rattle.std.proofs.lemmas.List.{get_or-replicate, get_or_past, length-replicate}
use Rattle.cmm_types.specs.declared.command.TheConstants.{MAX_MAPPING_PAGES}
use Rattle.cmm_types.specs.declared.plan.TheConstants.{MAX_MAPPING_SLOTS}
use Rattle.cmm_types.specs.declared.page.Tag.{Tag}
use Rattle.cmm_types.specs.declared.plan.GuestPlan.{GuestPlan}
use Rattle.cmm_flat.specs.declared.mapping.Mapping.{Mapping}
use Rattle.cmm_flat.specs.Mapping.{key_cmp}
use Rattle.cmm_flat.specs.State.{opening, key_of}
use Rattle.guest_pages.specs.declared.info.PageInfo.{PageInfo}
use Rattle.guest_pages.specs.PagesView.{free_info, info_at, opening_pages}
use Rattle.guest_maps.specs.declared.slot.Pte.{Pte}
use Rattle.guest_maps.specs.declared.slot.Slot.{Slot}
use Rattle.guest_maps.specs.MapsView.{slot_at, entry_at, pinned_at, opening_maps}
use Rattle.guest_maps.specs.Laws.MapsLaws.{slot_at-opening, find_slot-opening, live_slots-opening, entry_at-opening, pinned_at-opening, writers_showing-opening}
use Rattle.guest_rules.specs.GuestState.{opening_guest}
use Rattle.guest_rules.specs.Fit.{SlotsFit, EntriesFit, PinsFit, shape_of, flat_found}
use Rattle.guest_rules.proofs.Kept.TagsKept.{TagsStand}

-- a list of one value has no other
pub all-one : {X : Type 0} (count : ℕ) (x : X) (i : ℕ) → get_or (replicate count x) i x ≡ x
all-one count x i = elim (cases_lt i count) [
  | inl below ↦ get_or-replicate count i x x below
  | inr past ↦ get_or_past (replicate count x) i x (rw length-replicate past)
]

pub info-opening : (count page : ℕ) → info_at (opening_pages count) page ≡ free_info
info-opening count page = all-one count free_info page

-- what an opening has none of
pub none_slot : (plan : GuestPlan) (slot : ℕ) (mapping : Slot) → slot_at (opening_guest plan).parts.maps slot ≡ Some mapping → ⊥
none_slot plan slot mapping e = let bad : None ≡ Some mapping = sym (slot_at-opening plan.pages MAX_MAPPING_SLOTS slot) ∙ e in cc

none_entry : (plan : GuestPlan) (slot index : ℕ) (pte : Pte) → entry_at (opening_guest plan).parts.maps slot index ≡ Some pte → ⊥
none_entry plan slot index pte e = let bad : None ≡ Some pte = sym (entry_at-opening plan.pages MAX_MAPPING_SLOTS slot index) ∙ e in cc

none_pinned : (plan : GuestPlan) (slot index : ℕ) → pinned_at (opening_guest plan).parts.maps slot index ≡ true → ⊥
none_pinned plan slot index e = let bad : false ≡ true = sym (pinned_at-opening plan.pages MAX_MAPPING_SLOTS slot index) ∙ e in cc

pub SlotsFit-opening : (plan : GuestPlan) → SlotsFit (opening plan.files) (opening_guest plan).parts
unfolding opening_maps
SlotsFit-opening plan = record {
  slots = length-replicate {A = Option Slot} MAX_MAPPING_SLOTS None;
  entries = length-replicate {A = Option Pte} (MAX_MAPPING_SLOTS * MAX_MAPPING_PAGES) None;
  pinned = length-replicate {A = Bool} (MAX_MAPPING_SLOTS * MAX_MAPPING_PAGES) false;
  pages = sym (length-replicate plan.pages free_info);
  apart = λ slot other mapping another e e' live live' process number. absurd (none_slot plan slot mapping e);
  flat = λ process number.
      ap shape_of (finite.get-empty key_cmp (key_of process number))
      ∙ sym (ap (flat_found (opening_maps plan.pages MAX_MAPPING_SLOTS)) (find_slot-opening plan.pages MAX_MAPPING_SLOTS process number));
  counted = finite.len-empty key_cmp Mapping ∙ sym (live_slots-opening plan.pages MAX_MAPPING_SLOTS);
  some = λ slot mapping e. absurd (none_slot plan slot mapping e);
  shown = λ slot mapping e. absurd (none_slot plan slot mapping e);
  placed = λ slot index below e. absurd (none_pinned plan slot index e);
}

pub EntriesFit-opening : (plan : GuestPlan) → EntriesFit (opening_guest plan).parts
EntriesFit-opening plan = record {
  entry = λ slot index pte lt e. absurd (none_entry plan slot index pte e);
  writers = λ page. ap (λ (i : PageInfo). i.writers) (info-opening plan.pages page) ∙ sym (writers_showing-opening plan.pages MAX_MAPPING_SLOTS page);
}

pub PinsFit-opening : (plan : GuestPlan) → PinsFit (opening_guest plan).parts
PinsFit-opening plan = record {
  counted = λ page tag some. let bad : None ≡ Some tag = ap (λ (i : PageInfo). i.tag) (sym (info-opening plan.pages page)) ∙ some in absurd cc;
  kept = λ slot index tag below e mapped. absurd (none_pinned plan slot index e);
}

pub TagsStand-opening : (plan : GuestPlan) → TagsStand (opening_guest plan).parts
TagsStand-opening plan = record {
  pages = λ page tag some. let bad : None ≡ Some tag = ap (λ (i : PageInfo). i.tag) (sym (info-opening plan.pages page)) ∙ some in absurd cc;
  swapped = λ number tag e. absurd (none_swapped number tag e);
  distinct = λ number other tag e e'. absurd (none_swapped number tag e);
}
  where
    none_swapped : (number : ℕ) (tag : Tag) → get_or (replicate plan.swap None) number None ≡ Some tag → ⊥
    none_swapped number tag e = let bad : None ≡ Some tag = sym (all-one plan.swap None number) ∙ e in cc
