-- The tag of the page that an accepted command needs, and the room for a new mapping.
use Rattle.std.specs.Prelude.{◌≡◌, ◌≢◌, ◌<◌, ◌≤◌, ◌==◌, ℕ, ◌+◌, ◌*◌, ◌/◌, nat_le, if◌then◌else◌, List, length, Bool, true, false, not, Option, Some, None, is_some, refl}
use Rattle.std.proofs.Common.{arith, ap, sym, subst, ◌∙◌}
use Rattle.std.proofs.lemmas.Bool.{eqb-true, eq-eqb}
use Rattle.std.proofs.lemmas.Bool.Decides.{nat_tests}
use Rattle.cmm_types.specs.declared.page.TheConstants.{PAGE}
use Rattle.cmm_types.specs.declared.page.Tag.{Tag}
use Rattle.cmm_types.specs.declared.page.Tag.TheVariants.{File}
use Rattle.cmm_types.specs.declared.plan.TheConstants.{MAX_CPUS, MAX_LIVE_MAPPINGS, MAX_MAPPING_SLOTS}
use Rattle.cmm_types.specs.declared.command.TheConstants.{MAX_MAPPING_PAGES}
use Rattle.cmm_types.specs.declared.command.Op.{Op}
use Rattle.cmm_types.specs.declared.command.Op.TheVariants.{Read, Write, Load, Store}
use Rattle.cmm_types.specs.declared.command.FlatRefusal.TheVariants.{OutOfRange, TooManyMaps}
use Rattle.cmm_io.specs.DiskView.{DiskView}
use Rattle.cmm_flat.specs.State.{FlatState}
use Rattle.cmm_flat.specs.Legal.{process_of}
use Rattle.cmm_storage.specs.StorageView.{StorageView}
use Rattle.guest_pages.specs.PagesView.{info_at}
use Rattle.guest_maps.specs.declared.slot.Pte.{Pte}
use Rattle.guest_maps.specs.declared.slot.Slot.{Slot}
use Rattle.guest_maps.specs.MapsView.{slot_at, find_slot, free_slot, live_slots, is_torn, torn_slots, entry_at, tag_of, tag_at}
use Rattle.guest_maps.specs.Laws.MapsLaws.{free_slot-some}
use Rattle.guest_rules.specs.declared.processor.Phase.{Phase}
use Rattle.guest_rules.specs.declared.processor.Phase.TheVariants.{Start, Fill, Room as AtRoom, Sync as AtSync, SyncWrite, Teardown}
use Rattle.guest_rules.specs.GuestState.{GuestState, processor_at}
use Rattle.guest_rules.specs.Turns.{mapping_pages, refusal_at, refusal_of_new}
use Rattle.cmm_types.specs.Sums.{sum_below, one_if}
use Rattle.guest_rules.specs.Fit.{TeardownsFit, FitAt}
use Rattle.guest_rules.proofs.Cases.TurnCases.{Starts, Wants, Maps, CanBeSet, pin_op, ShowsPage}
use Rattle.guest_rules.proofs.Cases.MapsFound.{found_slot, tag_at-place}
use Rattle.guest_rules.proofs.Kept.PageFits.{tagged-below}
use Rattle.guest_rules.proofs.Kept.PinLaws.{sum_below-at, sum_below-most}
use Rattle.guest_rules.proofs.Kept.Sums.{sum_below-mono, sum_below-swap, sum_below-single, count_below, at_most, at_most-then}
use Rattle.cmm_flat.specs.Laws.CommandLaws.{command_in_range}
use Rattle.guest_rules.proofs.Fit.StepResolved.{accepted_at}

within_pages : (off len pages : ℕ) → off + len ≤ PAGE * pages → 1 ≤ len → off / PAGE < pages
within_pages off len pages h some = omega (arith, h, some)

-- what a command works on
pub data Uses (g : GuestState) (cpu : ℕ) (op : Op) (tag : Tag) : Type 0 where
  -- it reads the tag's page
  reads : (file off len : ℕ) → op ≡ Read file off len → tag ≡ File file (off / PAGE) → Uses g cpu op tag
  -- it writes to the tag's page
  overwrites : (file off : ℕ) (bytes : List ℕ) → op ≡ Write file off bytes → tag ≡ File file (off / PAGE) → Uses g cpu op tag
  -- it sets the entry that is to show the tag's page
  sets : (writes : Bool) (slot off : ℕ) → Maps g cpu op writes slot off → CanBeSet (entry_at g.parts.maps slot (off / PAGE)) writes → Uses g cpu op tag
  -- it pins the place of the tag, or unpins it
  places : (pins : Bool) (number index slot : ℕ) → op ≡ pin_op pins number index → find_slot g.parts.maps (process_of g.plan cpu) number ≡ Some slot → Uses g cpu op tag

-- an accepted command, and the tag of the page that it needs
pub record Proceeds (g : GuestState) (cpu : ℕ) (op : Op) (tag : Tag) : Type 0 where
  pub starts : Starts g cpu op
  pub wants : Wants g cpu op tag
  pub uses : Uses g cpu op tag

-- the command loads or stores at a page of the mapping in a slot
pub record Reaches (g : GuestState) (cpu : ℕ) (op : Op) (writes : Bool) (slot off : ℕ) : Type 0 where
  pub starts : Starts g cpu op
  pub maps : Maps g cpu op writes slot off
  pub tag : Tag
  pub shown : tag_at g.parts.maps slot (off / PAGE) ≡ Some tag
  pub wants : Wants g cpu op tag
  pub within : off / PAGE < MAX_MAPPING_PAGES

-- what stands at a page of the mapping in a slot
record IsShownAt (g : GuestState) (slot index : ℕ) : Type 0 where
  tag : Tag
  shown : tag_at g.parts.maps slot index ≡ Some tag
  within : index < MAX_MAPPING_PAGES

-- state the flat machine's state, g the guest, v its storage, d its disk
module _ (state : FlatState) (g : GuestState) (v : StorageView) (d : DiskView) where
  -- a load or store that isn't refused reaches a page of its mapping
  reached : (process number : ℕ) (writes : Bool) (off len slot : ℕ) → FitAt state g v d → find_slot g.parts.maps process number ≡ Some slot
      → refusal_at g.parts.maps writes off len (find_slot g.parts.maps process number) ≡ None → 1 ≤ len → IsShownAt g slot (off / PAGE)
  reached process number writes off len slot f found accepted some =
      let at = found_slot g.parts.maps process number slot found in
      let accepted' : refusal_at g.parts.maps writes off len (Some slot) ≡ None = ap (λ q. refusal_at g.parts.maps writes off len q) (sym found) ∙ accepted in
      let room : off + len ≤ PAGE * mapping_pages (slot_at g.parts.maps slot) = (accepted_at g.parts.maps writes slot off len accepted').within in
      let within : off / PAGE < at.mapping.count = within_pages off len at.mapping.count (rw at.at at room) some in
      record {
        tag = tag_of at.mapping.shown slot (off / PAGE);
        shown = tag_at-place g.parts.maps slot (off / PAGE) at.mapping at.at within;
        within =
            omega (arith, within, (f.slots.shown slot at.mapping at.at).0);
      }

  pub load_reaches : (cpu number off len slot : ℕ) → FitAt state g v d → Starts g cpu (Load number off len) → find_slot g.parts.maps (process_of g.plan cpu) number ≡ Some slot
      → Reaches g cpu (Load number off len) false slot off
  load_reaches cpu number off len slot f starts found =
      let range = command_in_range g.plan cpu (processor_at g cpu).place (Load number off len) f.sizes.range starts.has.command in
      let k = reached (process_of g.plan cpu) number false off len slot f found starts.accepted range.1.some in
      record { starts = starts; maps = (refl, found, refl); tag = k.tag; shown = k.shown; wants = rw found k.shown; within = k.within }

  pub store_reaches : (cpu number off : ℕ) (bytes : List ℕ) (slot : ℕ) → FitAt state g v d → Starts g cpu (Store number off bytes) → find_slot g.parts.maps (process_of g.plan cpu) number ≡ Some slot
      → Reaches g cpu (Store number off bytes) true slot off
  store_reaches cpu number off bytes slot f starts found =
      let range = command_in_range g.plan cpu (processor_at g cpu).place (Store number off bytes) f.sizes.range starts.has.command in
      let k = reached (process_of g.plan cpu) number true off (length bytes) slot f found starts.accepted range.1.some in
      record { starts = starts; maps = (refl, found, refl); tag = k.tag; shown = k.shown; wants = rw found k.shown; within = k.within }

  -- the page of the entry that a load or store finds has the place's tag, and is up to date
  pub entry_page : (cpu : ℕ) (op : Op) (writes : Bool) (slot off : ℕ) (pte : Pte) → FitAt state g v d → (k : Reaches g cpu op writes slot off) → entry_at g.parts.maps slot (off / PAGE) ≡ Some pte
      → ShowsPage g k.tag pte.page
  entry_page cpu op writes slot off pte f k at =
      let is = f.entries.entry slot (off / PAGE) pte k.within at in
      let both : Some is.tag ≡ Some k.tag = sym is.mapped ∙ k.shown in
      let same : is.tag ≡ k.tag = cc in
      let tagged : (info_at g.parts.pages pte.page).tag ≡ Some k.tag = is.tagged ∙ ap Some same in
      record { below = tagged-below g.parts.pages pte.page k.tag tagged; tagged = tagged; uptodate = is.uptodate }

fewer : (within : Bool) (live : ℕ) → (if within then (if nat_le MAX_LIVE_MAPPINGS live then Some TooManyMaps else None) else Some OutOfRange) ≡ None → live < MAX_LIVE_MAPPINGS
fewer within live e = grind (arith, nat_tests)

-- ---- a free slot

-- a processor in this phase tears down the mapping that was in the slot
abbrev pub tears_slot : Phase → ℕ → Bool
tears_slot Start s = false
tears_slot (Fill page) s = false
tears_slot (AtRoom page) s = false
tears_slot (AtSync index) s = false
tears_slot (SyncWrite index page) s = false
tears_slot (Teardown slot index) s = slot == s

pub tears_slot-is : (phase : Phase) (slot index : ℕ) → phase ≡ Teardown slot index → tears_slot phase slot ≡ true
tears_slot-is phase slot index e = ap (λ p. tears_slot p slot) e ∙ eq-eqb slot slot refl

-- of one processor it is one slot at most
pub one_slot : (phase : Phase) (a b : ℕ) → one_if (tears_slot phase a) ≢ 0 → one_if (tears_slot phase b) ≢ 0 → a ≡ b
one_slot Start a b x y = absurd (x refl)
one_slot (Fill page) a b x y = absurd (x refl)
one_slot (AtRoom page) a b x y = absurd (x refl)
one_slot (AtSync index) a b x y = absurd (x refl)
one_slot (SyncWrite index page) a b x y = absurd (x refl)
one_slot (Teardown slot index) a b x y = sym (is a x) ∙ is b y
  where
    is : (s : ℕ) → one_if (slot == s) ≢ 0 → slot ≡ s
    is s some = eqb-true slot s (not_zero (slot == s) some)
      where
        not_zero : (t : Bool) → one_if t ≢ 0 → t ≡ true
        not_zero true h = refl
        not_zero false h = absurd (h refl)

one_most : (b : Bool) → one_if b ≤ 1
one_most true = omega arith
one_most false = omega arith

-- at most as many slots are being torn down as there are processors
pub torn-few : (g : GuestState) → TeardownsFit g → torn_slots g.parts.maps ≤ length g.processors
torn-few g f =
    let each = sum_below-mono (λ s. one_if (is_torn (slot_at g.parts.maps s))) (λ s. sum_below (λ cpu. one_if (tears cpu s)) count) slots (λ s h. by_slot s (slot_at g.parts.maps s) refl) in
    let swap = sum_below-swap (λ s cpu. one_if (tears cpu s)) slots count in
    let ones = sum_below-mono (λ cpu. sum_below (λ s. one_if (tears cpu s)) slots) (λ cpu. 1) count
    (λ cpu h. sum_below-single (λ s. one_if (tears cpu s)) 1 slots (λ s _. one_most (tears cpu s)) (λ a b _ _. one_slot (processor_at g cpu).phase a b)) in
    let most = no_more count (sum_below-most (λ cpu. 1) 1 count (λ i h. omega arith)) in
    at_most-then (at_most (count_below is_torn None g.parts.maps.slots)) (at_most-then each (at_most-then (at_most swap) (at_most-then ones most)))
  where
    slots : ℕ
    slots = length g.parts.maps.slots

    count : ℕ
    count = length g.processors

    tears : ℕ → ℕ → Bool
    tears cpu s = tears_slot (processor_at g cpu).phase s

    no_more : (n : ℕ) {m : ℕ} → m ≤ n * 1 → m ≤ n
    no_more n h = omega (arith, h)

    by_slot : (s : ℕ) (o : Option Slot) → slot_at g.parts.maps s ≡ o → one_if (is_torn o) ≤ sum_below (λ cpu. one_if (tears cpu s)) count
    by_slot s None at = omega arith
    by_slot s (Some mapping) at = by_live mapping.live refl
      where
        by_live : (b : Bool) → mapping.live ≡ b → one_if (not mapping.live) ≤ sum_below (λ cpu. one_if (tears cpu s)) count
        by_live true live = subst (λ b. one_if (not b) ≤ sum_below (λ cpu. one_if (tears cpu s)) count) (sym live) (omega arith)
        by_live false not_live =
            let k = f.torn s mapping at not_live in
            let below = (f.tearing k.0 s k.1 k.2).cpu_below in
            let one : one_if (tears k.0 s) ≡ 1 = ap one_if (tears_slot-is (processor_at g k.0).phase s k.1 k.2) in
            at_most-then (one_most (not mapping.live)) (at_most-then (at_most (sym one)) (sum_below-at (λ cpu. one_if (tears cpu s)) k.0 count below))

-- where a new mapping isn't refused, some slot is free
pub has_free_slot : (state : FlatState) (g : GuestState) (v : StorageView) (d : DiskView) (are_there : Bool) (found : Option ℕ) → FitAt state g v d → refusal_of_new g are_there found ≡ None
    → free_slot g.parts.maps ≡ None → ⊥
has_free_slot state g v d are_there found f accepted none =
    let few = accepted_new found accepted in
    let torn : torn_slots g.parts.maps ≤ MAX_CPUS = at_most-then (torn-few g f.teardowns) (at_most-then (at_most f.sizes.processors) f.sizes.range.cpus.few) in
    let some = free_slot-some g.parts.maps (room (live_slots g.parts.maps) (torn_slots g.parts.maps) (length g.parts.maps.slots) few torn f.slots.slots) in
    let bad : true ≡ false = sym some ∙ ap is_some none in cc
  where
    accepted_new : (o : Option ℕ) → refusal_of_new g are_there o ≡ None → live_slots g.parts.maps < MAX_LIVE_MAPPINGS
    accepted_new None e = fewer are_there (live_slots g.parts.maps) e
    accepted_new (Some slot) e = absurd (cc e)

    room : (live torn slots : ℕ) → live < MAX_LIVE_MAPPINGS → torn ≤ MAX_CPUS → slots ≡ MAX_MAPPING_SLOTS → live + torn < slots
    room live torn slots few most all = omega (arith, few, most, all)
