-- How many turns a processor has at most to the end of its command, over a storage that never misses.
use Rattle.std.specs.Prelude.{◌≡◌, ◌≢◌, ◌⊎◌, ◌≤◌, ℕ, ◌+◌, ◌*◌, ◌/◌, List, [], ◌∷◌, Bool, true, false, Option, Some, None, refl}
use Rattle.std.proofs.Common.{arith, inl, inr, sym, ap, subst, ◌∙◌}
use Rattle.cmm_types.specs.declared.page.TheConstants.{PAGE}
use Rattle.cmm_types.specs.declared.page.Tag.{Tag}
use Rattle.cmm_types.specs.declared.command.Op.{Op}
use Rattle.cmm_types.specs.declared.command.Op.TheVariants.{Read, Write, Sync, MapFile, MapAnon, Unmap, Load, Store, Pin, Unpin}
use Rattle.cmm_flat.specs.Legal.{command_of, process_of, CanNeedPage}
use Rattle.essa_state.specs.PageValue.{is_lost}
use Rattle.cmm_storage.specs.StorageView.{StorageView}
use Rattle.guest_pages.specs.PagesView.{info_at}
use Rattle.guest_cache.specs.CacheView.{page_of}
use Rattle.guest_maps.specs.declared.slot.Pte.{Pte}
use Rattle.guest_maps.specs.MapsView.{slot_at, entry_at}
use Rattle.guest_rules.specs.declared.processor.Phase.{Phase}
use Rattle.guest_rules.specs.declared.processor.Phase.TheVariants.{Start, Fill, Room as AtRoom, Sync as AtSync, SyncWrite, Teardown}
use Rattle.guest_rules.specs.GuestState.{GuestState, processor_at}
use Rattle.guest_rules.specs.Turns.{file_pages, mapping_pages}
use Rattle.guest_rules.specs.Syncs.{cleaned}
use Rattle.guest_rules.specs.MakeRoom.{first_to_go}
use Rattle.guest_rules.specs.Stuck.{NeedsFreePage}
use Rattle.guest_rules.specs.Fit.{LocksFit, TeardownsFit}
use Rattle.guest_rules.specs.Alone.{pages_to_tear, turns_of}
use Rattle.guest_rules.proofs.Causes.SyncPhases.{LooksAt, looks-index, looks_not_fills, looks_not_writes, looks_not_pages_out}
use Rattle.guest_rules.proofs.Cases.TurnCases.{Wants, Maps, CanBeSet, wanted_tag}

-- a command that doesn't go through pages one after another, as a sync and an unmap do
abbrev pub IsShort : Op → Type 0
IsShort (Read file off len) = Unit {0}
IsShort (Write file off bytes) = Unit {0}
IsShort (Sync file) = ⊥
IsShort (MapFile number file first count writable) = Unit {0}
IsShort (MapAnon number count) = Unit {0}
IsShort (Unmap number) = ⊥
IsShort (Load number off len) = Unit {0}
IsShort (Store number off bytes) = Unit {0}
IsShort (Pin number index) = Unit {0}
IsShort (Unpin number index) = Unit {0}

pub needs-short : (op : Op) → CanNeedPage op → IsShort op
needs-short (Sync file) needs = absurd needs
needs-short (Unmap number) needs = absurd needs
needs-short op needs = tt

-- the entry at the place of a load or store serves it
pub record IsServed (g : GuestState) (cpu : ℕ) (op : Op) : Type 0 where
  pub writes : Bool
  pub slot : ℕ
  pub off : ℕ
  pub maps : Maps g cpu op writes slot off
  pub pte : Pte
  pub at : entry_at g.parts.maps slot (off / PAGE) ≡ Some pte
  pub allows : writes ≡ true → pte.writable ≡ true

-- g the guest, v its storage, cpu the processor
module _ (g : GuestState) (v : StorageView) (cpu : ℕ) where
  -- the command's page is there, and isn't lost
  pub record HasItsPage (op : Op) (lost : Bool) : Type 0 where
    pub start : (processor_at g cpu).phase ≡ Start
    pub tag : Tag
    pub page : ℕ
    pub wants : Wants g cpu op tag
    pub found : page_of g.parts.cache tag ≡ Some page
    pub lost_is : is_lost (v.values page).contents ≡ lost

  -- the command needs a page, and none is free; the first page that can go is neither dirty nor changed, so that the next turn frees it
  pub record ClearsNext (op : Op) (page : ℕ) : Type 0 where
    pub needs : NeedsFreePage g cpu op
    pub full : g.parts.pages.free ≡ []
    pub first : first_to_go g.parts ≡ Some page
    pub clean : (info_at g.parts.pages page).dirty ≡ false
    pub unchanged : (v.values page).changed ≡ false

  -- the processor writes a page back to make room for its command. Once that is done the page is the first that can go, and clean
  pub record PagesOutOwn (op : Op) (page : ℕ) : Type 0 where
    pub phase : (processor_at g cpu).phase ≡ AtRoom page
    pub tag : Tag
    pub wants : Wants g cpu op tag
    pub none : page_of g.parts.cache tag ≡ None
    pub full : g.parts.pages.free ≡ []
    pub next : first_to_go (cleaned g.parts page) ≡ Some page
    pub unchanged : (v.values page).changed ≡ false

  -- at most so many turns are left of this command. Where its page is there it is one less for a read. That a page is filled for another
  -- tag than the command's doesn't come, nor that one is written back that isn't the next to go, but both cost nothing here. A sync looks at
  -- each page of its file from its index on, and may write it back; an unmap is answered, and takes off each page of its mapping from its index on
  pub data OpRank (op : Op) (left : ℕ) : Type 0 where
    no_tag : (processor_at g cpu).phase ≡ Start → IsShort op → wanted_tag g.parts (process_of g.plan cpu) op ≡ None → 1 ≤ left → OpRank op left
    served : HasItsPage op false → IsServed g cpu op → 1 ≤ left → OpRank op left
    has_page : HasItsPage op false → 2 ≤ left → OpRank op left
    fills_own : (page : ℕ) (tag : Tag) → (processor_at g cpu).phase ≡ Fill page → Wants g cpu op tag → (info_at g.parts.pages page).tag ≡ Some tag → 3 ≤ left → OpRank op left
    has_none : (tag : Tag) → (processor_at g cpu).phase ≡ Start → Wants g cpu op tag → page_of g.parts.cache tag ≡ None → g.parts.pages.free ≢ [] → 4 ≤ left → OpRank op left
    has_lost : HasItsPage op true → 5 ≤ left → OpRank op left
    room_clean : (page : ℕ) → ClearsNext op page → 5 ≤ left → OpRank op left
    pages_out_own : (page : ℕ) → PagesOutOwn op page → 6 ≤ left → OpRank op left
    needs_room : NeedsFreePage g cpu op → g.parts.pages.free ≡ [] → 7 ≤ left → OpRank op left
    fills : (page : ℕ) → (processor_at g cpu).phase ≡ Fill page → 8 ≤ left → OpRank op left
    pages_out : (page : ℕ) → (processor_at g cpu).phase ≡ AtRoom page → 8 ≤ left → OpRank op left
    at_look : (file index : ℕ) → op ≡ Sync file → LooksAt g cpu index → 2 * file_pages g.plan.files file ≤ left + 2 * index → 1 ≤ left → OpRank op left
    at_write : (file index page : ℕ) → op ≡ Sync file → (processor_at g cpu).phase ≡ SyncWrite index page → 2 * file_pages g.plan.files file ≤ left + 2 * index + 1 → 1 ≤ left → OpRank op left
    unmaps : (number : ℕ) → op ≡ Unmap number → (processor_at g cpu).phase ≡ Start → pages_to_tear g cpu number Start + 1 ≤ left → 2 ≤ left → OpRank op left
    tears : (number slot index : ℕ) → op ≡ Unmap number → (processor_at g cpu).phase ≡ Teardown slot index → mapping_pages (slot_at g.parts.maps slot) ≤ left + index → 1 ≤ left → OpRank op left

  pub data Rank (left : ℕ) : Type 0 where
    no_command : command_of g.plan cpu (processor_at g cpu).place ≡ None → 1 ≤ left → Rank left
    has_command : (op : Op) → command_of g.plan cpu (processor_at g cpu).place ≡ Some op → OpRank op left → Rank left

  op_rank_some : (op : Op) (left : ℕ) → OpRank op left → 1 ≤ left
  op_rank_some op left (no_tag start short none h) = h
  op_rank_some op left (served has is h) = h
  op_rank_some op left (has_page has h) = omega (arith, h)
  op_rank_some op left (fills_own page tag phase wants tagged h) = omega (arith, h)
  op_rank_some op left (has_none tag start wants none some h) = omega (arith, h)
  op_rank_some op left (has_lost has h) = omega (arith, h)
  op_rank_some op left (room_clean next k h) = omega (arith, h)
  op_rank_some op left (pages_out_own out k h) = omega (arith, h)
  op_rank_some op left (needs_room k full h) = omega (arith, h)
  op_rank_some op left (pages_out out at h) = omega (arith, h)
  op_rank_some op left (fills page phase h) = omega (arith, h)
  op_rank_some op left (at_look file index is looks h some) = some
  op_rank_some op left (at_write file index page is phase h some) = some
  op_rank_some op left (unmaps number is start h some) = omega (arith, some)
  op_rank_some op left (tears number slot index is phase h some) = some

  pub rank_some : (left : ℕ) → Rank left → 1 ≤ left
  rank_some left (no_command none h) = h
  rank_some left (has_command op command rank) = op_rank_some op left rank

  -- op its command, left how many turns are left
  module _ (op : Op) (left : ℕ) where
    -- the rank of a processor that has this command
    pub rank_of : command_of g.plan cpu (processor_at g cpu).place ≡ Some op → Rank left → OpRank op left
    rank_of command (no_command none h) = let bad : None ≡ Some op = sym none ∙ command in absurd cc
    rank_of command (has_command op' command' rank) =
        let both : Some op' ≡ Some op = sym command' ∙ command in
        let same : op' ≡ op = cc in
        subst (λ q. OpRank q left) same rank

    -- a processor in phase Start whose command is short has at most 7 turns left
    start_page : (lost : Bool) → HasItsPage op lost → 7 ≤ left → OpRank op left
    start_page true has h = has_lost has (omega (arith, h))
    start_page false has h = has_page has (omega (arith, h))

    start_wanting : (free : List ℕ) → NeedsFreePage g cpu op → g.parts.pages.free ≡ free → 7 ≤ left → OpRank op left
    start_wanting [] k full h = needs_room k full h
    start_wanting (page ∷ rest) k free h = has_none k.tag k.start k.wants k.none (λ full. let bad : page ∷ rest ≡ [] = sym free ∙ full in cc) (omega (arith, h))

    start_found : (tag : Tag) (page : Option ℕ) → command_of g.plan cpu (processor_at g cpu).place ≡ Some op → (processor_at g cpu).phase ≡ Start → 7 ≤ left → Wants g cpu op tag
        → page_of g.parts.cache tag ≡ page → OpRank op left
    start_found tag None command start h wants none = start_wanting g.parts.pages.free (record { command = command; start = start; tag = tag; wants = wants; none = none }) refl h
    start_found tag (Some page) command start h wants found =
        start_page (is_lost (v.values page).contents) (record { start = start; tag = tag; page = page; wants = wants; found = found; lost_is = refl }) h

    start_tagged : (tag : Option Tag) → command_of g.plan cpu (processor_at g cpu).place ≡ Some op → (processor_at g cpu).phase ≡ Start → IsShort op → 7 ≤ left
        → wanted_tag g.parts (process_of g.plan cpu) op ≡ tag → OpRank op left
    start_tagged None command start short h none = no_tag start short none (omega (arith, h))
    start_tagged (Some tag) command start short h wants = start_found tag (page_of g.parts.cache tag) command start h wants refl

    pub start_rank : command_of g.plan cpu (processor_at g cpu).place ≡ Some op → (processor_at g cpu).phase ≡ Start → IsShort op → 7 ≤ left → OpRank op left
    start_rank command start short h = start_tagged (wanted_tag g.parts (process_of g.plan cpu) op) command start short h refl

    -- and every processor whose command is short at most 12, of which it needs 8
    phase_rank : (phase : Phase) → LocksFit g → TeardownsFit g → command_of g.plan cpu (processor_at g cpu).place ≡ Some op → IsShort op → (processor_at g cpu).phase ≡ phase → 8 ≤ left
        → OpRank op left
    phase_rank Start f downs command short phase h = start_rank command phase short (omega (arith, h))
    phase_rank (Fill page) f downs command short phase h = fills page phase h
    phase_rank (AtRoom page) f downs command short phase h = pages_out page phase h
    phase_rank (AtSync index) f downs command short phase h =
        let (file, k) = f.syncing cpu index phase in
        let both : Some op ≡ Some (Sync file) = sym command ∙ k.command in
        let same : op ≡ Sync file = cc in
        absurd (subst IsShort same short)
    phase_rank (SyncWrite index page) f downs command short phase h =
        let k = f.writing cpu index page phase in
        let both : Some op ≡ Some (Sync k.file) = sym command ∙ k.syncing.command in
        let same : op ≡ Sync k.file = cc in
        absurd (subst IsShort same short)
    phase_rank (Teardown slot index) f downs command short phase h =
        let k = downs.tearing cpu slot index phase in
        let both : Some op ≡ Some (Unmap k.number) = sym command ∙ k.command in
        let same : op ≡ Unmap k.number = cc in
        absurd (subst IsShort same short)

some_turns : (pages : ℕ) → (pages + 1 ≤ 12 + 3 * pages) × (2 ≤ 12 + 3 * pages)
some_turns pages = (omega arith, omega arith)

more_turns : (pages index : ℕ) → (pages ≤ 12 + 3 * pages + index) × (1 ≤ 12 + 3 * pages)
more_turns pages index = (omega arith, omega arith)

-- a sync has at most 12, and 3 for each page of its file, of which it needs 2
sync_rank : (g : GuestState) (v : StorageView) (cpu file : ℕ) (phase : Phase) → TeardownsFit g → command_of g.plan cpu (processor_at g cpu).place ≡ Some (Sync file)
    → (processor_at g cpu).phase ≡ phase → OpRank g v cpu (Sync file) (12 + 3 * file_pages g.plan.files file)
sync_rank g v cpu file Start f command phase = at_look file 0 refl (inl (phase, refl)) (omega arith) (omega arith)
sync_rank g v cpu file (Fill page) f command phase = fills page phase (omega arith)
sync_rank g v cpu file (AtRoom page) f command phase = pages_out page phase (omega arith)
sync_rank g v cpu file (AtSync index) f command phase = at_look file index refl (inr phase) (omega arith) (omega arith)
sync_rank g v cpu file (SyncWrite index page) f command phase = at_write file index page refl phase (omega arith) (omega arith)
sync_rank g v cpu file (Teardown slot index) f command phase =
    let k = f.tearing cpu slot index phase in let both : Some (Sync file) ≡ Some (Unmap k.number) = sym command ∙ k.command in absurd (cc both)

-- an unmap has at most 12, and 3 for each page of its mapping, of which it needs one
unmap_rank : (g : GuestState) (v : StorageView) (cpu number : ℕ) (phase : Phase) → LocksFit g → command_of g.plan cpu (processor_at g cpu).place ≡ Some (Unmap number)
    → (processor_at g cpu).phase ≡ phase → OpRank g v cpu (Unmap number) (12 + 3 * pages_to_tear g cpu number phase)
unmap_rank g v cpu number Start f command phase = let few = some_turns (pages_to_tear g cpu number Start) in unmaps number refl phase few.0 few.1
unmap_rank g v cpu number (Fill page) f command phase = fills page phase (omega arith)
unmap_rank g v cpu number (AtRoom page) f command phase = pages_out page phase (omega arith)
unmap_rank g v cpu number (AtSync index) f command phase =
    let (file, k) = f.syncing cpu index phase in let both : Some (Unmap number) ≡ Some (Sync file) = sym command ∙ k.command in absurd (cc both)
unmap_rank g v cpu number (SyncWrite index page) f command phase =
    let k = f.writing cpu index page phase in let both : Some (Unmap number) ≡ Some (Sync k.file) = sym command ∙ k.syncing.command in absurd (cc both)
unmap_rank g v cpu number (Teardown slot index) f command phase =
    let few = more_turns (mapping_pages (slot_at g.parts.maps slot)) index in tears number slot index refl phase few.0 few.1

-- every command has as many turns as it may take
pub command_rank : (g : GuestState) (v : StorageView) (cpu : ℕ) (op : Op) → LocksFit g → TeardownsFit g → command_of g.plan cpu (processor_at g cpu).place ≡ Some op
    → OpRank g v cpu op (turns_of g cpu op)
command_rank g v cpu (Sync file) f downs command = sync_rank g v cpu file (processor_at g cpu).phase downs command refl
command_rank g v cpu (Unmap number) f downs command = unmap_rank g v cpu number (processor_at g cpu).phase f command refl
command_rank g v cpu op f downs command = phase_rank g v cpu op 12 (processor_at g cpu).phase f downs command tt refl (omega arith)

-- a command wants one tag
one_tag : (g : GuestState) (cpu : ℕ) (op : Op) (a b : Tag) → Wants g cpu op a → Wants g cpu op b → a ≡ b
one_tag g cpu op a b wants wants' = let both : Some a ≡ Some b = sym wants ∙ wants' in cc

-- where it has its page, that is the one with the tag
its_page : (g : GuestState) (v : StorageView) (cpu : ℕ) (op : Op) (lost : Bool) (tag : Tag) → Wants g cpu op tag → (has : HasItsPage g v cpu op lost) → page_of g.parts.cache tag ≡ Some has.page
its_page g v cpu op lost tag wants has = ap (λ q. page_of g.parts.cache q) (one_tag g cpu op tag has.tag wants has.wants) ∙ has.found

pub not_none : (g : GuestState) (v : StorageView) (cpu : ℕ) (op : Op) (lost : Bool) (tag : Tag) → Wants g cpu op tag → page_of g.parts.cache tag ≡ None → HasItsPage g v cpu op lost → ⊥
not_none g v cpu op lost tag wants none has = let bad : None ≡ Some has.page = sym none ∙ its_page g v cpu op lost tag wants has in cc

not_lost : (g : GuestState) (v : StorageView) (cpu : ℕ) (op : Op) (tag : Tag) (page : ℕ) → Wants g cpu op tag → page_of g.parts.cache tag ≡ Some page → is_lost (v.values page).contents ≡ true
    → HasItsPage g v cpu op false → ⊥
not_lost g v cpu op tag page wants found lost has =
    let both : Some has.page ≡ Some page = sym (its_page g v cpu op false tag wants has) ∙ found in
    let same : has.page ≡ page = cc in
    let bad : true ≡ false = sym lost ∙ ap (λ q. is_lost (v.values q).contents) (sym same) ∙ has.lost_is in cc

pub starts_not_fills : (g : GuestState) (cpu page : ℕ) → (processor_at g cpu).phase ≡ Start → (processor_at g cpu).phase ≡ Fill page → ⊥
starts_not_fills g cpu page start fill = let bad : Start ≡ Fill page = sym start ∙ fill in cc

pub wants_not_none : (g : GuestState) (cpu : ℕ) (op : Op) (tag : Tag) → Wants g cpu op tag → wanted_tag g.parts (process_of g.plan cpu) op ≡ None → ⊥
wants_not_none g cpu op tag wants none = let bad : None ≡ Some tag = sym none ∙ wants in cc

pub wants_not_sync : (g : GuestState) (cpu : ℕ) (op : Op) (tag : Tag) (file : ℕ) → Wants g cpu op tag → op ≡ Sync file → ⊥
wants_not_sync g cpu op tag file wants is = let bad : None ≡ Some tag = ap (wanted_tag g.parts (process_of g.plan cpu)) (sym is) ∙ wants in cc

pub wants_not_unmap : (g : GuestState) (cpu : ℕ) (op : Op) (tag : Tag) (number : ℕ) → Wants g cpu op tag → op ≡ Unmap number → ⊥
wants_not_unmap g cpu op tag number wants is = let bad : None ≡ Some tag = ap (wanted_tag g.parts (process_of g.plan cpu)) (sym is) ∙ wants in cc

-- a processor whose command's page is wanting has at least 4 turns left
pub rank-none : (g : GuestState) (v : StorageView) (cpu : ℕ) (op : Op) (tag : Tag) (left : ℕ) → (processor_at g cpu).phase ≡ Start → Wants g cpu op tag → page_of g.parts.cache tag ≡ None
    → OpRank g v cpu op left → 4 ≤ left
rank-none g v cpu op tag left start wants none (no_tag start' short bad h) = absurd (wants_not_none g cpu op tag wants bad)
rank-none g v cpu op tag left start wants none (served has is h) = absurd (not_none g v cpu op false tag wants none has)
rank-none g v cpu op tag left start wants none (has_page has h) = absurd (not_none g v cpu op false tag wants none has)
rank-none g v cpu op tag left start wants none (fills_own page tag' phase wants' tagged h) = absurd (starts_not_fills g cpu page start phase)
rank-none g v cpu op tag left start wants none (has_none tag' start' wants' none' some h) = h
rank-none g v cpu op tag left start wants none (has_lost has h) = omega (arith, h)
rank-none g v cpu op tag left start wants none (room_clean next k h) = omega (arith, h)
rank-none g v cpu op tag left start wants none (pages_out_own out k h) = omega (arith, h)
rank-none g v cpu op tag left start wants none (needs_room k full h) = omega (arith, h)
rank-none g v cpu op tag left start wants none (pages_out out at h) = omega (arith, h)
rank-none g v cpu op tag left start wants none (fills page phase h) = omega (arith, h)
rank-none g v cpu op tag left start wants none (at_look file index is looks h some) = absurd (wants_not_sync g cpu op tag file wants is)
rank-none g v cpu op tag left start wants none (at_write file index page'' is phase h some) = absurd (wants_not_sync g cpu op tag file wants is)
rank-none g v cpu op tag left start wants none (unmaps number is at h some) = absurd (wants_not_unmap g cpu op tag number wants is)
rank-none g v cpu op tag left start wants none (tears number slot index is phase h some) = absurd (wants_not_unmap g cpu op tag number wants is)

-- one whose command's page is lost at least 5
pub rank-lost : (g : GuestState) (v : StorageView) (cpu : ℕ) (op : Op) (tag : Tag) (page left : ℕ) → (processor_at g cpu).phase ≡ Start → Wants g cpu op tag → page_of g.parts.cache tag ≡ Some page
    → is_lost (v.values page).contents ≡ true → OpRank g v cpu op left → 5 ≤ left
rank-lost g v cpu op tag page left start wants found lost (no_tag start' short bad h) = absurd (wants_not_none g cpu op tag wants bad)
rank-lost g v cpu op tag page left start wants found lost (served has is h) = absurd (not_lost g v cpu op tag page wants found lost has)
rank-lost g v cpu op tag page left start wants found lost (has_page has h) = absurd (not_lost g v cpu op tag page wants found lost has)
rank-lost g v cpu op tag page left start wants found lost (fills_own page' tag' phase wants' tagged h) = absurd (starts_not_fills g cpu page' start phase)
rank-lost g v cpu op tag page left start wants found lost (has_none tag' start' wants' none some h) =
    let bad : None ≡ Some page = sym none ∙ ap (λ q. page_of g.parts.cache q) (one_tag g cpu op tag' tag wants' wants) ∙ found in absurd cc
rank-lost g v cpu op tag page left start wants found lost (has_lost has h) = h
rank-lost g v cpu op tag page left start wants found lost (room_clean next k h) = omega (arith, h)
rank-lost g v cpu op tag page left start wants found lost (pages_out_own out k h) = omega (arith, h)
rank-lost g v cpu op tag page left start wants found lost (needs_room k full h) = omega (arith, h)
rank-lost g v cpu op tag page left start wants found lost (pages_out out at h) = omega (arith, h)
rank-lost g v cpu op tag page left start wants found lost (fills page' phase h) = omega (arith, h)
rank-lost g v cpu op tag page left start wants found lost (at_look file index is looks h some) = absurd (wants_not_sync g cpu op tag file wants is)
rank-lost g v cpu op tag page left start wants found lost (at_write file index page'' is phase h some) = absurd (wants_not_sync g cpu op tag file wants is)
rank-lost g v cpu op tag page left start wants found lost (unmaps number is at h some) = absurd (wants_not_unmap g cpu op tag number wants is)
rank-lost g v cpu op tag page left start wants found lost (tears number slot index is phase h some) = absurd (wants_not_unmap g cpu op tag number wants is)

-- a load or store goes through one slot, at one offset
record SamePlace (writes writes' : Bool) (slot slot' off off' : ℕ) : Type 0 where
  writes_is : writes ≡ writes'
  slot_is : slot ≡ slot'
  off_is : off ≡ off'

same_place : (g : GuestState) (cpu : ℕ) (op : Op) (writes writes' : Bool) (slot slot' off off' : ℕ) → Maps g cpu op writes slot off → Maps g cpu op writes' slot' off'
    → SamePlace writes writes' slot slot' off off'
same_place g cpu (Load number at len) writes writes' slot slot' off off' (a, b, c) (a', b', c') = record {
  writes_is = a ∙ sym a';
  slot_is = let both : Some slot ≡ Some slot' = sym b ∙ b' in cc;
  off_is = c ∙ sym c';
}
same_place g cpu (Store number at bytes) writes writes' slot slot' off off' (a, b, c) (a', b', c') = record {
  writes_is = a ∙ sym a';
  slot_is = let both : Some slot ≡ Some slot' = sym b ∙ b' in cc;
  off_is = c ∙ sym c';
}
same_place g cpu op writes writes' slot slot' off off' maps maps' = absurd maps

-- an entry that serves isn't to be set
not_served : (pte : Pte) (writes : Bool) → (writes ≡ true → pte.writable ≡ true) → CanBeSet (Some pte) writes → ⊥
not_served pte writes allows (stores, readonly) = let bad : true ≡ false = sym (allows stores) ∙ readonly in cc

can_not_serve : (g : GuestState) (cpu : ℕ) (op : Op) (writes : Bool) (slot off : ℕ) → Maps g cpu op writes slot off → CanBeSet (entry_at g.parts.maps slot (off / PAGE)) writes → IsServed g cpu op → ⊥
can_not_serve g cpu op writes slot off maps can is =
    let same = same_place g cpu op writes is.writes slot is.slot off is.off maps is.maps in
    let here : CanBeSet (entry_at g.parts.maps is.slot (is.off / PAGE)) is.writes =
    subst (λ q. CanBeSet (entry_at g.parts.maps is.slot (is.off / PAGE)) q) same.writes_is
    (subst (λ q. CanBeSet (entry_at g.parts.maps is.slot (q / PAGE)) writes) same.off_is (subst (λ q. CanBeSet (entry_at g.parts.maps q (off / PAGE)) writes) same.slot_is can)) in
    not_served is.pte is.writes is.allows (subst (λ q. CanBeSet q is.writes) is.at here)

-- one whose entry is to be set has at least 2
pub rank-unserved : (g : GuestState) (v : StorageView) (cpu : ℕ) (op : Op) (tag : Tag) (writes : Bool) (slot off left : ℕ) → Wants g cpu op tag → Maps g cpu op writes slot off
    → CanBeSet (entry_at g.parts.maps slot (off / PAGE)) writes → OpRank g v cpu op left → 2 ≤ left
rank-unserved g v cpu op tag writes slot off left wants maps can (no_tag start' short bad h) = absurd (wants_not_none g cpu op tag wants bad)
rank-unserved g v cpu op tag writes slot off left wants maps can (served has is h) = absurd (can_not_serve g cpu op writes slot off maps can is)
rank-unserved g v cpu op tag writes slot off left wants maps can (has_page has h) = h
rank-unserved g v cpu op tag writes slot off left wants maps can (fills_own page tag' phase wants' tagged h) = omega (arith, h)
rank-unserved g v cpu op tag writes slot off left wants maps can (has_none tag' start' wants' none some h) = omega (arith, h)
rank-unserved g v cpu op tag writes slot off left wants maps can (has_lost has h) = omega (arith, h)
rank-unserved g v cpu op tag writes slot off left wants maps can (room_clean next k h) = omega (arith, h)
rank-unserved g v cpu op tag writes slot off left wants maps can (pages_out_own out k h) = omega (arith, h)
rank-unserved g v cpu op tag writes slot off left wants maps can (needs_room k full h) = omega (arith, h)
rank-unserved g v cpu op tag writes slot off left wants maps can (pages_out out at h) = omega (arith, h)
rank-unserved g v cpu op tag writes slot off left wants maps can (fills page phase h) = omega (arith, h)
rank-unserved g v cpu op tag writes slot off left wants maps can (at_look file index is looks h some) = absurd (wants_not_sync g cpu op tag file wants is)
rank-unserved g v cpu op tag writes slot off left wants maps can (at_write file index page'' is phase h some) = absurd (wants_not_sync g cpu op tag file wants is)
rank-unserved g v cpu op tag writes slot off left wants maps can (unmaps number is at h some) = absurd (wants_not_unmap g cpu op tag number wants is)
rank-unserved g v cpu op tag writes slot off left wants maps can (tears number slot' index is phase h some) = absurd (wants_not_unmap g cpu op tag number wants is)

-- and one that fills a page at least 3, where that is its command's page, and 8 otherwise
pub rank-fills : (g : GuestState) (v : StorageView) (cpu : ℕ) (op : Op) (page left : ℕ) → (processor_at g cpu).phase ≡ Fill page → OpRank g v cpu op left
    → ((tag : Tag) × Wants g cpu op tag × ((info_at g.parts.pages page).tag ≡ Some tag) × (3 ≤ left)) ⊎ (8 ≤ left)
rank-fills g v cpu op page left phase (no_tag start short bad h) = absurd (starts_not_fills g cpu page start phase)
rank-fills g v cpu op page left phase (served has is h) = absurd (starts_not_fills g cpu page has.start phase)
rank-fills g v cpu op page left phase (has_page has h) = absurd (starts_not_fills g cpu page has.start phase)
rank-fills g v cpu op page left phase (fills_own page' tag phase' wants tagged h) =
    let both : Fill page ≡ Fill page' = sym phase ∙ phase' in
    let pages : page ≡ page' = cc in
    inl (tag, wants, ap (λ q. (info_at g.parts.pages q).tag) pages ∙ tagged, h)
rank-fills g v cpu op page left phase (has_none tag start wants none some h) = absurd (starts_not_fills g cpu page start phase)
rank-fills g v cpu op page left phase (has_lost has h) = absurd (starts_not_fills g cpu page has.start phase)
rank-fills g v cpu op page left phase (room_clean next k h) = absurd (starts_not_fills g cpu page k.needs.start phase)
rank-fills g v cpu op page left phase (pages_out_own out k h) = let bad : Fill page ≡ AtRoom out = sym phase ∙ k.phase in absurd cc
rank-fills g v cpu op page left phase (needs_room k full h) = absurd (starts_not_fills g cpu page k.start phase)
rank-fills g v cpu op page left phase (pages_out out at h) = let bad : Fill page ≡ AtRoom out = sym phase ∙ at in absurd cc
rank-fills g v cpu op page left phase (fills page' phase' h) = inr h
rank-fills g v cpu op page left phase (at_look file index is looks h some) = absurd (looks_not_fills g cpu index page looks phase)
rank-fills g v cpu op page left phase (at_write file index page' is phase' h some) = let bad : Fill page ≡ SyncWrite index page' = sym phase ∙ phase' in absurd cc
rank-fills g v cpu op page left phase (unmaps number is start h some) = absurd (starts_not_fills g cpu page start phase)
rank-fills g v cpu op page left phase (tears number slot index is phase' h some) = let bad : Fill page ≡ Teardown slot index = sym phase ∙ phase' in absurd cc

-- a sync that looks at a page has two turns left for each page of its file from there on
sync_wants_none : (g : GuestState) (cpu file : ℕ) (tag : Tag) → Wants g cpu (Sync file) tag → ⊥
sync_wants_none g cpu file tag wants = wants_not_sync g cpu (Sync file) tag file wants refl

pub rank-looks : (g : GuestState) (v : StorageView) (cpu file index left : ℕ) → LooksAt g cpu index → OpRank g v cpu (Sync file) left → 2 * file_pages g.plan.files file ≤ left + 2 * index
rank-looks g v cpu file index left looks (no_tag start short none h) = absurd short
rank-looks g v cpu file index left looks (served has is h) = absurd (sync_wants_none g cpu file has.tag has.wants)
rank-looks g v cpu file index left looks (has_page has h) = absurd (sync_wants_none g cpu file has.tag has.wants)
rank-looks g v cpu file index left looks (fills_own page tag phase wants tagged h) = absurd (sync_wants_none g cpu file tag wants)
rank-looks g v cpu file index left looks (has_none tag start wants none some h) = absurd (sync_wants_none g cpu file tag wants)
rank-looks g v cpu file index left looks (has_lost has h) = absurd (sync_wants_none g cpu file has.tag has.wants)
rank-looks g v cpu file index left looks (room_clean next k h) = absurd (sync_wants_none g cpu file k.needs.tag k.needs.wants)
rank-looks g v cpu file index left looks (pages_out_own out k h) = absurd (sync_wants_none g cpu file k.tag k.wants)
rank-looks g v cpu file index left looks (needs_room k full h) = absurd (sync_wants_none g cpu file k.tag k.wants)
rank-looks g v cpu file index left looks (pages_out out at h) = absurd (looks_not_pages_out g cpu index out looks at)
rank-looks g v cpu file index left looks (fills page phase h) = absurd (looks_not_fills g cpu index page looks phase)
rank-looks g v cpu file index left looks (at_look file' index' is looks' h some) =
    let files : file' ≡ file = cc in
    let indices : index' ≡ index = sym (looks-index g cpu index' looks') ∙ looks-index g cpu index looks in
    subst (λ n. 2 * file_pages g.plan.files n ≤ left + 2 * index) files (subst (λ n. 2 * file_pages g.plan.files file' ≤ left + 2 * n) indices h)
rank-looks g v cpu file index left looks (at_write file' index' page is phase h some) = absurd (looks_not_writes g cpu index index' page looks phase)
rank-looks g v cpu file index left looks (unmaps number is start h some) = absurd (cc is)
rank-looks g v cpu file index left looks (tears number slot index' is phase h some) = absurd (cc is)

-- and one less while it writes one back
pub rank-writes : (g : GuestState) (v : StorageView) (cpu file index page left : ℕ) → (processor_at g cpu).phase ≡ SyncWrite index page → OpRank g v cpu (Sync file) left
    → 2 * file_pages g.plan.files file ≤ left + 2 * index + 1
rank-writes g v cpu file index page left writes (no_tag start short none h) = absurd short
rank-writes g v cpu file index page left writes (served has is h) = absurd (sync_wants_none g cpu file has.tag has.wants)
rank-writes g v cpu file index page left writes (has_page has h) = absurd (sync_wants_none g cpu file has.tag has.wants)
rank-writes g v cpu file index page left writes (fills_own page' tag phase wants tagged h) = absurd (sync_wants_none g cpu file tag wants)
rank-writes g v cpu file index page left writes (has_none tag start wants none some h) = absurd (sync_wants_none g cpu file tag wants)
rank-writes g v cpu file index page left writes (has_lost has h) = absurd (sync_wants_none g cpu file has.tag has.wants)
rank-writes g v cpu file index page left writes (room_clean next k h) = absurd (sync_wants_none g cpu file k.needs.tag k.needs.wants)
rank-writes g v cpu file index page left writes (pages_out_own out k h) = absurd (sync_wants_none g cpu file k.tag k.wants)
rank-writes g v cpu file index page left writes (needs_room k full h) = absurd (sync_wants_none g cpu file k.tag k.wants)
rank-writes g v cpu file index page left writes (pages_out out at h) = let bad : SyncWrite index page ≡ AtRoom out = sym writes ∙ at in absurd cc
rank-writes g v cpu file index page left writes (fills page' phase h) = let bad : SyncWrite index page ≡ Fill page' = sym writes ∙ phase in absurd cc
rank-writes g v cpu file index page left writes (at_look file' index' is looks h some) = absurd (looks_not_writes g cpu index' index page looks writes)
rank-writes g v cpu file index page left writes (at_write file' index' page' is phase h some) =
    let files : file' ≡ file = cc in
    let both : SyncWrite index' page' ≡ SyncWrite index page = sym phase ∙ writes in
    let indices : index' ≡ index = cc in
    subst (λ n. 2 * file_pages g.plan.files n ≤ left + 2 * index + 1) files (subst (λ n. 2 * file_pages g.plan.files file' ≤ left + 2 * n + 1) indices h)
rank-writes g v cpu file index page left writes (unmaps number is start h some) = absurd (cc is)
rank-writes g v cpu file index page left writes (tears number slot index' is phase h some) = absurd (cc is)
