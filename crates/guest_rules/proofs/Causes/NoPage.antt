-- Where a command needs a page and the guest is stuck, its turn enters that there is none, and does no more.
use Rattle.std.specs.Prelude.{◌≡◌, ◌<◌, ◌-◌, ◌/◌, ℕ, length, Bool, true, false, Option, Some, None, refl}
use Rattle.std.proofs.Common.{sym, ap, ◌∙◌}
use Rattle.cmm_types.specs.declared.page.TheConstants.{PAGE}
use Rattle.cmm_types.specs.declared.page.Tag.{Tag}
use Rattle.cmm_types.specs.declared.page.Tag.TheVariants.{File}
use Rattle.cmm_types.specs.declared.command.Op.{Op}
use Rattle.cmm_types.specs.declared.command.Op.TheVariants.{Read, Write, Sync, MapFile, MapAnon, Unmap, Load, Store, Pin, Unpin}
use Rattle.cmm_types.specs.declared.command.Reply.TheVariants.{Fail}
use Rattle.cmm_types.specs.declared.command.Cause.TheVariants.{NoPage}
use Rattle.cmm_types.specs.declared.turn.Turn.{Turn}
use Rattle.cmm_types.specs.declared.turn.Turn.TheVariants.{Finished}
use Rattle.cmm_flat.specs.Legal.{process_of, flat_of}
use Rattle.cmm_io.specs.DiskView.{DiskView}
use Rattle.cmm_storage.specs.StorageView.{StorageView}
use Rattle.cmm_storage.specs.Program.{Program, done, bind}
use Rattle.guest_cache.specs.CacheView.{page_of}
use Rattle.guest_maps.specs.declared.slot.Pte.{Pte}
use Rattle.guest_maps.specs.MapsView.{find_slot, entry_at, tag_at}
use Rattle.guest_rules.specs.GuestState.{GuestState, entered}
use Rattle.guest_rules.specs.MakeRoom.{pinned_count, none_goes, room_from, make_room}
use Rattle.guest_rules.specs.Turns.{turn, turn_on, turn_in, start_turn, start_refused, start_accepted, start_mapped, start_placed}
use Rattle.guest_rules.specs.Turns.{start_entry, start_at, start_tagged, start_found, start_free, room_turn, room_next, refusal_in}
use Rattle.guest_rules.specs.Stuck.{IsStuck, NeedsFreePage}
use Rattle.guest_rules.specs.Fit.{Fit}
use Rattle.guest_rules.specs.Cause.{IsAccepted}
use Rattle.guest_rules.proofs.Cases.TurnCases.{Starts, Wants, found_tag}
use Rattle.guest_rules.proofs.Cases.WantedTags.{tag_in-Some}
use Rattle.guest_rules.proofs.Cases.Reached.{Reaches, load_reaches, store_reaches, entry_page}
use Rattle.guest_rules.proofs.Cases.Stuck.{stuck-none_goes}
use Rattle.guest_rules.proofs.Fit.Replies.{refused-same}

-- the turn that enters that there is no page, with the two numbers
abbrev no_page_turn : GuestState → (cpu : ℕ) → Op → Program (GuestState × Turn)
no_page_turn g cpu op = done (entered g cpu op (Fail (NoPage (pinned_count g.parts) (length g.parts.pages.infos - pinned_count g.parts))), Finished)

-- so ends a program
abbrev EndsSo : GuestState → (cpu : ℕ) → Op → Program (GuestState × Turn) → Type 0
EndsSo g cpu op program = ◌≡◌ {A = Program (GuestState × Turn)} program (no_page_turn g cpu op)

-- g the guest, cpu the processor, op its command
module _ (g : GuestState) (cpu : ℕ) (op : Op) where
  room_ends : IsStuck g.parts → EndsSo g cpu op (room_turn g cpu op)
  unfolding room_turn make_room
  room_ends stuck =
      let none = stuck-none_goes g.parts stuck in
      ap (λ o. bind (room_from g.parts cpu o) (λ went. room_next g cpu op went.0 went.1)) none.0
      ∙ ap (λ o. room_next g cpu op g.parts (none_goes g.parts o)) none.1

  tagged_ends : (tag : Tag) → IsStuck g.parts → page_of g.parts.cache tag ≡ None → EndsSo g cpu op (start_tagged g cpu op tag)
  tagged_ends tag stuck none = ap (start_found g cpu op tag) none ∙ ap (start_free g cpu op tag) stuck.full ∙ room_ends stuck

  -- a file's page
  file_ends : (file index : ℕ) (tag : Tag) → IsStuck g.parts → Some (File file index) ≡ Some tag → page_of g.parts.cache tag ≡ None → EndsSo g cpu op (start_tagged g cpu op (File file index))
  file_ends file index tag stuck wants none =
      let same : File file index ≡ tag = cc in
      tagged_ends (File file index) stuck (ap (page_of g.parts.cache) same ∙ none)

  -- a page of a mapping, which no entry shows
  no_entry : (v : StorageView) (d : DiskView) (writes : Bool) (slot off : ℕ) (tag : Tag) → Fit g v d → (k : Reaches g cpu op writes slot off) → Wants g cpu op tag → page_of g.parts.cache tag ≡ None
      → entry_at g.parts.maps slot (off / PAGE) ≡ None
  no_entry v d writes slot off tag f k wants none = of (entry_at g.parts.maps slot (off / PAGE)) refl
    where
      of : (o : Option Pte) → entry_at g.parts.maps slot (off / PAGE) ≡ o → entry_at g.parts.maps slot (off / PAGE) ≡ None
      of None e = e
      of (Some pte) e =
          let shows = entry_page (flat_of g.plan g.journal) g v d cpu op writes slot off pte f k e in
          let tags : Some k.tag ≡ Some tag = sym k.wants ∙ wants in
          let same : k.tag ≡ tag = cc in
          let bad : Some pte.page ≡ None = sym (f.pages.indexed pte.page k.tag shows.tagged).1 ∙ ap (page_of g.parts.cache) same ∙ none in absurd cc

  entry_ends : (writes : Bool) (slot off : ℕ) (tag : Tag) → IsStuck g.parts → page_of g.parts.cache tag ≡ None → entry_at g.parts.maps slot (off / PAGE) ≡ None
      → tag_at g.parts.maps slot (off / PAGE) ≡ Some tag → EndsSo g cpu op (start_mapped g cpu op writes off (Some slot))
  entry_ends writes slot off tag stuck none entry shown = ap (start_entry g cpu op writes slot (off / PAGE)) entry ∙ ap (start_at g cpu op) shown ∙ tagged_ends tag stuck none

  placed_ends : (index : ℕ) (found : Option ℕ) (tag : Tag) → IsStuck g.parts → page_of g.parts.cache tag ≡ None → found_tag g.parts found index ≡ Some tag
      → EndsSo g cpu op (start_placed g cpu op index found)
  placed_ends index found tag stuck none wants =
      let its = tag_in-Some g.parts found index tag wants in
      ap (start_placed g cpu op index) its.1 ∙ ap (start_at g cpu op) its.2 ∙ tagged_ends tag stuck none

-- every accepted command that needs a page
accepted_ends : (g : GuestState) (v : StorageView) (d : DiskView) (cpu : ℕ) (op : Op) (tag : Tag) → Fit g v d → Starts g cpu op → Wants g cpu op tag → page_of g.parts.cache tag ≡ None
    → IsStuck g.parts → EndsSo g cpu op (start_accepted g cpu op)
accepted_ends g v d cpu (Read file off len) tag f starts wants none stuck = file_ends g cpu (Read file off len) file (off / PAGE) tag stuck wants none
accepted_ends g v d cpu (Write file off bytes) tag f starts wants none stuck = file_ends g cpu (Write file off bytes) file (off / PAGE) tag stuck wants none
accepted_ends g v d cpu (Load number off len) tag f starts wants none stuck =
    let its = tag_in-Some g.parts (find_slot g.parts.maps (process_of g.plan cpu) number) (off / PAGE) tag wants in
    let k = load_reaches (flat_of g.plan g.journal) g v d cpu number off len its.0 f starts its.1 in
    let entry = no_entry g cpu (Load number off len) v d false its.0 off tag f k wants none in
    ap (start_mapped g cpu (Load number off len) false off) its.1 ∙ entry_ends g cpu (Load number off len) false its.0 off tag stuck none entry its.2
accepted_ends g v d cpu (Store number off bytes) tag f starts wants none stuck =
    let its = tag_in-Some g.parts (find_slot g.parts.maps (process_of g.plan cpu) number) (off / PAGE) tag wants in
    let k = store_reaches (flat_of g.plan g.journal) g v d cpu number off bytes its.0 f starts its.1 in
    let entry = no_entry g cpu (Store number off bytes) v d true its.0 off tag f k wants none in
    ap (start_mapped g cpu (Store number off bytes) true off) its.1 ∙ entry_ends g cpu (Store number off bytes) true its.0 off tag stuck none entry its.2
accepted_ends g v d cpu (Pin number index) tag f starts wants none stuck =
    placed_ends g cpu (Pin number index) index (find_slot g.parts.maps (process_of g.plan cpu) number) tag stuck none wants
accepted_ends g v d cpu (Unpin number index) tag f starts wants none stuck =
    placed_ends g cpu (Unpin number index) index (find_slot g.parts.maps (process_of g.plan cpu) number) tag stuck none wants
accepted_ends g v d cpu (Sync file) tag f starts wants none stuck = let bad : None ≡ Some tag = wants in absurd cc
accepted_ends g v d cpu (MapFile number file first count writable) tag f starts wants none stuck = let bad : None ≡ Some tag = wants in absurd cc
accepted_ends g v d cpu (MapAnon number count) tag f starts wants none stuck = let bad : None ≡ Some tag = wants in absurd cc
accepted_ends g v d cpu (Unmap number) tag f starts wants none stuck = let bad : None ≡ Some tag = wants in absurd cc

-- its whole turn
pub lacking : (g : GuestState) (v : StorageView) (d : DiskView) (cpu : ℕ) (op : Op) → Fit g v d → cpu < length g.processors → IsAccepted g cpu op → NeedsFreePage g cpu op → IsStuck g.parts
    → ◌≡◌ {A = Program (GuestState × Turn)} (turn g cpu)
    (done (entered g cpu op (Fail (NoPage (pinned_count g.parts) (length g.parts.pages.infos - pinned_count g.parts))), Finished))
unfolding turn start_turn
lacking g v d cpu op f below accepted k stuck =
    let tables : refusal_in g (process_of g.plan cpu) op ≡ None = sym (refused-same g v d cpu op f (record { below = below; command = k.command })) ∙ accepted in
    let starts : Starts g cpu op = record { has = record { below = below; command = k.command }; start = k.start; accepted = tables } in
    ap (turn_on g cpu) k.command ∙ ap (turn_in g cpu op) k.start ∙ ap (start_refused g cpu op) tables ∙ accepted_ends g v d cpu op k.tag f starts k.wants k.none stuck
