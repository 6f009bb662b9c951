-- Every run of a turn that is to make room is one of the cases of a turn.
use Rattle.std.specs.Prelude.{◌≡◌, ℕ, Option, Some, None, refl}
use Rattle.std.proofs.Common.{ap, subst, ◌∙◌, inl, inr}
use Rattle.cmm_types.specs.declared.page.Tag.{Tag}
use Rattle.cmm_types.specs.declared.command.Op.{Op}
use Rattle.cmm_types.specs.declared.turn.Turn.{Turn}
use Rattle.cmm_flat.specs.State.{FlatState}
use Rattle.cmm_io.specs.DiskView.{DiskView}
use Rattle.cmm_storage.specs.StorageView.{StorageView}
use Rattle.cmm_storage.specs.Views.{Seen, unbind}
use Rattle.guest_pages.specs.PagesView.{info_at}
use Rattle.guest_rules.specs.declared.parts.Parts.{Parts}
use Rattle.guest_rules.specs.declared.processor.Phase.TheVariants.{Room as AtRoom}
use Rattle.guest_rules.specs.declared.outcome.Filled.{Filled}
use Rattle.guest_rules.specs.declared.outcome.Filled.TheVariants.{Done as FilledDone, Again as FilledAgain, Fail as FilledFail}
use Rattle.guest_rules.specs.declared.outcome.Room.{Room}
use Rattle.guest_rules.specs.declared.outcome.Room.TheVariants.{Freed, Locked, Waits, NoPage, Again}
use Rattle.guest_rules.specs.Rows.{with_change}
use Rattle.guest_rules.specs.Syncs.{write_back}
use Rattle.guest_rules.specs.MakeRoom.{can_go, first_to_go, first_locked, none_goes, room_from, make_room, locked_to_go}
use Rattle.guest_rules.specs.GuestState.{GuestState, processor_at, with_parts, with_phase}
use Rattle.guest_rules.specs.Turns.{room_next, room_turn, fill_next, page_out_turn}
use Rattle.guest_rules.specs.Fit.{FitAt}
use Rattle.guest_rules.proofs.Cases.TurnCases.{RoomCase, room_gone, was_cleared, was_locked_to_go, room_missed, room_waited}
use Rattle.guest_rules.proofs.Cases.TurnCases.{had_no_page, page_out_missed, was_paged_out, page_out_failed, Has, HasPage, SeeksRoom, Goes, PagesOut}
use Rattle.guest_rules.proofs.Cases.FirstPage.{first_from-Some, first_locked-owned, can_go-parts}
use Rattle.guest_rules.proofs.Rows.RoomPage.{GoOutcome, seen_go}
use Rattle.guest_rules.proofs.Rows.WriteBack.{BackOutcome, seen_write_back}
use Rattle.guest_rules.proofs.Ready.Ready.{can_be_used, can_be_paged_out}

-- ---- room is made

-- the page that goes
case_go_next : (g : GuestState) (v n w : StorageView) (d y e : DiskView) (cpu : ℕ) (op : Op) (tag : Tag) (page : ℕ) (parts : Parts) (r : Room) (h : GuestState) (t : Turn)
    → SeeksRoom g cpu op → Goes g tag page → GoOutcome g.parts page cpu v d parts r n y
    → Seen {A = GuestState × Turn} (room_next g cpu op parts r) n y (h, t) w e → RoomCase g cpu op v d h t w e
case_go_next g v n w d y e cpu op tag page parts Freed h t k goes (inl o) (ea, em, ed) =
    room_gone tag page o.found k goes (rw (em, ed) o.back) o.may o.lost (rw em o.unused) (ap (λ q. q.0) ea ∙ ap (λ q. with_parts g q) o.tables) (ap (λ q. q.1) ea)
case_go_next g v n w d y e cpu op tag page parts Freed h t k goes (inr o) (ea, em, ed) =
    was_cleared tag page o.found k goes (rw (em, ed) o.back) o.may o.there o.unchanged o.clean (rw em o.unused) (ap (λ q. q.0) ea ∙ ap (λ q. with_parts g q) o.tables) (ap (λ q. q.1) ea)
case_go_next g v n w d y e cpu op tag page parts (Locked its) h t k goes (same, o) (ea, em, ed) =
    was_locked_to_go tag page o.found k goes (rw (em, ed) o.back) o.may o.there o.dirty (rw em o.value)
    (ap (λ q. q.0) ea ∙ ap (λ q. with_phase (with_parts g q) cpu (AtRoom its)) o.tables
    ∙ ap (λ q. with_phase (with_parts g (locked_to_go (with_change g.parts page o.found.changed) page cpu)) cpu (AtRoom q)) same)
    (ap (λ q. q.1) ea)
case_go_next g v n w d y e cpu op tag page parts (Waits its owner) h t k goes o run = absurd o
case_go_next g v n w d y e cpu op tag page parts (NoPage pinned unslotted) h t k goes o run = absurd o
case_go_next g v n w d y e cpu op tag page parts (Again why) h t k goes (tables, may, misses, disk) (ea, em, ed) =
    room_missed why k (ap (λ q. q.0) ea ∙ ap (λ q. with_parts g q) tables) (ap (λ q. q.1) ea) (rw (em, ed) may) (rw em misses) (ed ∙ disk)

-- no page can go: another processor has one locked, or none is
case_none : (g : GuestState) (v w : StorageView) (d e : DiskView) (cpu : ℕ) (op : Op) (owned : Option ℕ) (h : GuestState) (t : Turn)
    → SeeksRoom g cpu op → first_to_go g.parts ≡ None → first_locked g.parts ≡ owned
    → Seen {A = GuestState × Turn} (room_next g cpu op g.parts (none_goes g.parts owned)) v d (h, t) w e → RoomCase g cpu op v d h t w e
case_none g v w d e cpu op (Some page) h t k none found run =
    let (owner, owned) = first_locked-owned g.parts page found in
    let waits : none_goes g.parts (Some page) ≡ Waits page owner = rw owned refl in
    let stays : Seen {A = GuestState × Turn} (room_next g cpu op g.parts (Waits page owner)) v d (h, t) w e =
    subst (λ q. Seen {A = GuestState × Turn} (room_next g cpu op g.parts q) v d (h, t) w e) waits run in
    room_waited page owner k none found owned (ap (λ q. q.0) stays.0) (ap (λ q. q.1) stays.0) stays.1 stays.2
case_none g v w d e cpu op None h t k none unlocked (ea, em, ed) = had_no_page k none unlocked (ap (λ q. q.0) ea) (ap (λ q. q.1) ea) em ed

case_from : (state : FlatState) (g : GuestState) (v m w : StorageView) (d y e : DiskView) (cpu : ℕ) (op : Op) (first : Option ℕ) (parts : Parts) (r : Room) (h : GuestState) (t : Turn)
    → FitAt state g v d → SeeksRoom g cpu op → first_to_go g.parts ≡ first → Seen {A = Parts × Room} (room_from g.parts cpu first) v d (parts, r) m y
    → Seen {A = GuestState × Turn} (room_next g cpu op parts r) m y (h, t) w e → RoomCase g cpu op v d h t w e
case_from state g v m w d y e cpu op (Some page) parts r h t f k first made run =
    let is = first_from-Some g.parts (can_go g.parts) page first in
    let can = can_go-parts g.parts (info_at g.parts.pages page) is.passes in
    let has : HasPage g can.tag page = record { below = is.below; tagged = can.tagged; unlocked = can.unlocked } in
    let o = seen_go g.parts page cpu v d parts r m y is.below (can_be_used state g v d page can.tag f has) made in
    case_go_next g v m w d y e cpu op can.tag page parts r h t k (record { first = first; has = has }) o run
case_from state g v m w d y e cpu op None parts r h t f k none (ea, em, ed) run =
    case_none g v w d e cpu op (first_locked g.parts) h t k none refl (rw (ap (λ q. q.0) ea, ap (λ q. q.1) ea, em, ed) at run)

-- a command that needs a page while none is free
pub case_room : (state : FlatState) (g : GuestState) (v w : StorageView) (d e : DiskView) (cpu : ℕ) (op : Op) (h : GuestState) (t : Turn)
    → FitAt state g v d → SeeksRoom g cpu op → Seen {A = GuestState × Turn} (room_turn g cpu op) v d (h, t) w e → RoomCase g cpu op v d h t w e
unfolding room_turn make_room
case_room state g v w d e cpu op h t f k run =
    let x = unbind (make_room g.parts cpu) (λ went. room_next g cpu op went.0 went.1) v d (h, t) w e run in
    case_from state g v x.storage w d x.disk e cpu op (first_to_go g.parts) x.answer.0 x.answer.1 h t f k refl x.first x.second

-- ---- a page written back to make room

case_paged_out : (g : GuestState) (v n w : StorageView) (d y e : DiskView) (cpu : ℕ) (op : Op) (tag : Tag) (page : ℕ) (parts : Parts) (r : Filled) (h : GuestState) (t : Turn)
    → PagesOut g cpu op tag page → BackOutcome g.parts page tag v d parts r n y
    → Seen {A = GuestState × Turn} (fill_next g cpu op parts r) n y (h, t) w e → RoomCase g cpu op v d h t w e
case_paged_out g v n w d y e cpu op tag page parts FilledDone h t k (bytes, are, written, told) (ea, em, ed) =
    was_paged_out tag page bytes parts k are (rw (em, ed) written) (rw em told) (ap (λ q. q.0) ea) (ap (λ q. q.1) ea)
case_paged_out g v n w d y e cpu op tag page parts (FilledAgain why) h t k (tables, may, misses, disk) (ea, em, ed) =
    page_out_missed tag page why k (ap (λ q. q.0) ea ∙ ap (λ q. with_parts g q) tables) (ap (λ q. q.1) ea) (rw (em, ed) may) (rw em misses) (ed ∙ disk)
case_paged_out g v n w d y e cpu op tag page parts (FilledFail cause) h t k (back, told, why) (ea, em, ed) =
    page_out_failed tag page cause parts k (rw (em, ed) back) (rw em told) (rw (em, ed) why) (ap (λ q. q.0) ea) (ap (λ q. q.1) ea)

pub case_page_out : (state : FlatState) (g : GuestState) (v w : StorageView) (d e : DiskView) (cpu : ℕ) (op : Op) (page : ℕ) (h : GuestState) (t : Turn)
    → FitAt state g v d → Has g cpu op → (processor_at g cpu).phase ≡ AtRoom page
    → Seen {A = GuestState × Turn} (page_out_turn g cpu op page) v d (h, t) w e → RoomCase g cpu op v d h t w e
unfolding page_out_turn
case_page_out state g v w d e cpu op page h t f has phase run =
    let k = f.locks.paging_out cpu page phase in
    let x = unbind (write_back g.parts page) (λ went. fill_next g cpu op went.0 went.1) v d (h, t) w e run in
    let o = seen_write_back g.parts page k.tag v d x.answer.0 x.answer.1 x.storage x.disk (can_be_paged_out state g v d cpu page f k) x.first in
    case_paged_out g v x.storage w d x.disk e cpu op k.tag page x.answer.0 x.answer.1 h t (record { has = has; phase = phase; tagged = k.tagged }) o x.second
