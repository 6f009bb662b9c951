-- Every run of a pin or an unpin that finds its page is one of the cases of a turn.
use Rattle.std.specs.Prelude.{◌≡◌, ℕ, Bool, true, false, Some}
use Rattle.std.proofs.Common.{ap, subst, ◌∙◌}
use Rattle.cmm_types.specs.declared.page.Tag.{Tag}
use Rattle.cmm_types.specs.declared.turn.Turn.{Turn}
use Rattle.cmm_flat.specs.State.{FlatState}
use Rattle.cmm_flat.specs.Legal.{process_of}
use Rattle.cmm_io.specs.DiskView.{DiskView}
use Rattle.cmm_storage.specs.StorageView.{StorageView}
use Rattle.cmm_storage.specs.Views.{Seen, unbind}
use Rattle.guest_maps.specs.MapsView.{find_slot}
use Rattle.guest_rules.specs.declared.parts.Parts.{Parts}
use Rattle.guest_rules.specs.declared.outcome.Placed.{Placed}
use Rattle.guest_rules.specs.declared.outcome.Placed.TheVariants.{Done as PlaceDone, Gone as PlaceGone, Again as PlaceAgain}
use Rattle.guest_rules.specs.Rows.{pin_page}
use Rattle.guest_rules.specs.GuestState.{GuestState, with_parts}
use Rattle.guest_rules.specs.Turns.{use_turn, pin_next, pin_in}
use Rattle.guest_rules.specs.Fit.{FitAt}
use Rattle.guest_rules.proofs.Cases.TurnCases.{TurnCase, missed, was_gone, was_pinned, HasPage, pin_op}
use Rattle.guest_rules.proofs.Rows.PinPage.{PinOutcome, seen_pin_page}
use Rattle.guest_rules.proofs.Ready.Ready.{can_be_used, is_used_pinned}
use Rattle.guest_rules.proofs.Cases.Reached.{Proceeds}

case_pin_next : (g : GuestState) (v n w : StorageView) (d y e : DiskView) (cpu : ℕ) (pins : Bool) (number index slot : ℕ) (tag : Tag) (page : ℕ) (parts : Parts) (r : Placed) (h : GuestState)
    (t : Turn)
    → Proceeds g cpu (pin_op pins number index) tag → find_slot g.parts.maps (process_of g.plan cpu) number ≡ Some slot → HasPage g tag page → PinOutcome g.parts page slot index pins v d parts r n y
    → Seen {A = GuestState × Turn} (pin_next g cpu (pin_op pins number index) parts r) n y (h, t) w e → TurnCase g cpu v d h t w e
case_pin_next g v n w d y e cpu pins number index slot tag page parts PlaceDone h t k at has (found, is) (ea, em, ed) =
    was_pinned pins number index slot tag page found parts k.starts k.wants at has (rw (em, ed) is.back) is.may (rw em is.rehinted) (ap (λ q. q.0) ea) (ap (λ q. q.1) ea)
case_pin_next g v n w d y e cpu pins number index slot tag page parts PlaceGone h t k at has o (ea, em, ed) =
    was_gone (pin_op pins number index) tag page o.found k.starts k.wants has (ap (λ q. q.0) ea ∙ ap (λ q. with_parts g q) o.tables) (ap (λ q. q.1) ea) (rw (em, ed) o.back) o.may o.lost
    (rw em o.unused) o.quiet
case_pin_next g v n w d y e cpu pins number index slot tag page parts (PlaceAgain why) h t k at has (tables, may, misses, disk) (ea, em, ed) =
    missed (pin_op pins number index) why k.starts.has (ap (λ q. q.0) ea ∙ ap (λ q. with_parts g q) tables) (ap (λ q. q.1) ea) (rw (em, ed) may) (rw em misses) (ed ∙ disk)

case_pin_in : (state : FlatState) (g : GuestState) (v w : StorageView) (d e : DiskView) (cpu : ℕ) (pins : Bool) (number index slot : ℕ) (tag : Tag) (page : ℕ) (h : GuestState) (t : Turn)
    → FitAt state g v d → Proceeds g cpu (pin_op pins number index) tag → find_slot g.parts.maps (process_of g.plan cpu) number ≡ Some slot → HasPage g tag page
    → Seen {A = GuestState × Turn} (pin_in g cpu (pin_op pins number index) page index pins (find_slot g.parts.maps (process_of g.plan cpu) number)) v d (h, t) w e → TurnCase g cpu v d h t w e
case_pin_in state g v w d e cpu pins number index slot tag page h t f k at has run =
    let op = pin_op pins number index in
    let run' : Seen {A = GuestState × Turn} (pin_in g cpu op page index pins (Some slot)) v d (h, t) w e =
    subst (λ q. Seen {A = GuestState × Turn} (pin_in g cpu op page index pins q) v d (h, t) w e) at run in
    let x = unbind (pin_page g.parts page slot index pins) (λ went. pin_next g cpu op went.0 went.1) v d (h, t) w e run' in
    let used = is_used_pinned g.parts page slot index pins tag has.below has.tagged in
    let o = seen_pin_page g.parts page slot index pins v d x.answer.0 x.answer.1 x.storage x.disk (can_be_used state g v d page tag f has) used x.first in
    case_pin_next g v x.storage w d x.disk e cpu pins number index slot tag page x.answer.0 x.answer.1 h t k at has o x.second

pub case_pin : (state : FlatState) (g : GuestState) (v w : StorageView) (d e : DiskView) (cpu : ℕ) (pins : Bool) (number index slot : ℕ) (tag : Tag) (page : ℕ) (h : GuestState) (t : Turn)
    → FitAt state g v d → Proceeds g cpu (pin_op pins number index) tag → find_slot g.parts.maps (process_of g.plan cpu) number ≡ Some slot → HasPage g tag page
    → Seen {A = GuestState × Turn} (use_turn g cpu (pin_op pins number index) page) v d (h, t) w e → TurnCase g cpu v d h t w e
unfolding use_turn
case_pin state g v w d e cpu true number index slot tag page h t f k at has run = case_pin_in state g v w d e cpu true number index slot tag page h t f k at has run
case_pin state g v w d e cpu false number index slot tag page h t f k at has run = case_pin_in state g v w d e cpu false number index slot tag page h t f k at has run
