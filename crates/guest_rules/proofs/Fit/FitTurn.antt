-- Every turn keeps fit.
use Rattle.std.proofs.Common.{◌≡◌, ℕ, Bool, Some, sym, ◌∙◌, subst}
use Rattle.cmm_types.specs.declared.command.Op.{Op}
use Rattle.cmm_types.specs.declared.command.Op.TheVariants.{Load, Store}
use Rattle.cmm_types.specs.declared.command.Reply.TheVariants.{Fail}
use Rattle.cmm_types.specs.declared.command.Cause.{Cause}
use Rattle.cmm_types.specs.declared.command.Cause.TheVariants.{Paging}
use Rattle.cmm_types.specs.declared.turn.Turn.{Turn}
use Rattle.cmm_io.specs.DiskView.{DiskView}
use Rattle.cmm_flat.specs.Legal.{flat_of, CanNeedPage}
use Rattle.essa_state.specs.PageValue.{IsMadeUnused}
use Rattle.cmm_storage.specs.StorageView.{StorageView}
use Rattle.guest_rules.specs.declared.processor.Phase.TheVariants.{Start, Fill}
use Rattle.guest_rules.specs.GuestState.{GuestState, processor_at, with_parts, with_phase, entered}
use Rattle.guest_rules.specs.Rows.{freed}
use Rattle.guest_rules.specs.Turns.{begun}
use Rattle.guest_rules.specs.Fit.{Fit}
use Rattle.guest_rules.specs.Answers.{FailCause}
use Rattle.guest_rules.proofs.Cases.TurnCases.{GivenBack, Has, Maps, TurnCase, was_idle, was_refused, was_mapped, waited, missed, missed_rehinted, was_begun, was_gone, was_read, was_written}
use Rattle.guest_rules.proofs.Cases.TurnCases.{touch_failed, was_resolved, was_loaded, was_stored, entry_failed, fill_failed, was_filled, was_pinned, was_sync, was_room, was_mapped_own, was_unmapped}
use Rattle.guest_rules.proofs.Cases.TurnCases.{was_torn, was_torn_own}
use Rattle.guest_rules.proofs.Fit.FitMay.{FitAt-may}
use Rattle.guest_rules.proofs.Fit.StepBegun.{Fit-begun}
use Rattle.guest_rules.proofs.Fit.StepFreed.{Fit-gone, Fit-given_up}
use Rattle.guest_rules.proofs.Fit.StepFilled.{Fit-filled}
use Rattle.guest_rules.proofs.Fit.StepTold.{Fit-rehinted}
use Rattle.guest_rules.proofs.Fit.StepResolved.{Fit-resolved}
use Rattle.guest_rules.proofs.Fit.Replies.{Fit-refused, Fit-read, Fit-failed}
use Rattle.guest_rules.proofs.Fit.ReplyWritten.{Fit-written}
use Rattle.guest_rules.proofs.Fit.ReplyMapped.{Fit-mapped, Fit-mapped_own}
use Rattle.guest_rules.proofs.Fit.ReplyLoaded.{Fit-loaded}
use Rattle.guest_rules.proofs.Fit.ReplyStored.{Fit-stored}
use Rattle.guest_rules.proofs.Fit.ReplyPinned.{Fit-pinned}
use Rattle.guest_rules.proofs.Fit.FitPassed.{entered-start, start-has, start-phase}
use Rattle.guest_rules.proofs.Fit.FitSync.{Fit-sync}
use Rattle.guest_rules.proofs.Fit.FitRoom.{Fit-room}
use Rattle.guest_rules.proofs.Fit.ReplyUnmapped.{Fit-unmapped}
use Rattle.guest_rules.proofs.Fit.FitTorn.{Fit-torn, Fit-torn_own}

-- a page couldn't be filled: it is freed, and the command fails
Fit-fill_failed : (g : GuestState) (v : StorageView) (d : DiskView) (w : StorageView) (e : DiskView) (cpu : ℕ) (op : Op) (page : ℕ) (cause : Cause) → Fit g v d → Has g cpu op
    → (processor_at g cpu).phase ≡ Fill page
    → GivenBack page v d w e → IsMadeUnused (v.values page) (w.values page) → FailCause cause v d w e → Fit (entered (with_parts g (freed g.parts page)) cpu op (Fail cause)) w e
unfolding with_phase
Fit-fill_failed g v d w e cpu op page cause f has phase back unused risen =
    let now = with_parts g (freed g.parts page) in
    let k = (f.locks.filling cpu page phase).1 in
    let both : Some k.op ≡ Some op = sym k.command ∙ has.command in
    let same : k.op ≡ op = cc in
    subst (λ (q : GuestState). Fit q w e) (entered-start now cpu op (Fail cause) has.below)
    (Fit-failed (with_phase now cpu Start) v d w e w e cpu op cause (Fit-given_up (flat_of g.plan g.journal) g v d w e cpu page f has.below phase back unused)
    (start-has now cpu op (record { below = has.below; command = has.command })) (subst CanNeedPage same k.needs) (start-phase now cpu has.below) risen)

-- a command that goes through a mapping needs a page
through-needs : (g : GuestState) (cpu : ℕ) (op : Op) (writes : Bool) (slot off : ℕ) → Maps g cpu op writes slot off → CanNeedPage op
through-needs g cpu (Load number at len) writes slot off maps = tt
through-needs g cpu (Store number at bytes) writes slot off maps = tt
through-needs g cpu op writes slot off maps = absurd maps

pub fit_turn : (g : GuestState) (cpu : ℕ) (v : StorageView) (d : DiskView) (h : GuestState) (t : Turn) (w : StorageView) (e : DiskView) → Fit g v d → TurnCase g cpu v d h t w e → Fit h w e
unfolding with_phase begun
fit_turn g cpu v d h t w e f (was_idle none eh et ew ee) = rw (eh, ew, ee) f
fit_turn g cpu v d h t w e f (was_refused op refusal has start refused eh et ew ee) = rw (eh, ew, ee) (Fit-refused g v d cpu op refusal f has start refused)
fit_turn g cpu v d h t w e f (was_mapped number file first count writable slot starts free eh et ew ee) = rw (eh, ew, ee) (Fit-mapped g v d cpu number file first count writable slot f starts free)
fit_turn g cpu v d h t w e f (was_mapped_own number count slot starts free eh et ew ee) = rw (eh, ew, ee) (Fit-mapped_own g v d cpu number count slot f starts free)
fit_turn g cpu v d h t w e f (waited op page owner starts has locked eh et ew ee) = rw (eh, ew, ee) f
fit_turn g cpu v d h t w e f (missed op why has eh et may risen ee) = rw eh (FitAt-may (flat_of g.plan g.journal) g v d w e f may)
fit_turn g cpu v d h t w e f (missed_rehinted why op tag page found after starts wants has eh et back may told misses ee) =
    rw eh (Fit-rehinted (flat_of g.plan g.journal) g v d w e page tag found after f has back may told)
fit_turn g cpu v d h t w e f (was_begun op tag page rest found starts wants none top eh et back may value) =
    rw eh (Fit-begun (flat_of g.plan g.journal) g v d w e cpu op tag page rest found f starts wants none top back may value)
fit_turn g cpu v d h t w e f (was_gone op tag page found starts wants has eh et back may lost unused quiet) =
    rw eh (Fit-gone (flat_of g.plan g.journal) g v d w e tag page found f has back may lost unused)
fit_turn g cpu v d h t w e f (was_read file off len page found all after starts has back may are told eh et) =
    rw eh (Fit-read g v d w e cpu file off len page found all after f starts has back may are told)
fit_turn g cpu v d h t w e f (was_written file off bytes page found all starts has back may are value eh et) =
    rw eh (Fit-written g v d w e cpu file off bytes page found all f starts has back may are value)
fit_turn g cpu v d h t w e f (touch_failed op tag page found after needs starts wants has back may told eh et risen) =
    rw eh (Fit-failed (with_parts g after) v d w e w e cpu op Paging (Fit-rehinted (flat_of g.plan g.journal) g v d w e page tag found after f has back may told)
    (record { below = starts.has.below; command = starts.has.command }) needs starts.start risen)
fit_turn g cpu v d h t w e f (was_resolved op tag writes slot off page found after starts wants maps has can back may told eh et) =
    rw eh (Fit-resolved (flat_of g.plan g.journal) g v d w e cpu op tag writes slot off page found after f starts wants maps has can back may told)
fit_turn g cpu v d h t w e f (was_loaded number off len slot page writable all starts found entry are eh et may) =
    rw eh (Fit-loaded g v d w e cpu number off len slot page writable all f starts found entry are may)
fit_turn g cpu v d h t w e f (was_stored number off bytes slot page found all starts slot_found entry back may are value eh et) =
    rw eh (Fit-stored g v d w e cpu number off bytes slot page found all f starts slot_found entry back may are value)
fit_turn g cpu v d h t w e f (was_pinned pins number index slot tag page found after starts wants at has back may told eh et) =
    rw eh (Fit-pinned g v d w e cpu pins number index slot tag page found after f starts wants at has back may told)
fit_turn g cpu v d h t w e f (entry_failed op writes slot off starts maps eh et may risen) =
    rw eh (Fit-failed g v d w e w e cpu op Paging (FitAt-may (flat_of g.plan g.journal) g v d w e f may) starts.has (through-needs g cpu op writes slot off maps) starts.start risen)
fit_turn g cpu v d h t w e f (fill_failed op page cause has phase eh et back unused risen) = rw eh (Fit-fill_failed g v d w e cpu op page cause f has phase back unused risen)
fit_turn g cpu v d h t w e f (was_filled op page tag has phase tagged eh et back value) = rw eh (Fit-filled (flat_of g.plan g.journal) g v d w e cpu page tag f has.below phase tagged back value)
fit_turn g cpu v d h t w e f (was_sync file index case) = Fit-sync g v d h w e cpu file index t f case
fit_turn g cpu v d h t w e f (was_room op case) = Fit-room g v d h w e cpu op t f case
fit_turn g cpu v d h t w e f (was_unmapped number slot starts found eh et ew ee) = rw (eh, ew, ee) (Fit-unmapped g v d cpu number slot f starts found)
fit_turn g cpu v d h t w e f (was_torn slot index its case) = Fit-torn g v d h w e cpu slot index t f its case
fit_turn g cpu v d h t w e f (was_torn_own slot index its case) = Fit-torn_own g v d h w e cpu slot index t f its case
