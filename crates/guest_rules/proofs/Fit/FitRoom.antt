-- Every turn that is to make room keeps fit.
use Rattle.std.proofs.Common.{ℕ, subst}
use Rattle.cmm_types.specs.declared.command.Op.{Op}
use Rattle.cmm_types.specs.declared.command.Reply.TheVariants.{Fail}
use Rattle.cmm_types.specs.declared.turn.Turn.{Turn}
use Rattle.cmm_io.specs.DiskView.{DiskView}
use Rattle.cmm_flat.specs.Legal.{flat_of}
use Rattle.cmm_storage.specs.StorageView.{StorageView}
use Rattle.guest_rules.specs.declared.processor.Phase.TheVariants.{Start}
use Rattle.guest_rules.specs.GuestState.{GuestState, with_parts, with_phase}
use Rattle.guest_rules.specs.Fit.{Fit}
use Rattle.guest_rules.proofs.Cases.TurnCases.{RoomCase, room_gone, was_cleared, was_locked_to_go, room_missed, room_waited, had_no_page, page_out_missed, was_paged_out, page_out_failed}
use Rattle.guest_rules.proofs.Fit.FitMay.{FitAt-may}
use Rattle.guest_rules.proofs.Fit.FitPassed.{entered-start, start-has, start-phase}
use Rattle.guest_rules.proofs.Fit.Replies.{Fit-failed}
use Rattle.guest_rules.proofs.Fit.StepFreed.{Fit-gone, Fit-cleared}
use Rattle.guest_rules.proofs.Fit.StepLocked.{Fit-written_back, Fit-not_written}
use Rattle.guest_rules.proofs.Fit.StepRoom.{goes-unpinned, Fit-locked_to_go, pages_out-holds, pages_out-needs, Fit-no_page}

pub Fit-room : (g : GuestState) (v : StorageView) (d : DiskView) (h : GuestState) (w : StorageView) (e : DiskView) (cpu : ℕ) (op : Op) (t : Turn) → Fit g v d
    → RoomCase g cpu op v d h t w e → Fit h w e
unfolding with_phase
Fit-room g v d h w e cpu op t f (room_gone tag page found k goes back may lost unused eh et) =
    rw eh (Fit-gone (flat_of g.plan g.journal) g v d w e tag page found f goes.has back may lost unused)
Fit-room g v d h w e cpu op t f (was_cleared tag page found k goes back may there unchanged clean unused eh et) =
    rw eh (Fit-cleared (flat_of g.plan g.journal) g v d w e tag page found f goes.has (goes-unpinned g tag page goes) back may there unchanged clean unused)
Fit-room g v d h w e cpu op t f (was_locked_to_go tag page found k goes back may there dirty value eh et) =
    rw eh (Fit-locked_to_go (flat_of g.plan g.journal) g v d w e cpu op tag page found f k goes back may there dirty value)
Fit-room g v d h w e cpu op t f (room_missed why k eh et may misses ee) = rw eh (FitAt-may (flat_of g.plan g.journal) g v d w e f may)
Fit-room g v d h w e cpu op t f (room_waited page owner k none found owned eh et ew ee) = rw (eh, ew, ee) f
Fit-room g v d h w e cpu op t f (had_no_page k none unlocked eh et ew ee) = rw (eh, ew, ee) (Fit-no_page g v d cpu op f k none unlocked)
Fit-room g v d h w e cpu op t f (page_out_missed tag page why k eh et may misses ee) = rw eh (FitAt-may (flat_of g.plan g.journal) g v d w e f may)
Fit-room g v d h w e cpu op t f (was_paged_out tag page bytes after k are wrote told eh et) =
    rw eh (Fit-written_back (flat_of g.plan g.journal) g v d w e cpu page tag bytes after f (pages_out-holds g cpu op tag page f.locks k) are wrote told)
Fit-room g v d h w e cpu op t f (page_out_failed tag page cause after k back told risen eh et) =
    let now = with_phase (with_parts g after) cpu Start in
    let has = start-has (with_parts g after) cpu op (record { below = k.has.below; command = k.has.command }) in
    rw eh (subst (λ (q : GuestState). Fit q w e) (entered-start (with_parts g after) cpu op (Fail cause) k.has.below)
    (Fit-failed now v d w e w e cpu op cause (Fit-not_written (flat_of g.plan g.journal) g v d w e cpu page tag after f (pages_out-holds g cpu op tag page f.locks k) back told) has
    (pages_out-needs g cpu op tag page f.locks k) (start-phase (with_parts g after) cpu k.has.below) risen))
