-- What a turn that moved answers for the room of its guest, where its processor neither wrote a page back to make room nor locked one for it.
use Rattle.std.proofs.Common.{◌≡◌, ℕ, sym, ap, subst, refl, ◌∙◌}
use Rattle.cmm_types.specs.declared.command.Op.{Op}
use Rattle.cmm_types.specs.declared.command.Op.TheVariants.{Sync}
use Rattle.cmm_io.specs.DiskView.{DiskView}
use Rattle.cmm_storage.specs.StorageView.{StorageView}
use Rattle.guest_rules.specs.declared.parts.Parts.{Parts}
use Rattle.guest_rules.specs.declared.processor.Phase.{Phase}
use Rattle.guest_rules.specs.declared.processor.Phase.TheVariants.{Start, Fill, Room as AtRoom, Sync as AtSync, SyncWrite, Teardown}
use Rattle.guest_rules.specs.GuestState.{GuestState, processor_at, with_parts, with_phase}
use Rattle.guest_rules.specs.Fit.{Fit}
use Rattle.guest_rules.specs.Cause.{RoomMoves}
use Rattle.guest_rules.proofs.Cases.TurnCases.{Has, Starts}
use Rattle.guest_rules.proofs.Causes.CauseForms.{phase_after, pages_out_for_other}

-- a processor that doesn't write a page back to make room
abbrev pub NotRoom : Phase → Type 0
NotRoom Start = Unit {0}
NotRoom (Fill page) = Unit {0}
NotRoom (AtRoom page) = ⊥
NotRoom (AtSync index) = Unit {0}
NotRoom (SyncWrite index page) = Unit {0}
NotRoom (Teardown slot index) = Unit {0}

not_room : (g : GuestState) (cpu page : ℕ) (phase : Phase) → (processor_at g cpu).phase ≡ phase → NotRoom phase → (processor_at g cpu).phase ≡ AtRoom page → ⊥
not_room g cpu page phase is other at = subst NotRoom (sym is ∙ at) other

-- neither before nor after the turn
pub no_room : (g h : GuestState) (w : StorageView) (e : DiskView) (cpu : ℕ) (before after : Phase) → (processor_at g cpu).phase ≡ before → (processor_at h cpu).phase ≡ after
    → NotRoom before → NotRoom after → RoomMoves g cpu h w e
no_room g h w e cpu before after was is other other' = record {
  locks = λ page at. absurd (not_room h cpu page after is other' at);
  writes = λ page tag at tagged. absurd (not_room g cpu page before was other at);
}

-- a turn in phase Start that stays there
pub starts_again : (g h : GuestState) (w : StorageView) (e : DiskView) (cpu : ℕ) (op : Op) (parts : Parts) → Starts g cpu op → h ≡ with_parts g parts → RoomMoves g cpu h w e
starts_again g h w e cpu op parts starts eh = no_room g h w e cpu Start Start starts.start (ap (λ q. (processor_at q cpu).phase) eh ∙ starts.start) tt tt

-- a sync needs no room
pub syncs_on : (g h : GuestState) (v w : StorageView) (d e : DiskView) (cpu file : ℕ) (parts : Parts) (phase : Phase) → Fit g v d → Has g cpu (Sync file)
    → h ≡ with_phase (with_parts g parts) cpu phase → NotRoom phase → RoomMoves g cpu h w e
syncs_on g h v w d e cpu file parts phase f has eh other = record {
  locks = λ page at. absurd (not_room h cpu page phase (phase_after g cpu (Sync file) parts phase h has eh) other at);
  writes = λ page tag at tagged. absurd (pages_out_for_other g v d cpu (Sync file) page f has at file refl);
}
