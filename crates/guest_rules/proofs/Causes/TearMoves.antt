-- What a turn that moved answers for teardowns, where its command isn't an unmap.
use Rattle.std.proofs.Common.{◌≡◌, ℕ, Some, sym, ap, subst, ◌∙◌}
use Rattle.cmm_types.specs.declared.command.Op.{Op}
use Rattle.cmm_types.specs.declared.command.Op.TheVariants.{Unmap}
use Rattle.guest_rules.specs.declared.parts.Parts.{Parts}
use Rattle.guest_rules.specs.declared.processor.Phase.{Phase}
use Rattle.guest_rules.specs.declared.processor.Phase.TheVariants.{Start, Fill, Room as AtRoom, Sync as AtSync, SyncWrite, Teardown}
use Rattle.guest_rules.specs.GuestState.{GuestState, processor_at, with_parts, with_phase}
use Rattle.guest_rules.specs.Cause.{TearMoves}
use Rattle.guest_rules.proofs.Cases.TurnCases.{Has, Starts}
use Rattle.guest_rules.proofs.Causes.CauseForms.{phase_after}

-- a processor that tears no mapping down
abbrev pub NotTeardown : Phase → Type 0
NotTeardown Start = Unit {0}
NotTeardown (Fill page) = Unit {0}
NotTeardown (AtRoom page) = Unit {0}
NotTeardown (AtSync index) = Unit {0}
NotTeardown (SyncWrite index page) = Unit {0}
NotTeardown (Teardown slot index) = ⊥

no_teardown : (g h : GuestState) (cpu : ℕ) (op : Op) (after : Phase) → Has g cpu op → ((number : ℕ) → op ≡ Unmap number → ⊥) → (processor_at h cpu).phase ≡ after → NotTeardown after
    → TearMoves g cpu h
no_teardown g h cpu op after has other is not_torn = record {
  leads = λ number command.
      let both : Some op ≡ Some (Unmap number) = sym has.command ∙ command in
      let same : op ≡ Unmap number = cc in
      absurd (other number same);
  only = λ slot index at. absurd (subst NotTeardown (sym is ∙ at) not_torn);
}

-- its phase is another one
pub moves_on : (g h : GuestState) (cpu : ℕ) (op : Op) (parts : Parts) (phase : Phase) → Has g cpu op → ((number : ℕ) → op ≡ Unmap number → ⊥)
    → h ≡ with_phase (with_parts g parts) cpu phase → NotTeardown phase → TearMoves g cpu h
moves_on g h cpu op parts phase has other eh not_torn = no_teardown g h cpu op phase has other (phase_after g cpu op parts phase h has eh) not_torn

-- it stays in phase Start
pub stays_at_start : (g h : GuestState) (cpu : ℕ) (op : Op) (parts : Parts) → Starts g cpu op → ((number : ℕ) → op ≡ Unmap number → ⊥) → h ≡ with_parts g parts → TearMoves g cpu h
stays_at_start g h cpu op parts starts other eh = no_teardown g h cpu op Start starts.has other (ap (λ q. (processor_at q cpu).phase) eh ∙ starts.start) tt
