-- Where a turn's processor is after it.
use Rattle.std.specs.Prelude.{◌≡◌, ◌<◌, ℕ, ◌+◌, length, Some}
use Rattle.std.proofs.Common.{ap, ◌∙◌, get_or-set_same}
use Rattle.cmm_types.specs.declared.command.Op.{Op}
use Rattle.cmm_types.specs.declared.command.Reply.{Reply}
use Rattle.cmm_flat.specs.Legal.{command_of}
use Rattle.guest_rules.specs.declared.parts.Parts.{Parts}
use Rattle.guest_rules.specs.declared.processor.Phase.{Phase}
use Rattle.guest_rules.specs.declared.processor.Phase.TheVariants.{Start}
use Rattle.guest_rules.specs.GuestState.{GuestState, processor_at, first_processor, with_parts, with_phase, entered, answered, next_command}
use Rattle.guest_rules.proofs.Cases.TurnCases.{Has}

pub processor-with_phase : (g : GuestState) (cpu : ℕ) (phase : Phase) → cpu < length g.processors
    → processor_at (with_phase g cpu phase) cpu ≡ record { place = (processor_at g cpu).place; phase = phase }
unfolding with_phase
processor-with_phase g cpu phase below = get_or-set_same g.processors cpu (record { place = (processor_at g cpu).place; phase = phase }) first_processor below

pub processor-entered : (g : GuestState) (cpu : ℕ) (op : Op) (reply : Reply) → cpu < length g.processors
    → processor_at (entered g cpu op reply) cpu ≡ record { place = (processor_at g cpu).place + 1; phase = Start }
unfolding entered
processor-entered g cpu op reply below = get_or-set_same g.processors cpu (record { place = (processor_at g cpu).place + 1; phase = Start }) first_processor below

pub processor-answered : (g : GuestState) (cpu : ℕ) (op : Op) (reply : Reply) (phase : Phase) → cpu < length g.processors
    → processor_at (answered g cpu op reply phase) cpu ≡ record { place = (processor_at g cpu).place; phase = phase }
unfolding answered
processor-answered g cpu op reply phase below = get_or-set_same g.processors cpu (record { place = (processor_at g cpu).place; phase = phase }) first_processor below

pub processor-next_command : (g : GuestState) (cpu : ℕ) → cpu < length g.processors
    → processor_at (next_command g cpu) cpu ≡ record { place = (processor_at g cpu).place + 1; phase = Start }
unfolding next_command
processor-next_command g cpu below = get_or-set_same g.processors cpu (record { place = (processor_at g cpu).place + 1; phase = Start }) first_processor below

-- the processor has the same command in its new phase
pub record IsAt (h : GuestState) (cpu : ℕ) (op : Op) (phase : Phase) : Type 0 where
  pub command : command_of h.plan cpu (processor_at h cpu).place ≡ Some op
  pub phase_is : (processor_at h cpu).phase ≡ phase

pub at_phase : (g : GuestState) (cpu : ℕ) (op : Op) (parts : Parts) (phase : Phase) → Has g cpu op → IsAt (with_phase (with_parts g parts) cpu phase) cpu op phase
unfolding with_phase
at_phase g cpu op parts phase has =
    let here = processor-with_phase (with_parts g parts) cpu phase has.below in
    record {
      command = ap (λ q. command_of g.plan cpu q.place) here ∙ has.command;
      phase_is = ap (λ q. q.phase) here;
    }
