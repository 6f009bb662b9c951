-- A command whose page wasn't reached.
use Rattle.std.proofs.Common.{◌≡◌, ℕ, refl, subst, sym, ◌∙◌}
use Rattle.cmm_types.specs.declared.command.Op.{Op}
use Rattle.cmm_types.specs.declared.turn.Turn.{Turn}
use Rattle.cmm_io.specs.DiskCall.{DiskCall}
use Rattle.cmm_storage.specs.StorageCall.{StorageCall}
use Rattle.cmm_storage.specs.Program.{done, Does}
use Rattle.guest_rules.specs.declared.parts.Parts.{Parts}
use Rattle.guest_rules.specs.declared.outcome.Missed.{Missed}
use Rattle.guest_rules.specs.declared.outcome.Missed.TheVariants.{Gone, Again, Fail}
use Rattle.guest_rules.specs.GuestState.{GuestState, with_parts}
use Rattle.guest_rules.specs.Turns.{missed_next}

-- the tables are those that the call on the page left
missed_with : (g : GuestState) (cpu : ℕ) (op : Op) (parts : Parts) (missed : Missed) → missed_next (with_parts g parts) cpu op parts missed ≡ missed_next g cpu op parts missed
missed_with g cpu op parts Gone = refl
missed_with g cpu op parts (Again why) = refl
missed_with g cpu op parts (Fail cause) = refl

pub missed_runs : {S D : Type 0} (ss : S → StorageCall → S → Type 0) (ds : D → DiskCall → D → Type 0) (g h : GuestState) (cpu : ℕ) (op : Op) (parts : Parts) (missed : Missed) (t : Turn)
    (s : S) (d : D)
    → missed_next (with_parts g parts) cpu op parts missed ≡ done (h, t) → Does ss ds (missed_next g cpu op parts missed) s d (h, t) s d
missed_runs ss ds g h cpu op parts missed t s d ends =
    subst (λ p. Does ss ds p s d (h, t) s d) (sym (sym (missed_with g cpu op parts missed) ∙ ends)) (refl, refl, refl)
