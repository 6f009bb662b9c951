-- A sync that passes a page of its file goes on to the next page, or is done.
use Rattle.std.specs.Prelude.{◌≡◌, ◌<◌, ◌≤◌, ℕ, ◌+◌, Bool, true, false, nat_lt, if◌then◌else◌, refl}
use Rattle.std.proofs.Common.{ap}
use Rattle.std.proofs.lemmas.Bool.{ltb-true, ltb-false}
use Rattle.cmm_types.specs.declared.command.Op.TheVariants.{Sync}
use Rattle.cmm_types.specs.declared.command.Reply.TheVariants.{Done}
use Rattle.cmm_types.specs.declared.turn.Turn.{Turn}
use Rattle.cmm_types.specs.declared.turn.Turn.TheVariants.{Moved, Finished}
use Rattle.guest_rules.specs.declared.parts.Parts.{Parts}
use Rattle.guest_rules.specs.declared.processor.Phase.TheVariants.{Sync as AtSync}
use Rattle.guest_rules.specs.GuestState.{GuestState, with_parts, with_phase, entered}
use Rattle.guest_rules.specs.Turns.{file_pages}
use Rattle.guest_rules.proofs.Cases.TurnCases.{Passes}

pub data HasPassed (g : GuestState) (cpu file index : ℕ) (after : Parts) (h : GuestState) (t : Turn) : Type 0 where
  -- the file has a next page
  goes_on : index + 1 < file_pages g.plan.files file → h ≡ with_phase (with_parts g after) cpu (AtSync (index + 1)) → t ≡ Moved → HasPassed g cpu file index after h t
  -- it was the last
  is_done : file_pages g.plan.files file ≤ index + 1 → h ≡ entered (with_parts g after) cpu (Sync file) Done → t ≡ Finished → HasPassed g cpu file index after h t

pub has_passed : (g : GuestState) (cpu file index : ℕ) (after : Parts) (h : GuestState) (t : Turn) → Passes g cpu file index after h t → HasPassed g cpu file index after h t
has_passed g cpu file index after h t passes = of (nat_lt (index + 1) (file_pages g.plan.files file)) refl passes
  where
    of : (more : Bool) → nat_lt (index + 1) (file_pages g.plan.files file) ≡ more
        → ◌≡◌ {A = GuestState × Turn} (h, t) (if more then (with_phase (with_parts g after) cpu (AtSync (index + 1)), Moved) else (entered (with_parts g after) cpu (Sync file) Done, Finished))
        → HasPassed g cpu file index after h t
    of true e is = goes_on (ltb-true _ _ e) (ap (λ q. q.0) is) (ap (λ q. q.1) is)
    of false e is = is_done (ltb-false _ _ e) (ap (λ q. q.0) is) (ap (λ q. q.1) is)
