-- The reports of a machine's guests from a number on.
use Rattle.std.specs.Prelude.{◌≡◌, ◌<◌, ℕ, suc, ◌+◌, ◌-◌, ◌++◌, [], ◌∷◌, map}
use Rattle.std.specs.List.{range_with_len}
use Rattle.std.proofs.Common.{ap, arith}
use Rattle.cmm_report.specs.Report.{guest_text, guests_text}
use Rattle.cmm_vcpu.specs.Machines.{MachineState}
use Rattle.cmm2_cli.specs.Running.{machine_report, machine_reports_from}

pub reports_end : (m : MachineState) (guest : ℕ) → guest ≡ m.guests → machine_reports_from m guest ≡ []
reports_end m guest end = let none : m.guests - guest ≡ 0 = omega arith in ap (λ n. map (machine_report m) (range_with_len guest n)) none

pub reports_next : (m : MachineState) (guest : ℕ) → guest < m.guests → machine_reports_from m guest ≡ machine_report m guest ∷ machine_reports_from m (guest + 1)
reports_next m guest below =
    let more : m.guests - guest ≡ suc (m.guests - (guest + 1)) = omega arith in
    ap (λ n. map (machine_report m) (range_with_len guest n)) more

-- a guest's text, and those of the guests behind it
pub text_next : (m : MachineState) (guest : ℕ) → guest < m.guests
    → guests_text guest (machine_reports_from m guest) ≡ guest_text guest (machine_report m guest) ++ guests_text (guest + 1) (machine_reports_from m (guest + 1))
text_next m guest below = ap (guests_text guest) (reports_next m guest below)
