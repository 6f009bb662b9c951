-- The reports of the guests from a number on.
use Rattle.std.specs.Prelude.{◌≡◌, ◌<◌, ℕ, suc, ◌+◌, ◌-◌, ◌++◌, [], ◌∷◌, map, length}
use Rattle.std.specs.List.{range_with_len}
use Rattle.std.proofs.Common.{ap, arith}
use Rattle.cmm_report.specs.Report.{guest_text, guests_text}
use Rattle.cmm_world.specs.WorldState.{WorldState}
use Rattle.cmm2_cli.specs.Reports.{guest_report, reports_from}

pub reports_end : (w : WorldState) (guest : ℕ) → guest ≡ length w.guests → reports_from w guest ≡ []
reports_end w guest end = let none : length w.guests - guest ≡ 0 = omega arith in ap (λ n. map (guest_report w) (range_with_len guest n)) none

pub reports_next : (w : WorldState) (guest : ℕ) → guest < length w.guests → reports_from w guest ≡ guest_report w guest ∷ reports_from w (guest + 1)
reports_next w guest below =
    let more : length w.guests - guest ≡ suc (length w.guests - (guest + 1)) = omega arith in
    ap (λ n. map (guest_report w) (range_with_len guest n)) more

-- a guest's text, and those of the guests behind it
pub text_next : (w : WorldState) (guest : ℕ) → guest < length w.guests
    → guests_text guest (reports_from w guest) ≡ guest_text guest (guest_report w guest) ++ guests_text (guest + 1) (reports_from w (guest + 1))
text_next w guest below = ap (guests_text guest) (reports_next w guest below)
