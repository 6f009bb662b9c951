-- What a report says of a world's guests.
use Rattle.std.specs.Prelude.{ℕ, ◌-◌, List, map, length}
use Rattle.std.specs.List.{range_with_len}
use Rattle.cmm_report.specs.Report.{GuestReport}
use Rattle.cmm_world.specs.WorldState.{WorldState, guest_at}
use Rattle.cmm_world.specs.WorldView.{discards_of}

abbrev pub guest_report : WorldState → ℕ → GuestReport
guest_report w guest = record {
  journal = (guest_at w guest).journal;
  discards = discards_of w guest;
  faults = (guest_at w guest).parts.faults;
}

-- those of the guests from this number on
abbrev pub reports_from : WorldState → ℕ → List GuestReport
reports_from w guest = map (guest_report w) (range_with_len guest (length w.guests - guest))

abbrev pub reports_of : WorldState → List GuestReport
reports_of w = reports_from w 0
