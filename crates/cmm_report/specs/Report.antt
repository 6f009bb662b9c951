-- The text of a report: the head, an event line for each answer, a line and a journal for each guest, and the end.
use Rattle.std.specs.Prelude.{ℕ, ◌+◌, List, [], ◌∷◌, ◌++◌, Bool, length}
use Rattle.std.specs.List.{flat_map}
use Rattle.cmm_types.specs.declared.event.Answer.{Answer}
use Rattle.cmm_types.specs.declared.command.Entry.{Entry}
use Rattle.cmm_report.specs.Lines.{head_line, event_line, guest_line, entry_line, end_line}

-- the event lines of these answers, numbered from here on
abbrev pub events_text : ℕ → List Answer → List ℕ
events_text number [] = []
events_text number (answer ∷ answers) = event_line number answer ++ events_text (number + 1) answers

abbrev pub journal_text : List Entry → List ℕ
journal_text journal = flat_map entry_line journal

-- what a report says of a guest
pub record GuestReport : Type 0 where
  pub journal : List Entry
  pub discards : ℕ
  pub faults : ℕ

abbrev pub guest_text : ℕ → GuestReport → List ℕ
guest_text number guest = guest_line number (length guest.journal) guest.discards guest.faults ++ journal_text guest.journal

abbrev pub guests_text : ℕ → List GuestReport → List ℕ
guests_text number [] = []
guests_text number (guest ∷ guests) = guest_text number guest ++ guests_text (number + 1) guests

-- the whole report of a run, or of a replay with the answers of its events
abbrev pub report_of : Bool → List Answer → List GuestReport → List ℕ
report_of run answers guests = head_line run ++ events_text 0 answers ++ guests_text 0 guests ++ end_line
