-- The lines of a report, each with its line feed.
use Rattle.std.specs.Prelude.{ℕ, List, [], ◌∷◌, ◌++◌, Bool, true, false, codes, decimal}
use Rattle.cmm_types.specs.declared.event.Answer.{Answer}
use Rattle.cmm_types.specs.declared.command.Entry.{Entry}
use Rattle.cmm_report.specs.declared.report.Totals.{Totals}
use Rattle.cmm_report.specs.Texts.{answer_text, reply_text}

-- a line's text with its line feed
abbrev pub line : List ℕ → List ℕ
line text = text ++ 10 ∷ []

-- the first line: a replay's or a run's
abbrev pub head_line : Bool → List ℕ
head_line true = line (codes "cmm2-report 1 run")
head_line false = line (codes "cmm2-report 1 replay")

abbrev pub event_line : ℕ → Answer → List ℕ
event_line number answer = line (codes "event " ++ decimal number ++ codes " " ++ answer_text answer)

abbrev pub guest_line : ℕ → ℕ → ℕ → ℕ → List ℕ
guest_line guest entries discards faults =
    line (codes "guest " ++ decimal guest ++ codes " entries " ++ decimal entries ++ codes " discards " ++ decimal discards ++ codes " faults " ++ decimal faults)

abbrev pub entry_line : Entry → List ℕ
entry_line entry = line (decimal entry.cpu ++ codes " " ++ decimal entry.k ++ codes " " ++ reply_text entry.reply)

abbrev pub end_line : List ℕ
end_line = line (codes "end")

-- the one line on what came of the scenario that is generated from a number, with so many commands
abbrev pub summary_line : (start size : ℕ) → Totals → List ℕ
summary_line start size totals =
    line (codes "cmm2-demo 1 start " ++ decimal start ++ codes " size " ++ decimal size ++ codes " events " ++ decimal totals.events
    ++ codes " entries " ++ decimal totals.entries ++ codes " discards " ++ decimal totals.discards ++ codes " faults " ++ decimal totals.faults)
