-- The lines of a report that are no entry's: the first, those of events and guests, and the last.
use Rattle.std.specs.Prelude.{ℕ, ◌==◌, ◌&&◌, ◌||◌, Bool, true, false, nat_le, if◌then◌else◌, List, Option, Some, None, is_some, codes}
use Rattle.std.specs.Str.{bytes_eq}
use Rattle.cmm_types.specs.declared.plan.GuestPlan.{GuestPlan}
use Rattle.cmm_flat.specs.Legal.{all_commands}
use Rattle.cmm_check.specs.Reading.{if_read, given, cut, without_front, long_of, numeral_of}
use Rattle.cmm_check.specs.Answers.{answer_of, event_head}

-- whether a report is one of a run, by its first line
unfoldable pub is_run_of : List ℕ → Option Bool
is_run_of line =
    if bytes_eq line (codes "cmm2-report 1 run") then Some true
    else if bytes_eq line (codes "cmm2-report 1 replay") then Some false
    else None

-- a text of an answer; `again` is one
unfoldable pub is_answer : List ℕ → Bool
is_answer text = bytes_eq text (codes "again") || is_some (answer_of text)

-- the line of the event with this number
unfoldable pub event_fits : ℕ → List ℕ → Option ℕ
event_fits number line =
    if_read (event_head line) λ head.
    given ((head.0 == number) && is_answer head.1) number

-- the discards and the faults
unfoldable pub counts_of : List ℕ → Option (ℕ × ℕ)
counts_of text =
    if_read (without_front (codes "discards ") text) λ digits.
    if_read (cut 32 digits) λ parts.
    if_read (long_of parts.0) λ discards.
    if_read (without_front (codes "faults ") parts.1) λ last.
    if_read (long_of last) λ faults.
    Some (discards, faults)

-- the number of entries, and then the counts
unfoldable pub guest_counts : List ℕ → Option (ℕ × (ℕ × ℕ))
guest_counts text =
    if_read (without_front (codes "entries ") text) λ digits.
    if_read (cut 32 digits) λ parts.
    if_read (numeral_of parts.0) λ entries.
    if_read (counts_of parts.1) λ counts.
    Some (entries, counts)

unfoldable pub guest_head : List ℕ → Option (ℕ × (ℕ × (ℕ × ℕ)))
guest_head line =
    if_read (without_front (codes "guest ") line) λ digits.
    if_read (cut 32 digits) λ parts.
    if_read (numeral_of parts.0) λ guest.
    if_read (guest_counts parts.1) λ rest.
    Some (guest, rest)

-- as many entries as commands in a run, and no more in a replay
abbrev pub are_entries : Bool → GuestPlan → ℕ → Bool
are_entries run plan entries = if run then entries == all_commands plan else nat_le entries (all_commands plan)

-- how many entries follow the line of the guest with this number
unfoldable pub entries_told : Bool → ℕ → GuestPlan → List ℕ → Option ℕ
entries_told run number plan line =
    if_read (guest_head line) λ head.
    given ((head.0 == number) && are_entries run plan head.1.0 && nat_le head.1.1.1 head.1.1.0) head.1.0

-- the last line
unfoldable pub end_of : List ℕ → Option (List ℕ)
end_of line = given (bytes_eq line (codes "end")) line
