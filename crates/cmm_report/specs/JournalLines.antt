-- What the lines of a journal say, and which numbers the entries of a program have.
use Rattle.std.specs.Prelude.{ℕ, ◌<◌, ◌^◌, ◌≡◌, List, map, All}
use Rattle.cmm_types.specs.declared.command.Entry.{Entry}
use Rattle.cmm_types.specs.declared.command.Cause.{Cause}
use Rattle.cmm_types.specs.declared.command.Cause.TheVariants.{Disk, Paging, NoPage}
use Rattle.cmm_types.specs.declared.command.Reply.{Reply}
use Rattle.cmm_types.specs.declared.command.Reply.TheVariants.{Done, Bytes, Refused, Fail}
use Rattle.cmm_report.specs.Report.{GuestReport}

-- what a report says of an entry: the processor, the number of its command, and the reply. The command is not written
pub record EntryReport : Type 0 where
  pub cpu : ℕ
  pub k : ℕ
  pub reply : Reply

abbrev pub entry_report : Entry → EntryReport
entry_report entry = record { cpu = entry.cpu; k = entry.k; reply = entry.reply }

-- one journal has as many entries as the other, and at each place both have one processor, number and reply
abbrev pub SameLines : List Entry → List Entry → Type 0
SameLines journal other = map entry_report journal ≡ map entry_report other

abbrev pub CauseFits : Cause → Type 0
CauseFits Disk = Unit {0}
CauseFits Paging = Unit {0}
CauseFits (NoPage pinned unslotted) = (pinned < 2 ^ 32) × (unslotted < 2 ^ 32)

abbrev pub ReplyFits : Reply → Type 0
ReplyFits Done = Unit {0}
ReplyFits (Bytes bytes) = Unit {0}
ReplyFits (Refused refusal) = Unit {0}
ReplyFits (Fail cause) = CauseFits cause

-- each number fits its type, as in every entry that a program has
pub record EntryFits (entry : Entry) : Type 0 where
  pub cpu : entry.cpu < 2 ^ 32
  pub k : entry.k < 2 ^ 32
  pub reply : ReplyFits entry.reply

-- what a report says of the entries of a guest's journal
abbrev pub lines_of : GuestReport → List EntryReport
lines_of guest = map entry_report guest.journal

-- as many guests here as there, and at each place two journals with the same lines
abbrev pub SameJournals : List GuestReport → List GuestReport → Type 0
SameJournals guests others = map lines_of guests ≡ map lines_of others

-- each number of the guest's journal fits its type
abbrev pub JournalFits : GuestReport → Type 0
JournalFits guest = All EntryFits guest.journal
