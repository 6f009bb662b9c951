-- The texts of answers and replies in a report.
use Rattle.std.specs.Prelude.{ℕ, ◌+◌, ◌/◌, ◌%◌, List, [], ◌∷◌, ◌++◌, Bool, true, false, nat_lt, if◌then◌else◌, codes, decimal}
use Rattle.std.specs.List.{flat_map}
use Rattle.cmm_types.specs.declared.turn.Turn.{Turn}
use Rattle.cmm_types.specs.declared.turn.Turn.TheVariants.{Moved, Finished, Waits, Again, Idle}
use Rattle.cmm_types.specs.declared.turn.Alone.{Alone}
use Rattle.cmm_types.specs.declared.turn.Alone.TheVariants.{Finished as AloneFinished, Waits as AloneWaits, Idle as AloneIdle}
use Rattle.cmm_types.specs.declared.event.Answer.{Answer}
use Rattle.cmm_types.specs.declared.event.Answer.TheVariants.{Turn as TurnAnswer, Alone as AloneAnswer, HostDone, HostRefused, HostPaging, Reclaimed}
use Rattle.cmm_types.specs.declared.page.Refused.{Refused}
use Rattle.cmm_types.specs.declared.page.Refused.TheVariants.{Stable, Changed, Absent, Volatile, Counted}
use Rattle.cmm_types.specs.declared.command.FlatRefusal.{FlatRefusal}
use Rattle.cmm_types.specs.declared.command.FlatRefusal.TheVariants.{NoMapping, AlreadyMapped, OutOfRange, ReadOnly, Pinned, NotPinned, TooManyMaps}
use Rattle.cmm_types.specs.declared.command.Cause.{Cause}
use Rattle.cmm_types.specs.declared.command.Cause.TheVariants.{Disk, Paging, NoPage}
use Rattle.cmm_types.specs.declared.command.Reply.{Reply}
use Rattle.cmm_types.specs.declared.command.Reply.TheVariants.{Done, Bytes, Refused as FlatRefused, Fail}

-- a digit in base 16, in lower case
abbrev pub hex_digit : ℕ → ℕ
hex_digit n = if nat_lt n 10 then 48 + n else 87 + n

abbrev pub hex_byte : ℕ → List ℕ
hex_byte byte = hex_digit (byte / 16) ∷ hex_digit (byte % 16) ∷ []

abbrev pub hex_text : List ℕ → List ℕ
hex_text bytes = flat_map hex_byte bytes

abbrev pub turn_text : Turn → List ℕ
turn_text Moved = codes "moved"
turn_text Finished = codes "finished"
turn_text (Waits page owner) = codes "waits " ++ decimal page ++ codes " " ++ decimal owner
turn_text (Again why) = codes "again"
turn_text Idle = codes "idle"

abbrev pub alone_text : Alone → List ℕ
alone_text (AloneFinished turns) = codes "alone finished " ++ decimal turns
alone_text (AloneWaits turns page owner) = codes "alone waits " ++ decimal turns ++ codes " " ++ decimal page ++ codes " " ++ decimal owner
alone_text AloneIdle = codes "alone idle"

abbrev pub refused_text : Refused → List ℕ
refused_text Stable = codes "refused stable"
refused_text Changed = codes "refused changed"
refused_text Absent = codes "refused absent"
refused_text Volatile = codes "refused volatile"
refused_text Counted = codes "refused counted"

abbrev pub paging_text : Bool → List ℕ
paging_text true = codes " failed paging"
paging_text false = []

abbrev pub answer_text : Answer → List ℕ
answer_text (TurnAnswer turn) = turn_text turn
answer_text (AloneAnswer alone) = alone_text alone
answer_text HostDone = codes "done"
answer_text (HostRefused refused) = refused_text refused
answer_text HostPaging = codes "failed paging"
answer_text (Reclaimed count paging) = codes "reclaimed " ++ decimal count ++ paging_text paging

abbrev pub flat_refusal_text : FlatRefusal → List ℕ
flat_refusal_text NoMapping = codes "refused no-mapping"
flat_refusal_text AlreadyMapped = codes "refused mapped"
flat_refusal_text OutOfRange = codes "refused range"
flat_refusal_text ReadOnly = codes "refused read-only"
flat_refusal_text Pinned = codes "refused pinned"
flat_refusal_text NotPinned = codes "refused not-pinned"
flat_refusal_text TooManyMaps = codes "refused too-many"

abbrev pub cause_text : Cause → List ℕ
cause_text Disk = codes "fail disk"
cause_text Paging = codes "fail paging"
cause_text (NoPage pinned unslotted) = codes "fail nopage " ++ decimal pinned ++ codes " " ++ decimal unslotted

abbrev pub reply_text : Reply → List ℕ
reply_text Done = codes "ok"
reply_text (Bytes bytes) = codes "ok " ++ hex_text bytes
reply_text (FlatRefused refusal) = flat_refusal_text refusal
reply_text (Fail cause) = cause_text cause
