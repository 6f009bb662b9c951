-- The line of a journal's entry, as a report has it: which line says what, and how it is read.
use Rattle.std.specs.Prelude.{ℕ, ◌<◌, ◌≤◌, ◌^◌, ◌≡◌, ◌++◌, List, [], ◌∷◌, length, Option, Some, None, codes, decimal, if◌then◌else◌}
use Rattle.std.specs.Str.{bytes_eq}
use Rattle.hex.specs.Hex.{IsBytes}
use Rattle.cmm_types.specs.declared.bytes.TheConstants.{MAX_BYTES}
use Rattle.cmm_types.specs.declared.command.FlatRefusal.{FlatRefusal}
use Rattle.cmm_types.specs.declared.command.FlatRefusal.TheVariants.{NoMapping, AlreadyMapped, OutOfRange, ReadOnly, Pinned, NotPinned, TooManyMaps}
use Rattle.cmm_types.specs.declared.command.Cause.{Cause}
use Rattle.cmm_types.specs.declared.command.Cause.TheVariants.{Disk, Paging, NoPage}
use Rattle.cmm_types.specs.declared.command.Reply.{Reply}
use Rattle.cmm_types.specs.declared.command.Reply.TheVariants.{Done, Bytes, Refused, Fail}
use Rattle.cmm_report.specs.Texts.{flat_refusal_text, reply_text}
use Rattle.cmm_report.specs.JournalLines.{CauseFits}
use Rattle.cmm_check.specs.Reading.{if_read, cut, without_front, numeral_of, two_numbers, hex_bytes, first_named}

-- what a report may say of a reply: 1 to 64 bytes, and numbers below 2 to the 32nd
abbrev pub IsReported : Reply → Type 0
IsReported Done = Unit {0}
IsReported (Bytes bytes) = (1 ≤ length bytes) × (length bytes ≤ MAX_BYTES) × IsBytes bytes
IsReported (Refused refusal) = Unit {0}
IsReported (Fail cause) = CauseFits cause

-- the line of an entry: its processor, the number of its command there, and the reply
pub record IsEntryLine (line : List ℕ) (cpu k : ℕ) (reply : Reply) : Type 0 where
  pub text : line ≡ decimal cpu ++ codes " " ++ decimal k ++ codes " " ++ reply_text reply
  pub processor : cpu < 2 ^ 32
  pub command : k < 2 ^ 32
  pub replied : IsReported reply

abbrev pub all_refusals : List FlatRefusal
all_refusals = NoMapping ∷ AlreadyMapped ∷ OutOfRange ∷ ReadOnly ∷ Pinned ∷ NotPinned ∷ TooManyMaps ∷ []

unfoldable pub refusal_named : List ℕ → Option FlatRefusal
refusal_named text = first_named flat_refusal_text text all_refusals

unfoldable pub no_page_of : List ℕ → Option Cause
no_page_of text =
    if_read (without_front (codes "fail nopage ") text) λ numbers.
    if_read (two_numbers numbers) λ counts.
    Some (NoPage counts.0 counts.1)

-- the cause of a failure
unfoldable pub cause_of : List ℕ → Option Cause
cause_of text =
    if bytes_eq text (codes "fail disk") then Some Disk
    else if bytes_eq text (codes "fail paging") then Some Paging
    else no_page_of text

unfoldable pub bytes_reply_of : List ℕ → Option Reply
bytes_reply_of text =
    if_read (without_front (codes "ok ") text) λ digits.
    if_read (hex_bytes digits) λ bytes.
    Some (Bytes bytes)

-- the first of three readings that gives something
abbrev pub first_reply : Option Cause → Option FlatRefusal → Option Reply → Option Reply
first_reply (Some cause) refusal bytes = Some (Fail cause)
first_reply None (Some refusal) bytes = Some (Refused refusal)
first_reply None None bytes = bytes

unfoldable pub reply_of : List ℕ → Option Reply
reply_of text = if bytes_eq text (codes "ok") then Some Done else first_reply (cause_of text) (refusal_named text) (bytes_reply_of text)

-- the processor and the number, and the text of the reply
unfoldable pub entry_head : List ℕ → Option (ℕ × (ℕ × List ℕ))
entry_head line =
    if_read (cut 32 line) λ first.
    if_read (numeral_of first.0) λ cpu.
    if_read (cut 32 first.1) λ second.
    if_read (numeral_of second.0) λ k.
    Some (cpu, (k, second.1))

unfoldable pub entry_of : List ℕ → Option (ℕ × (ℕ × Reply))
entry_of line =
    if_read (entry_head line) λ head.
    if_read (reply_of head.1.1) λ reply.
    Some (head.0, (head.1.0, reply))
