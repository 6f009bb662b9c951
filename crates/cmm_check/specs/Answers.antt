-- The line of an event's answer, as a report has it: which line says what, and how it is read.
use Rattle.std.specs.Prelude.{ℕ, ◌<◌, ◌^◌, ◌≡◌, ◌++◌, true, false, List, [], ◌∷◌, Option, Some, None, codes, decimal}
use Rattle.std.specs.Option.{option_or}
use Rattle.std.specs.Str.{bytes_eq}
use Rattle.cmm_types.specs.declared.turn.Turn.{Turn}
use Rattle.cmm_types.specs.declared.turn.Turn.TheVariants.{Moved, Finished, Waits, Again, Idle}
use Rattle.cmm_types.specs.declared.turn.Alone.{Alone}
use Rattle.cmm_types.specs.declared.turn.Alone.TheVariants.{Finished as AloneFinished, Waits as AloneWaits, Idle as AloneIdle}
use Rattle.cmm_types.specs.declared.event.Answer.{Answer}
use Rattle.cmm_types.specs.declared.event.Answer.TheVariants.{Turn as TurnAnswer, Alone as AloneAnswer, HostDone, HostRefused, HostPaging, Reclaimed}
use Rattle.cmm_types.specs.declared.page.Refused.TheVariants.{Stable, Changed, Absent, Volatile, Counted}
use Rattle.cmm_report.specs.Texts.{answer_text}
use Rattle.cmm_check.specs.Reading.{if_read, cut, without_front, numeral_of, two_numbers, three_numbers, first_named, given}

abbrev pub TurnFits : Turn → Type 0
TurnFits Moved = Unit {0}
TurnFits Finished = Unit {0}
TurnFits (Waits page owner) = (page < 2 ^ 32) × (owner < 2 ^ 32)
TurnFits (Again why) = Unit {0}
TurnFits Idle = Unit {0}

abbrev pub AloneFits : Alone → Type 0
AloneFits (AloneFinished turns) = turns < 2 ^ 32
AloneFits (AloneWaits turns page owner) = (turns < 2 ^ 32) × (page < 2 ^ 32) × (owner < 2 ^ 32)
AloneFits AloneIdle = Unit {0}

-- each number of an answer is below 2 to the 32nd, as in every answer that a program has
abbrev pub AnswerFits : Answer → Type 0
AnswerFits (TurnAnswer turn) = TurnFits turn
AnswerFits (AloneAnswer alone) = AloneFits alone
AnswerFits HostDone = Unit {0}
AnswerFits (HostRefused refused) = Unit {0}
AnswerFits HostPaging = Unit {0}
AnswerFits (Reclaimed count paging) = count < 2 ^ 32

-- the line of an event's answer
pub record IsEventLine (line : List ℕ) (number : ℕ) (answer : Answer) : Type 0 where
  pub text : line ≡ codes "event " ++ decimal number ++ codes " " ++ answer_text answer
  pub event : number < 2 ^ 32
  pub answered : AnswerFits answer

-- the answer is the turn `again`, whose cause no line says
abbrev pub IsAgain : Answer → Type 0
IsAgain (TurnAnswer Moved) = ⊥
IsAgain (TurnAnswer Finished) = ⊥
IsAgain (TurnAnswer (Waits page owner)) = ⊥
IsAgain (TurnAnswer (Again why)) = Unit {0}
IsAgain (TurnAnswer Idle) = ⊥
IsAgain (AloneAnswer alone) = ⊥
IsAgain HostDone = ⊥
IsAgain (HostRefused refused) = ⊥
IsAgain HostPaging = ⊥
IsAgain (Reclaimed count paging) = ⊥

-- the answers without a number, but `again`
abbrev pub plain_answers : List Answer
plain_answers =
    TurnAnswer Moved ∷ TurnAnswer Finished ∷ TurnAnswer Idle ∷ AloneAnswer AloneIdle ∷ HostDone
    ∷ HostRefused Stable ∷ HostRefused Changed ∷ HostRefused Absent ∷ HostRefused Volatile ∷ HostRefused Counted ∷ HostPaging ∷ []

unfoldable pub plain_answer : List ℕ → Option Answer
plain_answer text = first_named answer_text text plain_answers

unfoldable pub waits_of : List ℕ → Option Answer
waits_of text =
    if_read (without_front (codes "waits ") text) λ numbers.
    if_read (two_numbers numbers) λ both.
    Some (TurnAnswer (Waits both.0 both.1))

unfoldable pub alone_finished_of : List ℕ → Option Answer
alone_finished_of text =
    if_read (without_front (codes "alone finished ") text) λ digits.
    if_read (numeral_of digits) λ turns.
    Some (AloneAnswer (AloneFinished turns))

unfoldable pub alone_waits_of : List ℕ → Option Answer
alone_waits_of text =
    if_read (without_front (codes "alone waits ") text) λ numbers.
    if_read (three_numbers numbers) λ three.
    Some (AloneAnswer (AloneWaits three.0 three.1.0 three.1.1))

unfoldable pub reclaimed_count : List ℕ → Option Answer
reclaimed_count digits =
    if_read (numeral_of digits) λ count.
    Some (Reclaimed count false)

-- the number of frames, and the words behind it
unfoldable pub reclaimed_paging : List ℕ → List ℕ → Option Answer
reclaimed_paging digits words =
    if_read (numeral_of digits) λ count.
    given (bytes_eq words (codes "failed paging")) (Reclaimed count true)

abbrev pub reclaimed_with : Option (List ℕ × List ℕ) → List ℕ → Option Answer
reclaimed_with None text = reclaimed_count text
reclaimed_with (Some parts) text = reclaimed_paging parts.0 parts.1

unfoldable pub reclaimed_of : List ℕ → Option Answer
reclaimed_of text =
    if_read (without_front (codes "reclaimed ") text) λ rest.
    reclaimed_with (cut 32 rest) rest

-- the answer that a text says; nothing for `again`
unfoldable pub answer_of : List ℕ → Option Answer
answer_of text =
    option_or (plain_answer text) (option_or (waits_of text) (option_or (alone_finished_of text) (option_or (alone_waits_of text) (reclaimed_of text))))

-- the number of an event, and the text of its answer
unfoldable pub event_head : List ℕ → Option (ℕ × List ℕ)
event_head line =
    if_read (without_front (codes "event ") line) λ rest.
    if_read (cut 32 rest) λ parts.
    if_read (numeral_of parts.0) λ number.
    Some (number, parts.1)

unfoldable pub numbered_answer : List ℕ → Option (ℕ × Answer)
numbered_answer line =
    if_read (event_head line) λ head.
    if_read (answer_of head.1) λ answer.
    Some (head.0, answer)
