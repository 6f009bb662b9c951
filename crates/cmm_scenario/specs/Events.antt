-- The grammar of events. What an event names exists in the guests of its scenario.
use Rattle.std.specs.Prelude.{ℕ, nat_lt, if◌then◌else◌, List, length, codes, Result, Ok, Err, slice_get}
use Rattle.std.specs.Str.{bytes_eq}
use Rattle.std.specs.Option.{ok_or}
use Rattle.cmm_types.specs.declared.page.Move.{Move}
use Rattle.cmm_types.specs.declared.page.Move.TheVariants.{Discard, Preserve, Bring, Age}
use Rattle.cmm_types.specs.declared.event.TheConstants.{MAX_RECLAIM}
use Rattle.cmm_types.specs.declared.event.Event.{Event}
use Rattle.cmm_types.specs.declared.event.Event.TheVariants.{Cpu, Alone, Host, Reclaim}
use Rattle.cmm_types.specs.declared.plan.GuestPlan.{GuestPlan}
use Rattle.cmm_scenario.specs.declared.fault.Kind.{Kind}
use Rattle.cmm_scenario.specs.declared.fault.Kind.TheVariants.{Text, Range}
use Rattle.cmm_scenario.specs.Outcome.{◌>>=◌, checked}
use Rattle.cmm_scenario.specs.Words.{leading_word, after_word, take_number, take_end, within}

-- a place in a list or in memory that has so many
unfoldable pub existing : ℕ → ℕ → Result ℕ Kind
existing limit number = checked (nat_lt number limit) number Range

-- two numbers, and nothing after them
unfoldable pub pair_of : List ℕ → Result (ℕ × ℕ) Kind
pair_of text = do
  first ← take_number text
  second ← take_number first.1
  _ ← take_end second.1
  Ok (first.0, second.0)

-- a guest, and one of its processors
unfoldable pub processor_of : List GuestPlan → List ℕ → Result (ℕ × ℕ) Kind
processor_of guests text = do
  pair ← pair_of text
  guest ← within 0 15 pair.0
  plan ← ok_or (slice_get guests guest) Range
  number ← within 0 7 pair.1
  cpu ← existing (length plan.cpus) number
  Ok (guest, cpu)

-- a guest, and one of its pages
unfoldable pub guest_page_of : List GuestPlan → List ℕ → Result (ℕ × ℕ) Kind
guest_page_of guests text = do
  pair ← pair_of text
  guest ← within 0 15 pair.0
  plan ← ok_or (slice_get guests guest) Range
  number ← within 0 4095 pair.1
  page ← existing plan.pages number
  Ok (guest, page)

unfoldable pub cpu_turn_of : List GuestPlan → List ℕ → Result Event Kind
cpu_turn_of guests text = do
  at ← processor_of guests text
  Ok (Cpu at.0 at.1)

unfoldable pub alone_of : List GuestPlan → List ℕ → Result Event Kind
alone_of guests text = do
  at ← processor_of guests text
  Ok (Alone at.0 at.1)

unfoldable pub host_move_of : Move → List GuestPlan → List ℕ → Result Event Kind
host_move_of action guests text = do
  at ← guest_page_of guests text
  Ok (Host at.0 at.1 action)

unfoldable pub reclaiming_of : List ℕ → Result Event Kind
reclaiming_of text = do
  number ← take_number text
  _ ← take_end number.1
  count ← within 1 MAX_RECLAIM number.0
  Ok (Reclaim count)

-- the event of a name, and of the text after it
unfoldable pub event_named : List GuestPlan → List ℕ → List ℕ → Result Event Kind
event_named guests name text =
    if bytes_eq name (codes "cpu") then cpu_turn_of guests text
    else if bytes_eq name (codes "alone") then alone_of guests text
    else if bytes_eq name (codes "discard") then host_move_of Discard guests text
    else if bytes_eq name (codes "preserve") then host_move_of Preserve guests text
    else if bytes_eq name (codes "bring") then host_move_of Bring guests text
    else if bytes_eq name (codes "age") then host_move_of Age guests text
    else if bytes_eq name (codes "reclaim") then reclaiming_of text
    else Err Text

-- the event that a text spells, in a scenario of these guests
abbrev pub event_of : List GuestPlan → List ℕ → Result Event Kind
event_of guests text = event_named guests (leading_word text) (after_word text)
