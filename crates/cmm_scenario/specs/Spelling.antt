-- How a command and an event are written: single spaces between words, decimal numbers, hexadecimal digits in lower case.
use Rattle.std.specs.Prelude.{ℕ, List, [], ◌∷◌, ◌++◌, Bool, if◌then◌else◌, codes}
use Rattle.std.specs.Fmt.{decimal}
use Rattle.hex.specs.Hex.{encode_lower, IsBytes}
use Rattle.cmm_types.specs.declared.command.Op.{Op}
use Rattle.cmm_types.specs.declared.command.Op.TheVariants.{Read, Write, Sync, MapFile, MapAnon, Unmap, Load, Store, Pin, Unpin}
use Rattle.cmm_types.specs.declared.page.Move.{Move}
use Rattle.cmm_types.specs.declared.page.Move.TheVariants.{Discard, Preserve, Bring, Age}
use Rattle.cmm_types.specs.declared.event.Event.{Event}
use Rattle.cmm_types.specs.declared.event.Event.TheVariants.{Cpu, Alone, Host, Reclaim}

-- words, each behind a space
abbrev pub spaced : List (List ℕ) → List ℕ
spaced [] = []
spaced (word ∷ words) = 32 ∷ (word ++ spaced words)

abbrev pub mode_word : Bool → List ℕ
mode_word writable = if writable then codes "rw" else codes "ro"

unfoldable pub op_text : Op → List ℕ
op_text (Read file off len) = codes "read" ++ spaced (decimal file ∷ decimal off ∷ decimal len ∷ [])
op_text (Write file off bytes) = codes "write" ++ spaced (decimal file ∷ decimal off ∷ encode_lower bytes ∷ [])
op_text (Sync file) = codes "sync" ++ spaced (decimal file ∷ [])
op_text (MapFile map file first count writable) = codes "mapfile" ++ spaced (decimal map ∷ decimal file ∷ decimal first ∷ decimal count ∷ mode_word writable ∷ [])
op_text (MapAnon map count) = codes "mapanon" ++ spaced (decimal map ∷ decimal count ∷ [])
op_text (Unmap map) = codes "unmap" ++ spaced (decimal map ∷ [])
op_text (Load map off len) = codes "load" ++ spaced (decimal map ∷ decimal off ∷ decimal len ∷ [])
op_text (Store map off bytes) = codes "store" ++ spaced (decimal map ∷ decimal off ∷ encode_lower bytes ∷ [])
op_text (Pin map page) = codes "pin" ++ spaced (decimal map ∷ decimal page ∷ [])
op_text (Unpin map page) = codes "unpin" ++ spaced (decimal map ∷ decimal page ∷ [])

-- what a command writes is bytes, each below 256
abbrev pub WritesBytes : Op → Type 0
WritesBytes (Read file off len) = Unit {0}
WritesBytes (Write file off bytes) = IsBytes bytes
WritesBytes (Sync file) = Unit {0}
WritesBytes (MapFile map file first count writable) = Unit {0}
WritesBytes (MapAnon map count) = Unit {0}
WritesBytes (Unmap map) = Unit {0}
WritesBytes (Load map off len) = Unit {0}
WritesBytes (Store map off bytes) = IsBytes bytes
WritesBytes (Pin map page) = Unit {0}
WritesBytes (Unpin map page) = Unit {0}

abbrev pub move_name : Move → List ℕ
move_name Discard = codes "discard"
move_name Preserve = codes "preserve"
move_name Bring = codes "bring"
move_name Age = codes "age"

unfoldable pub event_text : Event → List ℕ
event_text (Cpu guest cpu) = codes "cpu" ++ spaced (decimal guest ∷ decimal cpu ∷ [])
event_text (Alone guest cpu) = codes "alone" ++ spaced (decimal guest ∷ decimal cpu ∷ [])
event_text (Host guest page action) = move_name action ++ spaced (decimal guest ∷ decimal page ∷ [])
event_text (Reclaim count) = codes "reclaim" ++ spaced (decimal count ∷ [])
