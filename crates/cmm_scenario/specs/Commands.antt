-- The grammar of commands. A number out of its range is told only where the whole text is of the grammar.
use Rattle.std.specs.Prelude.{ℕ, ◌+◌, ◌-◌, ◌%◌, ◌&&◌, nat_le, if◌then◌else◌, List, length, codes, Bool, true, false, Result, Ok, Err}
use Rattle.std.specs.Str.{bytes_eq}
use Rattle.cmm_types.specs.declared.page.TheConstants.{PAGE}
use Rattle.cmm_types.specs.declared.bytes.TheConstants.{MAX_BYTES}
use Rattle.cmm_types.specs.declared.command.TheConstants.{MAX_FILES, MAX_MAPPING_NUMBERS, MAX_MAPPING_PAGES, MAX_OFFSETS}
use Rattle.cmm_types.specs.declared.command.Op.{Op}
use Rattle.cmm_types.specs.declared.command.Op.TheVariants.{Read, Write, Sync, MapFile, MapAnon, Unmap, Load, Store, Pin, Unpin}
use Rattle.cmm_scenario.specs.declared.fault.Kind.{Kind}
use Rattle.cmm_scenario.specs.declared.fault.Kind.TheVariants.{Text, Range}
use Rattle.cmm_scenario.specs.Outcome.{◌>>=◌, checked}
use Rattle.cmm_scenario.specs.Words.{leading_word, after_word, take_word, take_number, take_bytes, take_end, within}

-- a number of bytes from an offset on, which is within its page
unfoldable pub piece_of : ℕ → ℕ → Result ℕ Kind
piece_of off len = do
  start ← within 0 (MAX_OFFSETS - 1) off
  checked (nat_le 1 len && nat_le len MAX_BYTES && nat_le (start % PAGE + len) PAGE) start Range

abbrev pub file_number : ℕ → Result ℕ Kind
file_number = within 0 (MAX_FILES - 1)

abbrev pub mapping_number : ℕ → Result ℕ Kind
mapping_number = within 0 (MAX_MAPPING_NUMBERS - 1)

abbrev pub page_index : ℕ → Result ℕ Kind
page_index = within 0 (MAX_MAPPING_PAGES - 1)

abbrev pub page_count : ℕ → Result ℕ Kind
page_count = within 1 MAX_MAPPING_PAGES

-- read F OFF LEN
unfoldable pub read_of : List ℕ → Result Op Kind
read_of text = do
  file ← take_number text
  off ← take_number file.1
  len ← take_number off.1
  _ ← take_end len.1
  number ← file_number file.0
  start ← piece_of off.0 len.0
  Ok (Read number start len.0)

-- write F OFF BYTES
unfoldable pub write_of : List ℕ → Result Op Kind
write_of text = do
  file ← take_number text
  off ← take_number file.1
  bytes ← take_bytes off.1
  _ ← take_end bytes.1
  number ← file_number file.0
  start ← piece_of off.0 (length bytes.0)
  Ok (Write number start bytes.0)

-- sync F
unfoldable pub sync_of : List ℕ → Result Op Kind
sync_of text = do
  file ← take_number text
  _ ← take_end file.1
  number ← file_number file.0
  Ok (Sync number)

-- `rw` or `ro`, and the text after it
unfoldable pub take_mode : List ℕ → Result (Bool × List ℕ) Kind
take_mode text = do
  word ← take_word text
  if bytes_eq word.0 (codes "rw") then Ok (true, word.1) else if bytes_eq word.0 (codes "ro") then Ok (false, word.1) else Err Text

-- mapfile M F FIRST COUNT rw, or ro
unfoldable pub mapfile_of : List ℕ → Result Op Kind
mapfile_of text = do
  map ← take_number text
  file ← take_number map.1
  first ← take_number file.1
  count ← take_number first.1
  mode ← take_mode count.1
  _ ← take_end mode.1
  number ← mapping_number map.0
  from ← file_number file.0
  start ← page_index first.0
  pages ← page_count count.0
  Ok (MapFile number from start pages mode.0)

-- mapanon M COUNT
unfoldable pub mapanon_of : List ℕ → Result Op Kind
mapanon_of text = do
  map ← take_number text
  count ← take_number map.1
  _ ← take_end count.1
  number ← mapping_number map.0
  pages ← page_count count.0
  Ok (MapAnon number pages)

-- unmap M
unfoldable pub unmap_of : List ℕ → Result Op Kind
unmap_of text = do
  map ← take_number text
  _ ← take_end map.1
  number ← mapping_number map.0
  Ok (Unmap number)

-- load M OFF LEN
unfoldable pub load_of : List ℕ → Result Op Kind
load_of text = do
  map ← take_number text
  off ← take_number map.1
  len ← take_number off.1
  _ ← take_end len.1
  number ← mapping_number map.0
  start ← piece_of off.0 len.0
  Ok (Load number start len.0)

-- store M OFF BYTES
unfoldable pub store_of : List ℕ → Result Op Kind
store_of text = do
  map ← take_number text
  off ← take_number map.1
  bytes ← take_bytes off.1
  _ ← take_end bytes.1
  number ← mapping_number map.0
  start ← piece_of off.0 (length bytes.0)
  Ok (Store number start bytes.0)

-- the number of a mapping, and a page's index in it
unfoldable pub mapping_page_of : List ℕ → Result (ℕ × ℕ) Kind
mapping_page_of text = do
  map ← take_number text
  page ← take_number map.1
  _ ← take_end page.1
  number ← mapping_number map.0
  index ← page_index page.0
  Ok (number, index)

-- pin M PAGE
unfoldable pub pin_of : List ℕ → Result Op Kind
pin_of text = do
  page ← mapping_page_of text
  Ok (Pin page.0 page.1)

-- unpin M PAGE
unfoldable pub unpin_of : List ℕ → Result Op Kind
unpin_of text = do
  page ← mapping_page_of text
  Ok (Unpin page.0 page.1)

-- the command of a name, and of the text after it
unfoldable pub op_named : List ℕ → List ℕ → Result Op Kind
op_named name text =
    if bytes_eq name (codes "read") then read_of text
    else if bytes_eq name (codes "write") then write_of text
    else if bytes_eq name (codes "sync") then sync_of text
    else if bytes_eq name (codes "mapfile") then mapfile_of text
    else if bytes_eq name (codes "mapanon") then mapanon_of text
    else if bytes_eq name (codes "unmap") then unmap_of text
    else if bytes_eq name (codes "load") then load_of text
    else if bytes_eq name (codes "store") then store_of text
    else if bytes_eq name (codes "pin") then pin_of text
    else if bytes_eq name (codes "unpin") then unpin_of text
    else Err Text

-- the command that a text spells
abbrev pub op_of : List ℕ → Result Op Kind
op_of text = op_named (leading_word text) (after_word text)
