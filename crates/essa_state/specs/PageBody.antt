-- A page as the host keeps it: its word, its frame and its block, the value that they are for the guest, and the
-- host moves on them.
use Rattle.std.specs.Prelude.{◌≡◌, ℕ, List, [], Bool, Option, Some, None, is_some, unwrap_or, Result, Ok, Err, if◌then◌else◌}
use Rattle.cmm_types.specs.declared.page.Content.{Content}
use Rattle.cmm_types.specs.declared.page.Content.TheVariants.{Resident, Preserved, Zero}
use Rattle.cmm_types.specs.declared.page.Move.{Move}
use Rattle.cmm_types.specs.declared.page.Move.TheVariants.{Discard, Preserve, Bring, Age}
use Rattle.cmm_types.specs.declared.page.Refused.{Refused}
use Rattle.essa_state.specs.declared.fields.Fields.{Fields}
use Rattle.essa_state.specs.StateWord.{is_resident, is_discardable}
use Rattle.essa_state.specs.Moves.{move_answer}
use Rattle.essa_state.specs.PageValue.{PageValue, Contents, Bytes, Blank, Lost}

-- the bytes of the frame, if there is one, and of the page's block in the paging store
pub record Body : Type 0 where
  pub frame : Option (List ℕ)
  pub block : List ℕ

-- a body has a frame exactly where the word says resident
abbrev pub FitsWord : Fields → Body → Type 0
FitsWord w body = is_some body.frame ≡ is_resident w.content

abbrev pub frame_bytes : Body → List ℕ
frame_bytes body = unwrap_or body.frame []

abbrev pub actual_contents : Content → (volatile : Bool) → Body → Contents
actual_contents Resident volatile body = Bytes (frame_bytes body)
actual_contents Preserved volatile body = Bytes body.block
actual_contents Zero volatile body = if volatile then Lost else Blank

-- the value of a page with this word and body
abbrev pub actual : Fields → Body → PageValue
actual w body = record {
  usage = w.usage;
  changed = w.changed;
  contents = actual_contents w.content (is_discardable w.usage) body;
  count = w.count;
}

-- a discard and a preserve free the frame; a preserve puts its bytes into the block, and a bring gets them again
abbrev pub moved_body : Move → Body → Body
moved_body Discard body = record body { frame = None }
moved_body Preserve body = record { frame = None; block = frame_bytes body }
moved_body Bring body = record body { frame = Some body.block }
moved_body Age body = body

-- what an answer makes of a word and its body; a refused move changes neither
abbrev pub Makes : Result Fields Refused → Move → Fields → Body → Fields → Body → Type 0
Makes (Ok moved) action w body w' body' = (w' ≡ moved) × (body' ≡ moved_body action body)
Makes (Err why) action w body w' body' = (w' ≡ w) × (body' ≡ body)

-- a host move on a word and its body
abbrev pub HostMove : Fields → Body → Move → Fields → Body → Type 0
HostMove w body action w' body' = Makes (move_answer w action) action w body w' body'
