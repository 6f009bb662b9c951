-- What a guest's orders and accesses make of the word and the body of a page that it holds.
use Rattle.std.specs.Prelude.{◌≡◌, ℕ, ◌+◌, ◌≤◌, List, length, true, false, Some}
use Rattle.cmm_types.specs.declared.page.TheConstants.{PAGE}
use Rattle.cmm_types.specs.declared.page.Content.{Content}
use Rattle.cmm_types.specs.declared.page.Content.TheVariants.{Resident, Preserved, Zero}
use Rattle.cmm_storage.specs.StorageView.{can_store}
use Rattle.cmm_types.specs.Bytes.{with_bytes, zero_page}
use Rattle.essa_state.specs.declared.fields.Fields.{Fields}
use Rattle.essa_state.specs.declared.orders.Order.{Order}
use Rattle.essa_state.specs.StateWord.{is_unused, is_resident, is_discarded}
use Rattle.essa_state.specs.Orders.{after_order}
use Rattle.essa_state.specs.PageBody.{Body, frame_bytes}

-- a page that is in use and not discarded
pub record CanTouch (w : Fields) : Type 0 where
  pub used : is_unused w.usage ≡ false
  pub there : is_discarded w ≡ false

abbrev pub touched_word : Fields → Fields
touched_word w = record w { content = Resident; referenced = true }

-- a page that isn't resident gets a frame, with the bytes of its block, or with zeros where it has no contents
abbrev pub touched_body : Content → Body → Body
touched_body Resident body = body
touched_body Preserved body = record body { frame = Some body.block }
touched_body Zero body = record body { frame = Some zero_page }

-- a resident page that may be written, and bytes that lie within it
pub record AllowsStore (w : Fields) (off : ℕ) (bytes : List ℕ) : Type 0 where
  pub resident : is_resident w.content ≡ true
  pub writable : can_store w.usage ≡ true
  pub within : off + length bytes ≤ PAGE

abbrev pub stored_word : Fields → Fields
stored_word w = record w { changed = true }

abbrev pub stored_body : Body → ℕ → List ℕ → Body
stored_body body off bytes = record body { frame = Some (with_bytes (frame_bytes body) off bytes) }

abbrev pub change_taken : Fields → Fields
change_taken w = record w { changed = false }

-- the guest's orders, good touches, stores and takings of the change bit make this word and body of those ones
pub data Reaches (w : Fields) (body : Body) : Fields → Body → Type 0 where
  Held : Reaches w body w body
  Ordered : (code : Order) (x : Fields) (there : Body) → Reaches w body x there → Reaches w body (after_order x code) there
  Touched : (x : Fields) (there : Body) → CanTouch x → Reaches w body x there → Reaches w body (touched_word x) (touched_body x.content there)
  Stored : (off : ℕ) (bytes : List ℕ) (x : Fields) (there : Body) → AllowsStore x off bytes → Reaches w body x there → Reaches w body (stored_word x) (stored_body there off bytes)
  ChangeTaken : (x : Fields) (there : Body) → Reaches w body x there → Reaches w body (change_taken x) there

-- the same as a fact, whatever the orders and accesses were
abbrev pub Leads : Fields → Body → Fields → Body → Type 0
Leads w body x there = ∥ Reaches w body x there ∥₁
