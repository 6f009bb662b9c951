-- A page whose bytes are all the same, which is kept as one byte.
use Rattle.std.specs.Prelude.{ℕ, List, replicate, Option}
use Rattle.std.specs.Option.{option_map}
use Rattle.cmm_types.specs.declared.page.TheConstants.{PAGE}
use Rattle.essa_state.specs.PageBody.{Body}
use Rattle.atomic_table.specs.Seated.{TableId}
use Rattle.state_words.specs.SeatView.{no_view}

-- the pool, and the bytes of the frame and of the block
pub record SheetView : Type 0 where
  pub pool : ℕ
  pub frame : Option ℕ
  pub block : ℕ

unfoldable pub page_filled : ℕ → List ℕ
page_filled byte = replicate PAGE byte

abbrev pub sheet_body : SheetView → Body
sheet_body s = record { frame = option_map page_filled s.frame; block = page_filled s.block }

-- a house for each number
abbrev pub house_of : SheetView → TableId
house_of s = record no_view.house { words = s.pool }
