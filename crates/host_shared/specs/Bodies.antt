-- Where a page's bytes are on a host that threads share: a frame of the pool, while the page is resident, and its block of
-- the paging store.
use Rattle.std.specs.Prelude.{◌≡◌, ℕ, List, length, Option, IfSome}
use Rattle.std.specs.Option.{option_map}
use Rattle.cmm_types.specs.declared.page.TheConstants.{PAGE}
use Rattle.atomic_table.specs.Seated.{TableId}
use Rattle.essa_state.specs.PageBody.{Body}
use Rattle.frame_pool.specs.Seats.{PoolId, LoanView}

-- the loan of the page's frame, if it has one; the bytes of its block; and the pool of the body's mark
pub record BodyParts : Type 0 where
  pub loan : Option LoanView
  pub block : List ℕ
  pub pool : PoolId

abbrev pub lent_body : BodyParts → Body
lent_body parts = record { frame = option_map (λ loan. loan.frame.bytes) parts.loan; block = parts.block }

-- the pool that the frames of a body come from, by its table
abbrev pub body_house : BodyParts → TableId
body_house parts = parts.pool.table

-- a loan of the pool of this table
abbrev pub IsOfHouse : TableId → LoanView → Type 0
IsOfHouse house loan = loan.pool.table ≡ house

-- a whole page in the block, and one in the frame, which is of the mark's pool
pub record IsPageBody (parts : BodyParts) : Type 0 where
  pub block : length parts.block ≡ PAGE
  pub bytes : IfSome parts.loan (λ loan. length loan.frame.bytes ≡ PAGE)
  pub housed : IfSome parts.loan (IsOfHouse (body_house parts))
