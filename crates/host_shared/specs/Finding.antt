-- What stands where looks at pages come to a frame, to a failed put, or to nothing, and what they leave of a storage's supply.
use Rattle.std.specs.Prelude.{◌≡◌, ℕ, ◌≤◌}
use Rattle.frame_pool.specs.Seats.{LoanView}
use Rattle.host_shared.specs.PagerCalls.{PagerCalled}
use Rattle.host_shared.specs.declared.search.Supply.{Supply}
use Rattle.host_shared.specs.declared.search.Found.{Found}
use Rattle.host_shared.specs.declared.search.Found.TheVariants.{Frame, Paging, Nothing}

abbrev pub WhereFrame : Found → (LoanView → Type 0) → Type 0
WhereFrame (Frame loan) P = P loan
WhereFrame Paging P = Unit {0}
WhereFrame (Nothing looks) P = Unit {0}

abbrev pub WherePaging : Found → Type 0 → Type 0
WherePaging (Frame loan) P = Unit {0}
WherePaging Paging P = P
WherePaging (Nothing looks) P = Unit {0}

abbrev pub WhereNothing : Found → (ℕ → Type 0) → Type 0
WhereNothing (Frame loan) P = Unit {0}
WhereNothing Paging P = Unit {0}
WhereNothing (Nothing looks) P = P looks

-- the seat stays at its pool, and the pager was called some number of times
pub record KeepsSupply (before after : Supply) : Type 0 where
  pub pool : after.seat.pool ≡ before.seat.pool
  pub calls : PagerCalled before.pager after.pager
  pub faults : before.pager.faults ≤ after.pager.faults
