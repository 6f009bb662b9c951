-- The calls of a storage that may change it, each with its answer.
use Rattle.std.specs.Prelude.{ℕ, List, Bool, Result}
use Rattle.essa_state.specs.declared.orders.Order.{Order as Code}
use Rattle.essa_state.specs.declared.orders.Old.{Old}
use Rattle.cmm_storage.specs.declared.storage.Busy.{Busy}
use Rattle.cmm_storage.specs.declared.storage.Trap.{Trap}

-- a fetch with the bytes that it gave, a store with the bytes that it wrote
pub data StorageCall : Type 0 where
  Take : (page : ℕ) → Result Unit Busy → StorageCall
  Touch : (page : ℕ) → Result Unit Trap → StorageCall
  Give : (page : ℕ) → Code → Old → StorageCall
  TakeChange : (page : ℕ) → (changed : Bool) → StorageCall
  Fetch : (page off : ℕ) → List ℕ → StorageCall
  Store : (page off : ℕ) → List ℕ → StorageCall
  Put : (page : ℕ) → StorageCall
