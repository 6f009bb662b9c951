-- What each call of every pager does to its block, and when the count of faults rises.
use Rattle.std.specs.Prelude.{◌≡◌, ℕ, ◌≤◌, List, length, Option, Some, None, is_some, Ok, Err}
use Rattle.cmm_types.specs.declared.page.TheConstants.{PAGE}
use Rattle.cmm_io.specs.Faults.{HasRisen}
use Rattle.cmm_pager.specs.PagerCall.{PagerCall, Put, Get}

-- these are a block's bytes, where it tells them
abbrev pub IsBlockKept : Option (List ℕ) → List ℕ → Type 0
IsBlockKept None bytes = Unit {0}
IsBlockKept (Some kept) bytes = kept ≡ bytes

-- a good put makes the block the bytes, and a good get gives them; after a failed put the block holds any bytes,
-- and after a failed get the buffer does. A block that tells its bytes goes on to tell them
module _ {B : Type 0} (tells : B → Option (List ℕ)) where
  abbrev pub PagerFollows : ℕ → PagerCall B → ℕ → Type 0
  PagerFollows faults (Put before bytes (Ok done) after) risen = (faults ≤ risen) × (is_some (tells after) ≡ is_some (tells before)) × IsBlockKept (tells after) bytes
  PagerFollows faults (Put before bytes (Err failed) after) risen = (faults ≤ risen) × (is_some (tells after) ≡ is_some (tells before)) × HasRisen faults risen
  PagerFollows faults (Get block (Ok done) bytes) risen = (faults ≤ risen) × (length bytes ≡ PAGE) × IsBlockKept (tells block) bytes
  PagerFollows faults (Get block (Err failed) bytes) risen = (faults ≤ risen) × (length bytes ≡ PAGE) × HasRisen faults risen
