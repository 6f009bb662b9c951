-- What a page's value is after the calls of a turn.
use Rattle.std.specs.Prelude.{◌≡◌, ◌≢◌, ◌⊎◌, ℕ, List, length, Bool, true, false}
use Rattle.std.proofs.Common.{arith}
use Rattle.std.proofs.lemmas.Grind.{common_steps}
use Rattle.cmm_types.specs.declared.page.Usage.{Usage}
use Rattle.cmm_types.specs.declared.page.Usage.TheVariants.{S, U}
use Rattle.essa_state.specs.declared.orders.Order.TheVariants.{SetStableIf}
use Rattle.essa_state.specs.PageValue.{PageValue, Contents, IsValue, StandsWith, OrderStep, LetsGo, MayBecome, is_lost, is_blank, made_stable}
use Rattle.cmm_storage.specs.StorageView.{touched_contents}
use Rattle.cmm_types.specs.Bytes.{with_bytes}

-- a page that isn't blank is let go without a discard
pub let_go : (x y : PageValue) (usage : Usage) (was_done : Bool) → is_blank x.contents ≡ false → LetsGo x usage was_done y → y ≡ record x { usage = usage }
let_go x y usage was_done h step = grind arith

-- a page is made stable exactly where it isn't lost
pub stable_if : (x y : PageValue) (was_done : Bool) → OrderStep x SetStableIf was_done y
    → ((is_lost x.contents ≡ true) × (was_done ≡ false) × (y ≡ x)) ⊎ ((is_lost x.contents ≡ false) × (was_done ≡ true) × (y ≡ record x { usage = S }))
stable_if x y was_done step = grind arith

-- the host leaves a used page as it was, or discards it
pub may_used : (x y : PageValue) → x.usage ≢ U → MayBecome x y → is_lost y.contents ≡ false → y ≡ x
may_used x y used may there = grind arith

pub filled_may : (x y : PageValue) → x.usage ≢ U → MayBecome x y → is_blank x.contents ≡ false → is_blank y.contents ≡ false
filled_may x y used may filled = grind arith

-- and a stable page as it was
pub may_stable : (x y : PageValue) → x.usage ≡ S → MayBecome x y → y ≡ x
may_stable x y h may = grind arith

pub stable_there : (x : PageValue) → x.usage ≡ S → IsValue x → is_lost x.contents ≡ false
stable_there x h value = grind arith

pub made_stable-same : (x : PageValue) → x.usage ≡ S → is_lost x.contents ≡ false → made_stable x ≡ x
made_stable-same x h there = grind arith

-- a page of bytes that is touched keeps them
pub touched_same : (tells : Bool) (contents : Contents) → is_blank contents ≡ false → is_lost contents ≡ false → touched_contents tells contents ≡ contents
touched_same tells contents h there = grind arith

pub unused_there : (contents : Contents) → StandsWith contents U false → is_lost contents ≡ false
unused_there contents h = grind arith

-- a page of new bytes replaces all of the old ones
pub whole_write : (old new : List ℕ) → length old ≡ length new → with_bytes old 0 new ≡ new
whole_write old new h = grind (arith, common_steps)
