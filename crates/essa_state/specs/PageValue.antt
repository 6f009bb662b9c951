-- What a page is for its guest, what an order does to it, and what the host may have done to it between two holds.
use Rattle.std.specs.Prelude.{◌≡◌, ◌⊎◌, ℕ, ◌+◌, ◌<◌, List, Bool, true, false, not, ◌||◌, nat_lt, if◌then◌else◌}
use Rattle.cmm_types.specs.declared.page.Usage.{Usage}
use Rattle.cmm_types.specs.declared.page.Usage.TheVariants.{S, U, P, V}
use Rattle.essa_state.specs.declared.fields.TheConstants.{LAST_COUNT}
use Rattle.essa_state.specs.declared.orders.Order.{Order}
use Rattle.essa_state.specs.declared.orders.Order.TheVariants.{Get, SetStable, SetUnused, SetVolatile, SetPotential, SetStableResident, SetStableIf}
use Rattle.essa_state.specs.StateWord.{is_discardable}

-- blank contents read as zeros; lost ones can't be read
pub data Contents : Type 0 where
  Bytes : List ℕ → Contents
  Blank : Contents
  Lost : Contents

pub record PageValue : Type 0 where
  pub usage : Usage
  pub changed : Bool
  pub contents : Contents
  pub count : ℕ

-- unused, without contents, and never discarded
abbrev pub opening_value : PageValue
opening_value = record { usage = U; changed = false; contents = Blank; count = 0 }

abbrev pub is_blank : Contents → Bool
is_blank (Bytes bytes) = false
is_blank Blank = true
is_blank Lost = false

abbrev pub is_lost : Contents → Bool
is_lost (Bytes bytes) = false
is_lost Blank = false
is_lost Lost = true

-- blank stands only with a stable or unused page, lost only with a volatile or potentially volatile one, and both
-- only with one that isn't changed
abbrev pub StandsWith : Contents → Usage → Bool → Type 0
StandsWith (Bytes bytes) usage changed = Unit {0}
StandsWith Blank usage changed = (is_discardable usage ≡ false) × (changed ≡ false)
StandsWith Lost usage changed = (is_discardable usage ≡ true) × (changed ≡ false)

abbrev pub IsValue : PageValue → Type 0
IsValue v = StandsWith v.contents v.usage v.changed

-- lost contents that the guest asks for again are blank
abbrev pub stable_contents : Contents → Contents
stable_contents (Bytes bytes) = Bytes bytes
stable_contents Blank = Blank
stable_contents Lost = Blank

abbrev pub made_stable : PageValue → PageValue
made_stable v = record v { usage = S; contents = stable_contents v.contents }

-- an unused page, with the count that it had
pub record IsMadeUnused (old new : PageValue) : Type 0 where
  pub usage : new.usage ≡ U
  pub changed : new.changed ≡ false
  pub stands : StandsWith new.contents U false
  pub count : new.count ≡ old.count

-- to let a blank page go is a discard, which is counted, and there is none at the last count
abbrev pub can_be_let_go : PageValue → Bool
can_be_let_go v = not (is_blank v.contents) || nat_lt v.count LAST_COUNT

abbrev pub value_let_go : Contents → PageValue → Usage → PageValue
value_let_go (Bytes bytes) v usage = record v { usage = usage }
value_let_go Blank v usage = record v { usage = usage; contents = Lost; count = v.count + 1 }
value_let_go Lost v usage = record v { usage = usage }

-- volatile or potentially volatile from now on, where that can be
abbrev pub LetsGo : PageValue → Usage → Bool → PageValue → Type 0
LetsGo v usage done w = (done ≡ can_be_let_go v) × (w ≡ (if can_be_let_go v then value_let_go v.contents v usage else v))

-- an order that answers whether it was done, and the value after it
abbrev pub OrderStep : PageValue → Order → Bool → PageValue → Type 0
OrderStep v Get done w = (done ≡ true) × (w ≡ v)
OrderStep v SetStable done w = (done ≡ true) × (w ≡ made_stable v)
OrderStep v SetUnused done w = (done ≡ true) × IsMadeUnused v w
OrderStep v SetVolatile done w = LetsGo v V done w
OrderStep v SetPotential done w = LetsGo v P done w
OrderStep v SetStableResident done w = (done ≡ true) × (w ≡ made_stable v)
OrderStep v SetStableIf done w = (done ≡ not (is_lost v.contents)) × (w ≡ (if is_lost v.contents then v else record v { usage = S }))

-- volatile, or potentially volatile and unchanged
abbrev pub may_lose : Usage → (changed : Bool) → Bool
may_lose S changed = false
may_lose U changed = false
may_lose P changed = not changed
may_lose V changed = true

-- the contents were discarded, and the discard was counted
pub record IsDiscarded (old new : PageValue) : Type 0 where
  pub allowed : may_lose old.usage old.changed ≡ true
  pub there : is_lost old.contents ≡ false
  pub counted : old.count < LAST_COUNT
  pub value : new ≡ record { usage = old.usage; changed = false; contents = Lost; count = old.count + 1 }

-- an unused page's contents became others
pub record IsScrambled (old new : PageValue) : Type 0 where
  pub unused : old.usage ≡ U
  pub still_unused : new.usage ≡ U
  pub changed : new.changed ≡ true → old.changed ≡ true
  pub stands : StandsWith new.contents U new.changed
  pub count : new.count ≡ old.count

-- what the host may have done to a page that its guest doesn't hold
abbrev pub MayBecome : PageValue → PageValue → Type 0
MayBecome old new = (new ≡ old) ⊎ IsDiscarded old new ⊎ IsScrambled old new
