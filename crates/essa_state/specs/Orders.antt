-- What each order does to a state word.
use Rattle.std.specs.Prelude.{◌+◌, Bool, true, false, not, ◌&&◌, ◌||◌, nat_lt, if◌then◌else◌}
use Rattle.cmm_types.specs.declared.page.Usage.{Usage}
use Rattle.cmm_types.specs.declared.page.Usage.TheVariants.{S, U, P, V}
use Rattle.cmm_types.specs.declared.page.Content.{Content}
use Rattle.cmm_types.specs.declared.page.Content.TheVariants.{Resident, Preserved, Zero}
use Rattle.essa_state.specs.declared.fields.TheConstants.{LAST_COUNT}
use Rattle.essa_state.specs.declared.fields.Fields.{Fields}
use Rattle.essa_state.specs.declared.orders.Order.{Order}
use Rattle.essa_state.specs.declared.orders.Order.TheVariants.{Get, SetStable, SetUnused, SetVolatile, SetPotential, SetStableResident, SetStableIf}
use Rattle.essa_state.specs.StateWord.{is_zero, is_discardable, is_discarded}

-- zero content that the guest still counts on: to let such a page go is a discard
abbrev pub is_blank_word : Fields → Bool
is_blank_word w = is_zero w.content && not (is_discardable w.usage)

-- a discard is counted, and there is none at the last count
abbrev pub can_let_go : Fields → Bool
can_let_go w = not (is_blank_word w) || nat_lt w.count LAST_COUNT

abbrev pub with_usage : Fields → Usage → Fields
with_usage w usage = record w { usage = usage }

-- volatile or potentially volatile from now on
abbrev pub let_go : Fields → Usage → Fields
let_go w usage = record w { usage = usage; count = if is_blank_word w then w.count + 1 else w.count }

-- an unused page's copy in the paging store is given up
abbrev pub unpreserved : Content → Content
unpreserved Resident = Resident
unpreserved Preserved = Zero
unpreserved Zero = Zero

abbrev pub made_unused : Fields → Fields
made_unused w = record w { usage = U; content = unpreserved w.content; referenced = false; changed = false }

-- whether the order is done
abbrev pub order_done : Fields → Order → Bool
order_done w Get = true
order_done w SetStable = true
order_done w SetUnused = true
order_done w SetVolatile = can_let_go w
order_done w SetPotential = can_let_go w
order_done w SetStableResident = true
order_done w SetStableIf = not (is_discarded w)

-- the word after an order that is done
abbrev pub ordered : Fields → Order → Fields
ordered w Get = w
ordered w SetStable = with_usage w S
ordered w SetUnused = made_unused w
ordered w SetVolatile = let_go w V
ordered w SetPotential = let_go w P
ordered w SetStableResident = with_usage w S
ordered w SetStableIf = with_usage w S

-- an order that isn't done changes nothing
abbrev pub after_order : Fields → Order → Fields
after_order w code = if order_done w code then ordered w code else w
