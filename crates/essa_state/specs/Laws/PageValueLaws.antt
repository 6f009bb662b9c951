-- Laws of page values: what orders and host moves make of them.
use Rattle.std.specs.Prelude.{◌≡◌, ◌⊎◌, true, refl}
use Rattle.std.proofs.Common.{arith, sym, inl, inr, subst}
use Rattle.cmm_types.specs.declared.page.Move.{Move}
use Rattle.cmm_types.specs.declared.page.Move.TheVariants.{Discard}
use Rattle.essa_state.specs.declared.fields.Fields.{Fields}
use Rattle.essa_state.specs.declared.orders.Order.{Order}
use Rattle.essa_state.specs.declared.orders.Order.TheVariants.{Get}
use Rattle.essa_state.specs.StateWord.{is_permitted}
use Rattle.essa_state.specs.Orders.{order_done, after_order}
use Rattle.essa_state.specs.PageValue.{PageValue, IsValue, OrderStep, MayBecome, IsDiscarded, IsScrambled, is_lost, may_lose}
use Rattle.essa_state.specs.PageBody.{Body, FitsWord, HostMove, actual}

-- every order, whether or not it is done
pub ordered-value : (w : Fields) (body : Body) (code : Order) → OrderStep (actual w body) code (order_done w code) (actual (after_order w code) body)
ordered-value w body Get = grind arith
ordered-value w body code = grind arith

pub ordered-fits : (w : Fields) (body : Body) (code : Order) → FitsWord w body → FitsWord (after_order w code) body
ordered-fits w body Get h = h
ordered-fits w body code h = grind arith

-- every host move, whether or not it is refused
pub move-may_become : (w : Fields) (body : Body) (action : Move) (w' : Fields) (body' : Body) → HostMove w body action w' body' → MayBecome (actual w body) (actual w' body')
move-may_become w body Discard w' body' h = grind arith
move-may_become w body action w' body' h = grind arith

pub move-fits : (w : Fields) (body : Body) (action : Move) (w' : Fields) (body' : Body) → FitsWord w body → HostMove w body action w' body' → FitsWord w' body'
move-fits w body Discard w' body' fits h = grind arith
move-fits w body action w' body' fits h = grind arith

pub actual-is_value : (w : Fields) (body : Body) → is_permitted w ≡ true → IsValue (actual w body)
actual-is_value w body h = grind arith

pub MayBecome-refl : (v : PageValue) → MayBecome v v
MayBecome-refl v = inl refl

pub MayBecome-trans : (v w x : PageValue) → MayBecome v w → MayBecome w x → MayBecome v x
MayBecome-trans v w x (inl e) second = subst (λ q. MayBecome q x) e second
MayBecome-trans v w x (inr (inl d)) (inl e) = inr (inl (subst (λ q. IsDiscarded v q) (sym e) d))
MayBecome-trans v w x (inr (inl d)) (inr (inl d')) = grind arith
MayBecome-trans v w x (inr (inl d)) (inr (inr s)) = grind arith
MayBecome-trans v w x (inr (inr s)) (inl e) = inr (inr (subst (λ q. IsScrambled v q) (sym e) s))
MayBecome-trans v w x (inr (inr s)) (inr (inl d)) = grind arith
MayBecome-trans v w x (inr (inr s)) (inr (inr s')) = grind arith

pub MayBecome-is_value : (v w : PageValue) → IsValue v → MayBecome v w → IsValue w
MayBecome-is_value v w h m = grind arith

-- the host discards only what it may
pub may_discard : (x y : PageValue) → MayBecome x y → is_lost y.contents ≡ true → (is_lost x.contents ≡ true) ⊎ (may_lose x.usage x.changed ≡ true)
may_discard x y may lost = grind arith
