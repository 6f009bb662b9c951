-- Laws of what a guest's orders and accesses lead to, and how a caller shows them of the page that its seat holds.
use Rattle.std.specs.Prelude.{◌≡◌, ℕ, List, refl, Option, Some}
use Rattle.std.specs.Option.{ForSome}
use Rattle.std.proofs.Common.{arith, ◌∙◌, sym, subst}
use Rattle.std.proofs.Math.Logic.{∥∥₁_elim}
use Rattle.std.proofs.Props.{props}
use Rattle.std.proofs.lemmas.Option.{same_Some}
use Rattle.cmm_types.specs.declared.page.Content.{Content}
use Rattle.cmm_types.specs.declared.page.Content.TheVariants.{Resident, Preserved, Zero}
use Rattle.essa_state.specs.declared.fields.Fields.{Fields}
use Rattle.essa_state.specs.declared.orders.Order.{Order}
use Rattle.essa_state.specs.declared.orders.Order.TheVariants.{Get}
use Rattle.essa_state.specs.Orders.{after_order}
use Rattle.essa_state.specs.PageBody.{Body, FitsWord}
use Rattle.essa_state.specs.Laws.PageValueLaws.{ordered-fits}
use Rattle.state_words.specs.SeatView.{Hold}
use Rattle.state_words.specs.Accesses.{CanTouch, touched_word, touched_body, AllowsStore, stored_word, stored_body, change_taken, Reaches, Held, Ordered, Touched, Stored, ChangeTaken, Leads}

module _ (w : Fields) (body : Body) where
  pub Leads-same : Leads w body w body
  Leads-same = ∣ Held ∣₁

  pub Leads-ordered : (code : Order) (x : Fields) (there : Body) → Leads w body x there → Leads w body (after_order x code) there
  Leads-ordered code x there l = ∥∥₁_elim l squash₁ (λ r. ∣ Ordered code x there r ∣₁)

  pub Leads-touched : (x : Fields) (there : Body) → CanTouch x → Leads w body x there → Leads w body (touched_word x) (touched_body x.content there)
  Leads-touched x there can l = ∥∥₁_elim l squash₁ (λ r. ∣ Touched x there can r ∣₁)

  pub Leads-stored : (off : ℕ) (bytes : List ℕ) (x : Fields) (there : Body) → AllowsStore x off bytes → Leads w body x there → Leads w body (stored_word x) (stored_body there off bytes)
  Leads-stored off bytes x there can l = ∥∥₁_elim l squash₁ (λ r. ∣ Stored off bytes x there can r ∣₁)

  pub Leads-change_taken : (x : Fields) (there : Body) → Leads w body x there → Leads w body (change_taken x) there
  Leads-change_taken x there l = ∥∥₁_elim l squash₁ (λ r. ∣ ChangeTaken x there r ∣₁)

ordered-busy : (w : Fields) (code : Order) → (after_order w code).busy ≡ w.busy
ordered-busy w Get = refl
ordered-busy w code = grind arith

touched-fits : (c : Content) (w : Fields) (body : Body) → w.content ≡ c → FitsWord w body → FitsWord (touched_word w) (touched_body c body)
touched-fits Resident w body is fits = grind (arith, fits, is)
touched-fits Preserved w body is fits = refl
touched-fits Zero w body is fits = refl

Reaches-busy : (w : Fields) (body : Body) (x : Fields) (there : Body) → Reaches w body x there → x.busy ≡ w.busy
Reaches-busy w body x there Held = refl
Reaches-busy w body x there (Ordered code y at r) = ordered-busy y code ∙ Reaches-busy w body y at r
Reaches-busy w body x there (Touched y at can r) = Reaches-busy w body y at r
Reaches-busy w body x there (Stored off bytes y at can r) = Reaches-busy w body y at r
Reaches-busy w body x there (ChangeTaken y at r) = Reaches-busy w body y at r

Reaches-fits : (w : Fields) (body : Body) (x : Fields) (there : Body) → FitsWord w body → Reaches w body x there → FitsWord x there
Reaches-fits w body x there fits Held = fits
Reaches-fits w body x there fits (Ordered code y at r) = ordered-fits y at code (Reaches-fits w body y at fits r)
Reaches-fits w body x there fits (Touched y at can r) = touched-fits y.content y at refl (Reaches-fits w body y at fits r)
Reaches-fits w body x there fits (Stored off bytes y at can r) = sym can.resident
Reaches-fits w body x there fits (ChangeTaken y at r) = Reaches-fits w body y at fits r

-- the busy bit stays as it was
pub Leads-busy : (w : Fields) (body : Body) (x : Fields) (there : Body) → Leads w body x there → x.busy ≡ w.busy
Leads-busy w body x there l = ∥∥₁_elim l (hlevel props) (λ r. Reaches-busy w body x there r)

-- and the body goes on fitting the word
pub Leads-fits : (w : Fields) (body : Body) (x : Fields) (there : Body) → FitsWord w body → Leads w body x there → FitsWord x there
Leads-fits w body x there fits l = ∥∥₁_elim l (hlevel props) (λ r. Reaches-fits w body x there fits r)

-- what stands of the hold that a seat has stands of whatever it holds
pub ForSome-held : (P : Hold → Type 0) (held : Option Hold) (h : Hold) → held ≡ Some h → P h → ForSome held P
ForSome-held P held h is p x e = subst P (same_Some h x (sym is ∙ e)) p
