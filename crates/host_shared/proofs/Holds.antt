-- What orders, touches and stores make of a held page.
use Rattle.std.specs.Prelude.{◌≡◌, ℕ, List, Bool, true, false, is_some, refl}
use Rattle.std.proofs.Common.{arith, ap, sym, subst, ◌∙◌}
use Rattle.cmm_types.specs.declared.page.Content.{Content}
use Rattle.cmm_types.specs.declared.page.Content.TheVariants.{Resident, Preserved, Zero}
use Rattle.essa_state.specs.declared.fields.Fields.{Fields}
use Rattle.essa_state.specs.declared.orders.Order.{Order}
use Rattle.essa_state.specs.declared.orders.Order.TheVariants.{Get}
use Rattle.essa_state.specs.StateWord.{is_permitted, is_resident, is_preserved, is_zero}
use Rattle.essa_state.specs.Orders.{after_order}
use Rattle.essa_state.specs.PageBody.{Body}
use Rattle.essa_state.specs.Laws.WordLaws.{ordered-permitted}
use Rattle.essa_state.specs.Laws.PageValueLaws.{ordered-fits}
use Rattle.state_words.specs.Accesses.{touched_word, touched_body, stored_word, stored_body}
use Rattle.host_shared.specs.Bodies.{BodyParts, IsPageBody, lent_body}
use Rattle.host_shared.specs.Holding.{HeldState, IsHeldPage, IsTouched}

abbrev pub held_at : ℕ → Fields → BodyParts → Bool → HeldState
held_at page word parts touched = record { page = page; word = word; parts = parts; touched = touched }

ordered-resident : (w : Fields) (code : Order) → is_resident w.content ≡ true → is_resident (after_order w code).content ≡ true
ordered-resident w Get h = grind arith
ordered-resident w code h = grind arith

pub ordered_held : (page : ℕ) (w x : Fields) (parts : BodyParts) (touched : Bool) (code : Order) → x ≡ after_order w code → IsHeldPage (held_at page w parts touched) →
    IsHeldPage (held_at page x parts touched)
ordered_held page w x parts touched code e h = subst (λ (q : Fields). IsHeldPage (held_at page q parts touched)) (sym e) (record {
  permitted = ordered-permitted w code h.permitted;
  fits = ordered-fits w (lent_body parts) code h.fits;
  whole = h.whole;
  resident = λ t. ordered-resident w code (h.resident t);
})

touched-permitted : (w : Fields) → is_permitted (touched_word w) ≡ true
touched-permitted w = grind arith

pub touched_held : (page : ℕ) (w x : Fields) (parts : BodyParts) → x ≡ touched_word w → is_some (lent_body parts).frame ≡ true → IsPageBody parts → IsHeldPage (held_at page x parts true)
touched_held page w x parts e framed whole = subst (λ (q : Fields). IsHeldPage (held_at page q parts true)) (sym e) (record {
  permitted = touched-permitted w;
  fits = framed;
  whole = whole;
  resident = λ t. refl;
})

stored-permitted : (w : Fields) → is_permitted w ≡ true → is_resident w.content ≡ true → is_permitted (stored_word w) ≡ true
stored-permitted w permitted resident = grind arith

pub stored_held : (page : ℕ) (w x : Fields) (parts now : BodyParts) (off : ℕ) (bytes : List ℕ) → x ≡ stored_word w → lent_body now ≡ stored_body (lent_body parts) off bytes → IsPageBody now →
    IsHeldPage (held_at page w parts true) → IsHeldPage (held_at page x now true)
stored_held page w x parts now off bytes e body whole h =
    let resident : is_resident w.content ≡ true = h.resident refl in
    subst (λ (q : Fields). IsHeldPage (held_at page q now true)) (sym e) (record {
      permitted = stored-permitted w h.permitted resident;
      fits = ap (λ (b : Body). is_some b.frame) body ∙ sym resident;
      whole = whole;
      resident = λ t. resident;
    })

pub resident_body : (c : Content) (body : Body) → is_resident c ≡ true → touched_body c body ≡ body
resident_body Resident body e = refl
resident_body Preserved body e = absurd (let bad : false ≡ true = e in cc)
resident_body Zero body e = absurd (let bad : false ≡ true = e in cc)

pub preserved_body : (c : Content) (body : Body) → is_preserved c ≡ true → touched_body c body ≡ touched_body Preserved body
preserved_body Resident body e = absurd (let bad : false ≡ true = e in cc)
preserved_body Preserved body e = refl
preserved_body Zero body e = absurd (let bad : false ≡ true = e in cc)

pub zero_body : (c : Content) (body : Body) → is_zero c ≡ true → touched_body c body ≡ touched_body Zero body
zero_body Resident body e = absurd (let bad : false ≡ true = e in cc)
zero_body Preserved body e = absurd (let bad : false ≡ true = e in cc)
zero_body Zero body e = refl

pub touches : (h : HeldState) (x : Fields) (parts : BodyParts) → x ≡ touched_word h.word → lent_body parts ≡ touched_body h.word.content (lent_body h.parts) → parts.pool ≡ h.parts.pool →
    IsTouched h (held_at h.page x parts true)
touches h x parts word body pool = record { page = refl; word = word; body = body; pool = pool; touched = refl }
