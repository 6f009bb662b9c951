-- What a turn of the guest leads to, and how words of sheets start.
use Rattle.std.proofs.Common.{◌≡◌, [], ◌∷◌, zero, suc, sym, refl, ap, subst, arith, None, is_some}
use Rattle.std.specs.Prelude.{All}
use Rattle.std.specs.Option.{option_map}
use Rattle.essa_state.specs.declared.fields.Fields.{Fields}
use Rattle.essa_state.specs.declared.orders.Order.{Order}
use Rattle.essa_state.specs.declared.orders.Order.TheVariants.{SetStable}
use Rattle.essa_state.specs.Orders.{after_order}
use Rattle.essa_state.specs.PageBody.{Body}
use Rattle.cmm_types.specs.Bytes.{zero_page}
use Rattle.state_words.specs.Accesses.{CanTouch, touched_word, touched_body, Leads}
use Rattle.state_words.specs.Laws.AccessLaws.{Leads-same, Leads-ordered, Leads-touched}
use Rattle.state_words.specs.WordsRule.{FitsStart}
use Rattle.words_tests.specs.Sheets.{SheetView, page_filled, sheet_body, house_of}

pub filled_zero : page_filled 0 ≡ zero_page
unfolding page_filled zero_page
filled_zero = refl

pub stable-CanTouch : (w : Fields) → CanTouch (after_order w SetStable)
stable-CanTouch w = record { used = refl; there = grind arith }

pub used : (w : Fields) (b : Body) (stable touched left : Fields) (b' : Body) (code : Order) → stable ≡ after_order w SetStable → touched ≡ touched_word stable
    → b' ≡ touched_body stable.content b → left ≡ after_order touched code → Leads w b left b'
used w b stable touched left b' code is_stable is_touched at is_left =
    let first : Leads w b stable b = subst (λ q. Leads w b q b) (sym is_stable) (Leads-ordered w b SetStable w b (Leads-same w b)) in
    let can : CanTouch stable = subst CanTouch (sym is_stable) (stable-CanTouch w) in
    let second : Leads w b touched b' =
    subst (λ q. Leads w b q b') (sym is_touched) (subst (λ q. Leads w b (touched_word stable) q) (sym at) (Leads-touched w b stable b can first)) in
    subst (λ q. Leads w b q b') (sym is_left) (Leads-ordered w b code touched b' second)

-- a sheet without a frame fits the word of a page that opens
pub two_start : (s : SheetView) → s.frame ≡ None → All (FitsStart sheet_body house_of (house_of s)) (s ∷ s ∷ [])
two_start s none zero d l = (ap (λ f. is_some (option_map page_filled f)) none, refl)
two_start s none (suc zero) d l = (ap (λ f. is_some (option_map page_filled f)) none, refl)
two_start s none (suc (suc k)) d l = absurd (omega arith)
