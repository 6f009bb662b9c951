-- Laws of the page that a guest holds: where its contents are at every moment of the hold, and what follows for a touch.
use Rattle.std.specs.Prelude.{◌≡◌, refl, ℕ, List, Bool, true, false, Some, Result, Ok, Err, is_ok}
use Rattle.std.proofs.Common.{arith, sym, ◌∙◌, ap}
use Rattle.cmm_types.specs.Bytes.{with_bytes}
use Rattle.cmm_types.specs.declared.page.Content.{Content}
use Rattle.cmm_types.specs.declared.page.Content.TheVariants.{Resident}
use Rattle.essa_state.specs.declared.fields.Fields.{Fields}
use Rattle.essa_state.specs.declared.orders.Old.{Old}
use Rattle.essa_state.specs.declared.orders.Order.{Order}
use Rattle.essa_state.specs.declared.orders.Order.TheVariants.{Get}
use Rattle.essa_state.specs.StateWord.{is_resident, is_discarded, is_permitted}
use Rattle.essa_state.specs.Orders.{after_order}
use Rattle.essa_state.specs.PageValue.{PageValue, Contents, Bytes, Blank, Lost, is_lost}
use Rattle.essa_state.specs.PageBody.{Body, actual, frame_bytes}
use Rattle.cmm_storage.specs.declared.storage.Trap.{Trap}
use Rattle.cmm_storage.specs.declared.storage.Trap.TheVariants.{Discarded, Paging, NoFrame}
use Rattle.cmm_storage.specs.StorageCall.{Take, Touch, Give, TakeChange, Fetch, Store}
use Rattle.cmm_storage.specs.StorageView.{StorageView, Follows, IsPlaced, bytes_of, content_after, has_bytes, stored_value, touched_contents}
use Rattle.cmm_storage.specs.Hold.{IsInHold}

-- an order moves the contents of a page as it moves those of its word
pub after_order-content : (w : Fields) (code : Order) → (after_order w code).content ≡ content_after code w.content
after_order-content w Get = grind arith
after_order-content w code = grind arith

pub actual-placed : (w : Fields) (body : Body) → is_permitted w ≡ true → IsPlaced w.content (actual w body)
actual-placed w body permitted = grind arith

pub take-in_hold : (v w : StorageView) (page : ℕ) (got : Unit) → Follows v (Take page (Ok got)) w → IsInHold w page
take-in_hold v w page got (keeps, none, still, (held, untouched), may, value, same, placed) = record {
  held = held;
  placed = placed;
  touched = λ touched. absurd cc;
}

-- a page stays resident whatever order it is given
resident-stays : (code : Order) (before after : Content) → after ≡ content_after code before → before ≡ Resident → after ≡ Resident
resident-stays Get before after moved resident = grind arith
resident-stays code before after moved resident = grind arith

resident-placed : (place : Content) (value : PageValue) → place ≡ Resident → has_bytes value.contents ≡ true → IsPlaced place value
resident-placed place value resident bytes = grind arith

touched-bytes : (tells : Bool) (contents : Contents) → is_lost contents ≡ false → has_bytes (touched_contents tells contents) ≡ true
touched-bytes tells (Bytes bytes) kept = refl
touched-bytes tells Blank kept = refl
touched-bytes tells Lost kept = absurd cc

same-placed : (before after : Content) (old new : PageValue) → after ≡ before → new ≡ old → IsPlaced before old → IsPlaced after new
same-placed before after old new place value placed = rw (place, value) placed

unchanged-placed : (before after : Content) (old new : PageValue) → after ≡ before → new ≡ record old { changed = false } → IsPlaced before old → IsPlaced after new
unchanged-placed before after old new place value placed = rw (place, value) record { zero = placed.zero; unused = placed.unused }

pub touch-in_hold : (v w : StorageView) (page : ℕ) (answer : Result Unit Trap) → IsInHold v page → Follows v (Touch page answer) w → IsInHold w page
touch-in_hold v w page (Ok got) is (keeps, none, (held, touched), kept, value, whole, resident, still) = record {
  held = held;
  placed = resident-placed w.content (w.values page) resident (ap (λ (q : PageValue). has_bytes q.contents) value ∙ touched-bytes v.tells (v.values page).contents kept);
  touched = λ t. resident;
}
touch-in_hold v w page (Err Discarded) is (keeps, none, still, ((held, touched), value), lost, place) = record {
  held = held;
  placed = same-placed v.content w.content (v.values page) (w.values page) place value is.placed;
  touched = λ t. place ∙ is.touched (sym touched ∙ t);
}
touch-in_hold v w page (Err Paging) is (keeps, none, ((held, touched), value), kept, before, risen, place, absent) = record {
  held = held;
  placed = same-placed v.content w.content (v.values page) (w.values page) place value is.placed;
  touched = λ t. place ∙ is.touched (sym touched ∙ t);
}
touch-in_hold v w page (Err (NoFrame looks)) is (keeps, misses, ((held, touched), value), kept, before, place, absent) = record {
  held = held;
  placed = same-placed v.content w.content (v.values page) (w.values page) place value is.placed;
  touched = λ t. place ∙ is.touched (sym touched ∙ t);
}

pub give-in_hold : (v w : StorageView) (page : ℕ) (code : Order) (old : Old) → IsInHold v page → Follows v (Give page code old) w → IsInHold w page
give-in_hold v w page code old is (keeps, none, still, (held, touched), was, step, moved, placed) = record {
  held = held;
  placed = placed;
  touched = λ t. resident-stays code v.content w.content moved (is.touched (sym touched ∙ t));
}

pub take_change-in_hold : (v w : StorageView) (page : ℕ) (changed : Bool) → IsInHold v page → Follows v (TakeChange page changed) w → IsInHold w page
take_change-in_hold v w page changed is (keeps, none, still, (held, touched), bit, value, place) = record {
  held = held;
  placed = unchanged-placed v.content w.content (v.values page) (w.values page) place value is.placed;
  touched = λ t. place ∙ is.touched (sym touched ∙ t);
}

pub fetch-in_hold : (v w : StorageView) (page off : ℕ) (bytes : List ℕ) → IsInHold v page → Follows v (Fetch page off bytes) w → IsInHold w page
fetch-in_hold v w page off bytes is (keeps, none, still, ((held, touched), value), read, place) = record {
  held = held;
  placed = same-placed v.content w.content (v.values page) (w.values page) place value is.placed;
  touched = λ t. place ∙ is.touched (sym touched ∙ t);
}

-- only a page that was touched is stored to
pub store-in_hold : (v w : StorageView) (page off : ℕ) (bytes : List ℕ) → IsInHold v page → v.touched ≡ true → Follows v (Store page off bytes) w → IsInHold w page
store-in_hold v w page off bytes is touched_before (keeps, none, still, (held, touched), value, place) = record {
  held = held;
  placed = resident-placed w.content (w.values page) (place ∙ is.touched touched_before) (ap (λ (q : PageValue). has_bytes q.contents) value);
  touched = λ t. place ∙ is.touched touched_before;
}

placed-kept : (place : Content) (value : PageValue) → IsPlaced place value → place ≡ Resident → is_lost value.contents ≡ true → ⊥
placed-kept place value placed resident lost = grind arith

not-absent : (place : Content) → place ≡ Resident → is_resident place ≡ false → ⊥
not-absent place resident absent = grind arith

-- a touch of a resident page succeeds
pub touch_resident-succeeds : (v w : StorageView) (page : ℕ) (answer : Result Unit Trap) → IsInHold v page → v.content ≡ Resident → Follows v (Touch page answer) w → is_ok answer ≡ true
touch_resident-succeeds v w page (Ok got) is resident follows = refl
touch_resident-succeeds v w page (Err Discarded) is resident follows = absurd (placed-kept v.content (v.values page) is.placed resident follows.4)
touch_resident-succeeds v w page (Err Paging) is resident follows = absurd (not-absent v.content resident follows.7)
touch_resident-succeeds v w page (Err (NoFrame looks)) is resident follows = absurd (not-absent v.content resident follows.6)

-- ---- a page that is resident

pub resident-content : (w : Fields) → is_resident w.content ≡ true → w.content ≡ Resident
resident-content w h = grind arith

pub resident-contents : (w : Fields) (body : Body) → is_resident w.content ≡ true → (actual w body).contents ≡ Bytes (frame_bytes body)
resident-contents w body resident = rw (resident-content w resident) refl

pub resident-bytes : (w : Fields) (body : Body) → is_resident w.content ≡ true → bytes_of (actual w body).contents ≡ frame_bytes body
resident-bytes w body resident = rw (resident-content w resident) refl

-- bytes are stored to its frame
pub stored-actual : (w : Fields) (body : Body) (off : ℕ) (bytes : List ℕ) → is_resident w.content ≡ true →
    actual (record w { changed = true }) (record body { frame = Some (with_bytes (frame_bytes body) off bytes) }) ≡ stored_value true (actual w body) off bytes
stored-actual w body off bytes resident = rw (resident-content w resident) refl

pub lost-discarded : (w : Fields) (body : Body) → is_lost (actual w body).contents ≡ is_discarded w
lost-discarded w body = grind arith

-- what isn't resident wasn't touched
pub not-touched : (touched resident : Bool) → (touched ≡ true → resident ≡ true) → resident ≡ false → touched ≡ false
not-touched true resident before absent = sym (before refl) ∙ absent
not-touched false resident before absent = refl
