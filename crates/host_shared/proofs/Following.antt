-- Each call of a bound storage does what a storage's is to do.
use Rattle.std.specs.Prelude.{◌≡◌, ◌≢◌, ℕ, ◌+◌, ◌^◌, ◌<◌, ◌≤◌, List, [], ◌∷◌, ◌++◌, length, take, drop, Bool, true, false, Option, Some, None, Ok, Err, IfSome, is_some, unwrap_or, refl, if◌then◌else◌}
use Rattle.std.specs.List.{sum_by}
use Rattle.std.specs.Option.{option_map}
use Rattle.std.proofs.Common.{arith, ap, sym, subst, inl, ◌∙◌, eq-eqb, ne_eqb, get_or-set_other, get_or-set_same}
use Rattle.std.proofs.lemmas.List.Sums.{sum_by_push}
use Rattle.cmm_types.specs.declared.page.TheConstants.{PAGE}
use Rattle.cmm_types.specs.declared.page.Content.{Content}
use Rattle.cmm_types.specs.declared.page.Content.TheVariants.{Resident, Preserved, Zero}
use Rattle.essa_state.specs.declared.fields.Fields.{Fields}
use Rattle.essa_state.specs.declared.orders.Order.{Order}
use Rattle.essa_state.specs.StateWord.{is_permitted, is_resident, is_discarded}
use Rattle.essa_state.specs.Orders.{order_done, after_order}
use Rattle.essa_state.specs.PageValue.{PageValue, is_lost, MayBecome, IsValue, OrderStep, opening_value}
use Rattle.essa_state.specs.PageBody.{Body, actual, frame_bytes}
use Rattle.essa_state.specs.Laws.PageValueLaws.{actual-is_value, ordered-value}
use Rattle.essa_state.specs.Laws.WordLaws.{ordered-permitted}
use Rattle.cmm_storage.specs.declared.storage.Trap.{Trap}
use Rattle.cmm_storage.specs.declared.storage.Trap.TheVariants.{Discarded, Paging, NoFrame}
use Rattle.cmm_storage.specs.Laws.HoldLaws.{actual-placed, after_order-content, resident-contents, resident-bytes, stored-actual, lost-discarded, not-touched}
use Rattle.cmm_storage.specs.StorageCall.{Take, Touch, Give, TakeChange, Fetch, Store, Put}
use Rattle.cmm_storage.specs.StorageView.{Follows, Keeps, IsPlaced, IsWhole, bytes_of, touched_contents, stored_value}
use Rattle.state_words.specs.SeatView.{SeatView, Seated, SeatStep, Role, Guest, Host, Spent, Tried, Left, value_at, guest_values}
use Rattle.state_words.specs.Steps.{role_with, claimed_view, left_view, FindsBusy}
use Rattle.state_words.specs.Accesses.{touched_word, touched_body, stored_word, stored_body, change_taken}
use Rattle.frame_pool.specs.Seats.{LoanView}
use Rattle.host_shared.specs.Bodies.{BodyParts, lent_body}
use Rattle.host_shared.specs.Holding.{HeldState, IsHeldPage, IsTouched, TrapCause}
use Rattle.host_shared.specs.Binding.{missed_at, value_in, seen_of, raised_at}

pub never : {A : Type 0} → false ≡ true → A
never e = absurd cc

-- what a seat knows of another page than the one that it found or left
known-other : (r : Role) (page i : ℕ) (value : PageValue) → i ≢ page → value_at (guest_values (role_with r page value)) i ≡ value_at (guest_values r) i
known-other (Guest vs) page i value other = get_or-set_other vs page i value opening_value other
known-other Host page i value other = refl
known-other Spent page i value other = refl

known-here : (r : Role) (page : ℕ) (value : PageValue) → page < length (guest_values r) → value_at (guest_values (role_with r page value)) page ≡ value
known-here (Guest vs) page value inside = get_or-set_same vs page value opening_value inside
known-here Host page value inside = absurd (omega arith)
known-here Spent page value inside = absurd (omega arith)

in-other : (h : HeldState) (vs : List PageValue) (i : ℕ) → i ≢ h.page → value_in (Some h) vs i ≡ value_at vs i
in-other h vs i other = ap (λ (b : Bool). if b then actual h.word (lent_body h.parts) else value_at vs i) (ne_eqb i h.page other)

pub in-here : (h : HeldState) (vs : List PageValue) → value_in (Some h) vs h.page ≡ actual h.word (lent_body h.parts)
in-here h vs = ap (λ (b : Bool). if b then actual h.word (lent_body h.parts) else value_at vs h.page) (eq-eqb h.page h.page refl)

at-held : (h h' : HeldState) (vs : List PageValue) → h'.page ≡ h.page → value_in (Some h') vs h.page ≡ actual h'.word (lent_body h'.parts)
at-held h h' vs e = subst (λ (q : ℕ). value_in (Some h') vs q ≡ actual h'.word (lent_body h'.parts)) e (in-here h' vs)

one-more : (steps : List SeatStep) (s : SeatStep) (n : ℕ) → missed_at s ≡ n → sum_by missed_at (steps ++ s ∷ []) ≡ sum_by missed_at steps + n
one-more steps s n e = sum_by_push missed_at steps s ∙ ap (λ (k : ℕ). sum_by missed_at steps + k) e

miss-0 : (page : ℕ) (w : Fields) → w.busy ≡ false → missed_at (Tried page w) ≡ 0
miss-0 page w e = ap (λ (b : Bool). let n : ℕ = if b then 1 else 0 in n) e

miss-1 : (page : ℕ) (w : Fields) → w.busy ≡ true → missed_at (Tried page w) ≡ 1
miss-1 page w e = ap (λ (b : Bool). let n : ℕ = if b then 1 else 0 in n) e

keeps_of : (seat seat' : Seated) (held held' : Option HeldState) (faults faults' nf nf' page : ℕ) → seat'.words ≡ seat.words →
    ((i : ℕ) → i ≢ page → MayBecome (value_in held (guest_values seat.view.role) i) (value_in held' (guest_values seat'.view.role) i)) → faults ≤ faults' →
    sum_by missed_at seat.view.steps + nf ≤ sum_by missed_at seat'.view.steps + nf' → Keeps (seen_of seat held faults nf) page (seen_of seat' held' faults' nf')
keeps_of seat seat' held held' faults faults' nf nf' page words others risen missing =
    record { pages = ap (λ q. q.pages) words; others = others; faults = risen; misses = missing; quiet = refl; tells = refl }

pub take-ok : (seat : Seated) (page : ℕ) (word : Fields) (parts : BodyParts) (faults nf : ℕ) → is_permitted word ≡ true → word.busy ≡ false →
    MayBecome (value_at (guest_values seat.view.role) page) (actual word (lent_body parts)) →
    Follows (seen_of seat None faults nf) (Take page (Ok tt)) (seen_of (record seat { view = claimed_view seat.view page word (lent_body parts) })
    (Some (record { page = page; word = word; parts = parts; touched = false })) faults nf)
take-ok seat page word parts faults nf permitted free may =
    let h : HeldState = record { page = page; word = word; parts = parts; touched = false } in
    let value : PageValue = actual word (lent_body parts) in
    let after : Seated = record seat { view = claimed_view seat.view page word (lent_body parts) } in
    let vs : List PageValue = guest_values after.view.role in
    let count = one-more seat.view.steps (Tried page word) 0 (miss-0 page word free) in
    let here : value_in (Some h) vs page ≡ value = in-here h vs in (
      keeps_of seat after None (Some h) faults faults nf nf page refl (λ i o. inl (in-other h vs i o ∙ known-other seat.view.role page i value o)) (omega arith) (omega (arith, count)),
      omega (arith, count),
      (λ q. never q),
      (refl, refl),
      subst (λ (q : PageValue). MayBecome (value_at (guest_values seat.view.role) page) q) (sym here) may,
      subst IsValue (sym here) (actual-is_value word (lent_body parts) permitted),
      (λ q. never q),
      subst (λ (q : PageValue). IsPlaced word.content q) (sym here) (actual-placed word (lent_body parts) permitted),
    )

pub take-busy : (seat seat' : Seated) (page raw faults nf : ℕ) → seat'.words ≡ seat.words → FindsBusy page seat.view raw seat'.view →
    Follows (seen_of seat None faults nf) (Take page (Err record { word = raw })) (seen_of seat' None faults nf)
take-busy seat seat' page raw faults nf words f =
    let steps : seat'.view.steps ≡ seat.view.steps ++ Tried page f.word ∷ [] = ap (λ (q : SeatView). q.steps) f.view in
    let role : seat'.view.role ≡ seat.view.role = ap (λ (q : SeatView). q.role) f.view in
    let count : sum_by missed_at seat'.view.steps ≡ sum_by missed_at seat.view.steps + 1 = ap (sum_by missed_at) steps ∙ one-more seat.view.steps (Tried page f.word) 1 (miss-1 page f.word f.busy) in
    let same : (i : ℕ) → value_at (guest_values seat'.view.role) i ≡ value_at (guest_values seat.view.role) i = λ i. ap (λ (r : Role). value_at (guest_values r) i) role in (
      keeps_of seat seat' None None faults faults nf nf page words (λ i o. inl (same i)) (omega arith) (omega (arith, count)),
      record { not_quiet = refl; risen = omega (arith, count) },
      record { word = f.word; permitted = f.permitted; written = f.written; busy = f.busy },
      refl,
      inl (same page),
    )

-- a call on the held page changes no other
same-others : (h h' : HeldState) (vs : List PageValue) → h'.page ≡ h.page → (i : ℕ) → i ≢ h.page → MayBecome (value_in (Some h) vs i) (value_in (Some h') vs i)
same-others h h' vs e i o = inl (in-other h' vs i (λ q. o (q ∙ e)) ∙ sym (in-other h vs i o))

held-keeps : (seat : Seated) (h h' : HeldState) (faults faults' nf nf' : ℕ) → h'.page ≡ h.page → faults ≤ faults' → nf ≤ nf' →
    Keeps (seen_of seat (Some h) faults nf) h.page (seen_of seat (Some h') faults' nf')
held-keeps seat h h' faults faults' nf nf' e f n =
    keeps_of seat seat (Some h) (Some h') faults faults' nf nf' h.page refl (same-others h h' (guest_values seat.view.role) e) f (omega arith)

pub give : (seat : Seated) (h : HeldState) (code : Order) (faults nf : ℕ) → IsHeldPage h →
    Follows (seen_of seat (Some h) faults nf) (Give h.page code (record { usage = h.word.usage; content = h.word.content; done = order_done h.word code }))
    (seen_of seat (Some (record h { word = after_order h.word code })) faults nf)
give seat h code faults nf is =
    let h' : HeldState = record h { word = after_order h.word code } in
    let vs : List PageValue = guest_values seat.view.role in
    let body : Body = lent_body h.parts in (
      held-keeps seat h h' faults faults nf nf refl (omega arith) (omega arith),
      refl,
      (λ q. never q),
      (refl, refl),
      record { usage = ap (λ (q : PageValue). q.usage) (sym (in-here h vs)); content = refl },
      subst (λ (q : PageValue). OrderStep q code (order_done h.word code) (value_in (Some h') vs h.page)) (sym (in-here h vs))
          (subst (λ (q : PageValue). OrderStep (actual h.word body) code (order_done h.word code) q) (sym (in-here h' vs)) (ordered-value h.word body code)),
      after_order-content h.word code,
      subst (λ (q : PageValue). IsPlaced (after_order h.word code).content q) (sym (in-here h' vs)) (actual-placed (after_order h.word code) body (ordered-permitted h.word code is.permitted)),
    )

pub change : (seat : Seated) (h : HeldState) (faults nf : ℕ) →
    Follows (seen_of seat (Some h) faults nf) (TakeChange h.page h.word.changed) (seen_of seat (Some (record h { word = change_taken h.word })) faults nf)
change seat h faults nf =
    let h' : HeldState = record h { word = change_taken h.word } in
    let vs : List PageValue = guest_values seat.view.role in (
      held-keeps seat h h' faults faults nf nf refl (omega arith) (omega arith),
      refl,
      (λ q. never q),
      (refl, refl),
      ap (λ (q : PageValue). q.changed) (sym (in-here h vs)),
      in-here h' vs ∙ ap (λ (q : PageValue). let p : PageValue = record q { changed = false } in p) (sym (in-here h vs)),
      refl,
    )

pub fetch : (seat : Seated) (h : HeldState) (off : ℕ) (bytes : List ℕ) (faults nf : ℕ) → IsHeldPage h → h.touched ≡ true → bytes ≡ take (length bytes) (drop off (frame_bytes (lent_body h.parts))) →
    Follows (seen_of seat (Some h) faults nf) (Fetch h.page off bytes) (seen_of seat (Some h) faults nf)
fetch seat h off bytes faults nf is touched read =
    let vs : List PageValue = guest_values seat.view.role in
    let all : bytes_of (value_in (Some h) vs h.page).contents ≡ frame_bytes (lent_body h.parts) =
    ap (λ (p : PageValue). bytes_of p.contents) (in-here h vs) ∙ resident-bytes h.word (lent_body h.parts) (is.resident touched) in (
      held-keeps seat h h faults faults nf nf refl (omega arith) (omega arith),
      refl,
      (λ q. never q),
      ((refl, refl), refl),
      (λ q. read ∙ ap (λ (b : List ℕ). take (length bytes) (drop off b)) (sym all)),
      refl,
    )

pub store : (seat : Seated) (h h' : HeldState) (off : ℕ) (bytes : List ℕ) (faults nf : ℕ) → IsHeldPage h → h.touched ≡ true → h'.page ≡ h.page → h'.touched ≡ h.touched → h'.word ≡ stored_word h.word →
    lent_body h'.parts ≡ stored_body (lent_body h.parts) off bytes → Follows (seen_of seat (Some h) faults nf) (Store h.page off bytes) (seen_of seat (Some h') faults nf)
store seat h h' off bytes faults nf is touched page still word body =
    let vs : List PageValue = guest_values seat.view.role in (
      held-keeps seat h h' faults faults nf nf page (omega arith) (omega arith),
      refl,
      (λ q. never q),
      (ap (λ (p : ℕ). Some p) page, still),
      at-held h h' vs page ∙ ap (λ (w : Fields). actual w (lent_body h'.parts)) word ∙ ap (λ (b : Body). actual (stored_word h.word) b) body
          ∙ stored-actual h.word (lent_body h.parts) off bytes (is.resident touched) ∙ ap (λ (q : PageValue). stored_value true q off bytes) (sym (in-here h vs)),
      ap (λ (w : Fields). w.content) word,
    )

pub put : (seat : Seated) (h : HeldState) (faults nf : ℕ) → h.page < length (guest_values seat.view.role) →
    Follows (seen_of seat (Some h) faults nf) (Put h.page) (seen_of (record seat { view = left_view seat.view h.page (actual h.word (lent_body h.parts)) }) None faults nf)
put seat h faults nf inside =
    let value : PageValue = actual h.word (lent_body h.parts) in
    let after : Seated = record seat { view = left_view seat.view h.page value } in
    let count = one-more seat.view.steps (Left h.page) 0 refl in (
      keeps_of seat after (Some h) None faults faults nf nf h.page refl (λ i o. inl (known-other seat.view.role h.page i value o ∙ sym (in-other h (guest_values seat.view.role) i o))) (omega arith)
          (omega (arith, count)),
      omega (arith, count),
      (λ q. never q),
      refl,
      known-here seat.view.role h.page value inside ∙ sym (in-here h (guest_values seat.view.role)),
    )

whole_bytes : (loan : Option LoanView) → IfSome loan (λ l. length l.frame.bytes ≡ PAGE) → is_some (option_map (λ (l : LoanView). l.frame.bytes) loan) ≡ true →
    length (unwrap_or (option_map (λ (l : LoanView). l.frame.bytes) loan) []) ≡ PAGE
whole_bytes None whole there = absurd (let bad : false ≡ true = there in cc)
whole_bytes (Some l) whole there = whole

whole_frame : (h : HeldState) → IsHeldPage h → is_resident h.word.content ≡ true → length (frame_bytes (lent_body h.parts)) ≡ PAGE
whole_frame h is resident = whole_bytes h.parts.loan is.whole.bytes (is.fits ∙ resident)

touched-actual : (c : Content) (w : Fields) (body : Body) → w.content ≡ c → is_discarded w ≡ false →
    actual (touched_word w) (touched_body c body) ≡ record (actual w body) { contents = touched_contents true (actual w body).contents }
touched-actual Resident w body is there = grind arith
touched-actual Preserved w body is there = grind arith
touched-actual Zero w body is there = grind arith

pub touch-ok : (seat : Seated) (h h' : HeldState) (faults faults' nf : ℕ) → IsHeldPage h' → IsTouched h h' → is_discarded h.word ≡ false → faults ≤ faults' →
    Follows (seen_of seat (Some h) faults nf) (Touch h.page (Ok tt)) (seen_of seat (Some h') faults' nf)
touch-ok seat h h' faults faults' nf is t there falls =
    let vs : List PageValue = guest_values seat.view.role in
    let here = at-held h h' vs t.page in
    let resident : is_resident h'.word.content ≡ true = is.resident t.touched in
    let value : actual h'.word (lent_body h'.parts) ≡ record (actual h.word (lent_body h.parts)) { contents = touched_contents true (actual h.word (lent_body h.parts)).contents } =
    ap (λ (w : Fields). actual w (lent_body h'.parts)) t.word ∙ ap (λ (b : Body). actual (touched_word h.word) b) t.body ∙ touched-actual h.word.content h.word (lent_body h.parts) refl there in (
      held-keeps seat h h' faults faults' nf nf t.page falls (omega arith),
      refl,
      (ap (λ (p : ℕ). Some p) t.page, t.touched),
      ap (λ (q : PageValue). is_lost q.contents) (in-here h vs) ∙ lost-discarded h.word (lent_body h.parts) ∙ there,
      here ∙ value ∙ ap (λ (q : PageValue). let p : PageValue = record q { contents = touched_contents true q.contents } in p) (sym (in-here h vs)),
      (λ q. subst (λ (p : PageValue). IsWhole p.contents) (sym here)
          (record { all = frame_bytes (lent_body h'.parts); are = resident-contents h'.word (lent_body h'.parts) resident; size = whole_frame h' is resident })),
      ap (λ (w : Fields). w.content) t.word,
      (λ r q. never q),
    )

pub touch-trapped : (seat : Seated) (h : HeldState) (t : Trap) (faults faults' nf nf' : ℕ) → IsHeldPage h → TrapCause t h faults faults' → faults ≤ faults' → nf < 2 ^ 64 → nf' ≡ raised_at (Err t) nf →
    Follows (seen_of seat (Some h) faults nf) (Touch h.page (Err t)) (seen_of seat (Some h) faults' nf')
touch-trapped seat h Discarded faults faults' nf nf' is cause falls few e =
    let vs : List PageValue = guest_values seat.view.role in (
      held-keeps seat h h faults faults' nf nf' refl falls (omega (arith, e)),
      ap (λ (n : ℕ). sum_by missed_at seat.view.steps + n) e,
      (λ q. never q),
      ((refl, refl), refl),
      ap (λ (q : PageValue). is_lost q.contents) (in-here h vs) ∙ lost-discarded h.word (lent_body h.parts) ∙ cause,
      refl,
    )
touch-trapped seat h Paging faults faults' nf nf' is (there, absent, rose) falls few e =
    let vs : List PageValue = guest_values seat.view.role in (
      held-keeps seat h h faults faults' nf nf' refl falls (omega (arith, e)),
      ap (λ (n : ℕ). sum_by missed_at seat.view.steps + n) e,
      ((refl, refl), refl),
      ap (λ (q : PageValue). is_lost q.contents) (in-here h vs) ∙ lost-discarded h.word (lent_body h.parts) ∙ there,
      not-touched h.touched (is_resident h.word.content) is.resident absent,
      rose,
      refl,
      absent,
    )
touch-trapped seat h (NoFrame looks) faults faults' nf nf' is (there, absent) falls few e =
    let vs : List PageValue = guest_values seat.view.role in (
      held-keeps seat h h faults faults' nf nf' refl falls (omega (arith, e, few)),
      record { not_quiet = refl; risen = omega (arith, e, few) },
      ((refl, refl), refl),
      ap (λ (q : PageValue). is_lost q.contents) (in-here h vs) ∙ lost-discarded h.word (lent_body h.parts) ∙ there,
      not-touched h.touched (is_resident h.word.content) is.resident absent,
      refl,
      absent,
    )
