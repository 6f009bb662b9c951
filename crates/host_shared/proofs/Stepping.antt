-- What each call makes of a bound storage, as a whole.
use Rattle.std.specs.Prelude.{◌≡◌, ℕ, ◌^◌, ◌<◌, ◌≤◌, List, length, take, drop, Bool, true, false, Option, Some, None, Result, Ok, Err, is_some, slice_get, slice_index_or, refl}
use Rattle.std.specs.Option.{ForSome}
use Rattle.std.proofs.lemmas.Option.{slice_get_within, get_or_from_slice_get, same_Some}
use Rattle.std.proofs.Common.{arith, ap, sym, subst, ◌∙◌}
use Rattle.cmm_io.specs.FailurePlan.{FailurePlan}
use Rattle.essa_state.specs.declared.fields.Fields.{Fields}
use Rattle.essa_state.specs.declared.orders.Order.{Order}
use Rattle.essa_state.specs.declared.orders.Old.{Old}
use Rattle.essa_state.specs.StateWord.{is_permitted, is_resident, is_discarded, is_unused}
use Rattle.essa_state.specs.Orders.{order_done, after_order}
use Rattle.essa_state.specs.PageValue.{PageValue, MayBecome}
use Rattle.essa_state.specs.PageBody.{Body, actual, frame_bytes}
use Rattle.cmm_storage.specs.declared.storage.Trap.{Trap}
use Rattle.cmm_storage.specs.declared.storage.Trap.TheVariants.{Discarded, Paging, NoFrame}
use Rattle.cmm_storage.specs.StorageCall.{Take, Touch, Give, TakeChange, Fetch, Store, Put}
use Rattle.cmm_storage.specs.StorageView.{Follows}
use Rattle.state_words.specs.SeatView.{Hold, SeatView, WordsView, Seated, IsGuestSeat, HoldsPage, value_at, guest_values}
use Rattle.state_words.specs.Accesses.{Leads, touched_word, touched_body, stored_word, stored_body, change_taken, CanTouch, AllowsStore}
use Rattle.state_words.specs.Laws.AccessLaws.{Leads-same, Leads-ordered, Leads-touched, Leads-stored, Leads-change_taken}
use Rattle.state_words.specs.Steps.{FindsBusy, claimed_view, left_view}
use Rattle.frame_pool.specs.Seats.{PoolId, PoolSeatView}
use Rattle.host_shared.specs.Bodies.{BodyParts, lent_body, body_house}
use Rattle.host_shared.specs.Holding.{HeldState, IsHeldPage, IsTouched, TrapCause}
use Rattle.host_shared.specs.Reclaiming.{CanReclaim}
use Rattle.host_shared.specs.Searching.{SearchCause}
use Rattle.host_shared.specs.PagerCalls.{PagerCalled}
use Rattle.host_shared.specs.Touching.{TouchMakes, TouchCause, LeavesSupply}
use Rattle.host_shared.specs.Binding.{StorageState, page_of_hold, held_page, value_in, is_touched, IsTied, IsStorage}
use Rattle.host_shared.specs.Binding.{seen_of, storage_view, StaysBound, LeavesHost, TakesFound, content_of, Uses, BoundStep, IsBoundTo, raised_at}
use Rattle.host_shared.proofs.Seats.{words_housed}
use Rattle.host_shared.proofs.Following.{in-here, take-ok, take-busy, give, change, fetch, store, put, touch-ok, touch-trapped}

-- the storage with another seat of the guest, host, held page and count
abbrev pub with_all : StorageState → Seated → List Seated → PoolSeatView → FailurePlan → Option HeldState → ℕ → StorageState
with_all s seat hosts pool pager held nf = record { guest = s.guest; seat = seat; hosts = hosts; pool = pool; pager = pager; held = held; no_frames = nf }

abbrev pub with_held : StorageState → Option HeldState → StorageState
with_held s held = record s { held = held }

abbrev pub with_seat : StorageState → Seated → Option HeldState → StorageState
with_seat s seat held = record s { seat = seat; held = held }

pub same_seat : (a b : Seated) → a.words ≡ b.words → a.view ≡ b.view → a ≡ b
same_seat a b words view = λ i. record { words = words i; view = view i }

pub page_held : (held : Option HeldState) (h : HeldState) (page : ℕ) → held ≡ Some h → held_page held ≡ Some page → h.page ≡ page
page_held held h page e r = same_Some h.page page (ap held_page (sym e) ∙ r)

-- a fact on the page that is held
pub at-call : (P : Option HeldState → ℕ → Type 0) (held : Option HeldState) (h : HeldState) (page : ℕ) → held ≡ Some h → held_page held ≡ Some page → P (Some h) h.page → P held page
at-call P held h page e r p = subst (λ q. P q page) (sym e) (subst (P (Some h)) (page_held held h page e r) p)

never_none : {A : Type 0} (h : HeldState) → None ≡ Some h → A
never_none h e = absurd cc

none_leaves : (s : StorageState) (seat : Seated) (held : Option HeldState) → LeavesHost s (with_seat s seat held)
none_leaves s seat held = record { hosts = refl; pool = refl; pager = refl }

stays : (s : StorageState) (seat : Seated) (held : Option HeldState) → seat.words ≡ s.seat.words → StaysBound s (with_seat s seat held)
stays s seat held words = record { guest = refl; words = words; hosts = refl; pool = refl; pager = (0, refl) }

-- the guest's seat has given its page back, or has claimed none
pub tied_none : (seat : Seated) → seat.view.held ≡ None → IsTied seat None
tied_none seat none = record {
  page = ap page_of_hold none;
  leads = λ hold h e f. never_none h f;
  housed = λ h f. never_none h f;
}

pub sound_none : (s : StorageState) (seat : Seated) → IsStorage s → IsGuestSeat seat → seat.view.held ≡ None → IsStorage (with_seat s seat None)
sound_none s seat is guest none = record { seat = guest; tied = tied_none seat none; sound = λ h e. never_none h e; few = is.few }

tied_taken : (seat : Seated) (page : ℕ) (word : Fields) (parts : BodyParts) (h : HeldState) → seat.view.held ≡ Some (record { page = page; word = word; body = lent_body parts }) →
    body_house parts ≡ seat.words.house → h ≡ record { page = page; word = word; parts = parts; touched = false } → IsTied seat (Some h)
tied_taken seat page word parts h there housed is = record {
  page = ap page_of_hold there ∙ ap (λ (q : HeldState). Some q.page) (sym is);
  leads = λ hold k e f.
      let first : Hold = record { page = page; word = word; body = lent_body parts } in
      let same : first ≡ hold = same_Some first hold (sym there ∙ e) in
      let held : h ≡ k = same_Some h k f in
      subst (λ (q : HeldState). Leads hold.word hold.body q.word (lent_body q.parts)) (sym is ∙ held)
      (subst (λ (q : Hold). Leads q.word q.body word (lent_body parts)) same (Leads-same word (lent_body parts)));
  housed = λ k f. subst (λ (q : HeldState). body_house q.parts ≡ seat.words.house) (sym is ∙ same_Some h k f) housed;
}

pub sound_taken : (s : StorageState) (seat : Seated) (page : ℕ) (word : Fields) (parts : BodyParts) (h : HeldState) → IsStorage s → IsGuestSeat seat →
    seat.view.held ≡ Some (record { page = page; word = word; body = lent_body parts }) → body_house parts ≡ seat.words.house →
    h ≡ record { page = page; word = word; parts = parts; touched = false } → IsHeldPage h → IsStorage (with_seat s seat (Some h))
sound_taken s seat page word parts h is guest there housed made held = record {
  seat = guest;
  tied = tied_taken seat page word parts h there housed made;
  sound = λ k e. subst IsHeldPage (same_Some h k e) held;
  few = is.few;
}

-- what a call on the held page leads to, its word and its body, from those that the claim found
abbrev pub Goes : HeldState → HeldState → Type 0
Goes h k = (w : Fields) (b : Body) → Leads w b h.word (lent_body h.parts) → Leads w b k.word (lent_body k.parts)

pub sound_held : (s : StorageState) (hosts : List Seated) (pool : PoolSeatView) (pager : FailurePlan) (h k : HeldState) (nf : ℕ) → IsStorage s → s.held ≡ Some h → k.page ≡ h.page →
    k.parts.pool ≡ h.parts.pool → Goes h k → IsHeldPage k → nf < 2 ^ 64 → IsStorage (with_all s s.seat hosts pool pager (Some k) nf)
sound_held s hosts pool pager h k nf is held page of_pool goes sound few = record {
  seat = is.seat;
  tied = record {
    page = is.tied.page ∙ ap held_page held ∙ ap (λ (p : ℕ). Some p) (sym page);
    leads = λ hold x e f. subst (λ (q : HeldState). Leads hold.word hold.body q.word (lent_body q.parts)) (same_Some k x f) (goes hold.word hold.body (is.tied.leads hold h e held));
    housed = λ x f. subst (λ (q : HeldState). body_house q.parts ≡ s.seat.words.house) (same_Some k x f) (ap (λ (q : PoolId). q.table) of_pool ∙ is.tied.housed h held);
  };
  sound = λ x f. subst IsHeldPage (same_Some k x f) sound;
  few = few;
}

takes_found : (s : StorageState) (seat : Seated) (page : ℕ) (word : Fields) (parts : BodyParts) (h : HeldState) → word.busy ≡ false →
    seat.view ≡ claimed_view s.seat.view page word (lent_body parts) → h ≡ record { page = page; word = word; parts = parts; touched = false } → TakesFound page s (with_seat s seat (Some h))
takes_found s seat page word parts h free view made = record {
  held = h;
  is_held = refl;
  of_page = ap (λ (q : HeldState). q.page) made;
  free = ap (λ (q : HeldState). q.word.busy) made ∙ free;
  untouched = ap (λ (q : HeldState). q.touched) made;
  claimed = subst (λ (q : HeldState). seat.view ≡ claimed_view s.seat.view page q.word (lent_body q.parts)) (sym made) view;
}

pub step_take-ok : (s : StorageState) (seat : Seated) (page : ℕ) (word : Fields) (parts : BodyParts) (h : HeldState) → s.held ≡ None → is_permitted word ≡ true → word.busy ≡ false →
    MayBecome (value_at (guest_values s.seat.view.role) page) (actual word (lent_body parts)) → seat.words ≡ s.seat.words → seat.view ≡ claimed_view s.seat.view page word (lent_body parts) →
    h ≡ record { page = page; word = word; parts = parts; touched = false } → BoundStep s (Take page (Ok tt)) (with_seat s seat (Some h))
step_take-ok s seat page word parts h none permitted free may words view made =
    let claimed : Seated = record { words = s.seat.words; view = claimed_view s.seat.view page word (lent_body parts) } in
    let first : HeldState = record { page = page; word = word; parts = parts; touched = false } in
    let follows : Follows (seen_of s.seat None s.pager.faults s.no_frames) (Take page (Ok tt)) (seen_of claimed (Some first) s.pager.faults s.no_frames) =
    take-ok s.seat page word parts s.pager.faults s.no_frames permitted free may in
    record {
      follows = subst (λ (q : Option HeldState). Follows (seen_of s.seat q s.pager.faults s.no_frames) (Take page (Ok tt)) (storage_view (with_seat s seat (Some h)))) (sym none)
          (subst (λ (q : HeldState). Follows (seen_of s.seat None s.pager.faults s.no_frames) (Take page (Ok tt)) (seen_of seat (Some q) s.pager.faults s.no_frames)) (sym made)
          (subst (λ (q : Seated). Follows (seen_of s.seat None s.pager.faults s.no_frames) (Take page (Ok tt)) (seen_of q (Some first) s.pager.faults s.no_frames))
          (sym (same_seat seat claimed words view)) follows));
      counted = refl;
      stays = stays s seat (Some h) words;
      uses = (none_leaves s seat (Some h), takes_found s seat page word parts h free view made);
    }

pub step_take-busy : (s : StorageState) (seat : Seated) (page raw : ℕ) → s.held ≡ None → seat.words ≡ s.seat.words → FindsBusy page s.seat.view raw seat.view →
    BoundStep s (Take page (Err record { word = raw })) (with_seat s seat None)
step_take-busy s seat page raw none words found = record {
  follows = subst (λ (q : Option HeldState). Follows (seen_of s.seat q s.pager.faults s.no_frames) (Take page (Err record { word = raw })) (seen_of seat None s.pager.faults s.no_frames)) (sym none)
      (take-busy s.seat seat page raw s.pager.faults s.no_frames words found);
  counted = refl;
  stays = stays s seat None words;
  uses = (none_leaves s seat None, sym none, found);
}

pub step_give : (s : StorageState) (h k : HeldState) (page : ℕ) (code : Order) (old : Old) → IsStorage s → s.held ≡ Some h → held_page s.held ≡ Some page →
    old ≡ record { usage = h.word.usage; content = h.word.content; done = order_done h.word code } → k ≡ record h { word = after_order h.word code } →
    BoundStep s (Give page code old) (with_held s (Some k))
step_give s h k page code old is held at answer made = record {
  follows = at-call (λ q p. Follows (seen_of s.seat q s.pager.faults s.no_frames) (Give p code old) (seen_of s.seat (Some k) s.pager.faults s.no_frames)) s.held h page held at
      (subst (λ (q : Old). Follows (seen_of s.seat (Some h) s.pager.faults s.no_frames) (Give h.page code q) (seen_of s.seat (Some k) s.pager.faults s.no_frames)) (sym answer)
      (subst (λ (q : HeldState). Follows (seen_of s.seat (Some h) s.pager.faults s.no_frames)
      (Give h.page code (record { usage = h.word.usage; content = h.word.content; done = order_done h.word code })) (seen_of s.seat (Some q) s.pager.faults s.no_frames)) (sym made)
      (give s.seat h code s.pager.faults s.no_frames (is.sound h held))));
  counted = refl;
  stays = stays s s.seat (Some k) refl;
  uses = (none_leaves s s.seat (Some k), refl);
}

pub step_change : (s : StorageState) (h k : HeldState) (page : ℕ) (changed : Bool) → s.held ≡ Some h → held_page s.held ≡ Some page → changed ≡ h.word.changed →
    k ≡ record h { word = change_taken h.word } → BoundStep s (TakeChange page changed) (with_held s (Some k))
step_change s h k page changed held at answer made = record {
  follows = at-call (λ q p. Follows (seen_of s.seat q s.pager.faults s.no_frames) (TakeChange p changed) (seen_of s.seat (Some k) s.pager.faults s.no_frames)) s.held h page held at
      (subst (λ (q : Bool). Follows (seen_of s.seat (Some h) s.pager.faults s.no_frames) (TakeChange h.page q) (seen_of s.seat (Some k) s.pager.faults s.no_frames)) (sym answer)
      (subst (λ (q : HeldState). Follows (seen_of s.seat (Some h) s.pager.faults s.no_frames) (TakeChange h.page h.word.changed) (seen_of s.seat (Some q) s.pager.faults s.no_frames)) (sym made)
      (change s.seat h s.pager.faults s.no_frames)));
  counted = refl;
  stays = stays s s.seat (Some k) refl;
  uses = (none_leaves s s.seat (Some k), refl);
}

pub step_fetch : (s : StorageState) (h : HeldState) (page off : ℕ) (bytes : List ℕ) → IsStorage s → s.held ≡ Some h → held_page s.held ≡ Some page → h.touched ≡ true →
    bytes ≡ take (length bytes) (drop off (frame_bytes (lent_body h.parts))) → BoundStep s (Fetch page off bytes) s
step_fetch s h page off bytes is held at touched read = record {
  follows = at-call (λ q p. Follows (seen_of s.seat q s.pager.faults s.no_frames) (Fetch p off bytes) (seen_of s.seat q s.pager.faults s.no_frames)) s.held h page held at
      (fetch s.seat h off bytes s.pager.faults s.no_frames (is.sound h held) touched read);
  counted = refl;
  stays = record { guest = refl; words = refl; hosts = refl; pool = refl; pager = (0, refl) };
  uses = refl;
}

pub step_store : (s : StorageState) (h k : HeldState) (page off : ℕ) (bytes : List ℕ) → IsStorage s → s.held ≡ Some h → held_page s.held ≡ Some page → h.touched ≡ true → k.page ≡ h.page →
    k.touched ≡ h.touched → k.word ≡ stored_word h.word → lent_body k.parts ≡ stored_body (lent_body h.parts) off bytes → BoundStep s (Store page off bytes) (with_held s (Some k))
step_store s h k page off bytes is held at touched same still word body = record {
  follows = at-call (λ q p. Follows (seen_of s.seat q s.pager.faults s.no_frames) (Store p off bytes) (seen_of s.seat (Some k) s.pager.faults s.no_frames)) s.held h page held at
      (store s.seat h k off bytes s.pager.faults s.no_frames (is.sound h held) touched same still word body);
  counted = refl;
  stays = stays s s.seat (Some k) refl;
  uses = (none_leaves s s.seat (Some k), refl);
}

pub step_put : (s : StorageState) (seat : Seated) (h : HeldState) (page : ℕ) → IsStorage s → s.held ≡ Some h → held_page s.held ≡ Some page → h.page < length (guest_values s.seat.view.role) →
    seat.words ≡ s.seat.words → seat.view ≡ left_view s.seat.view page (actual h.word (lent_body h.parts)) → BoundStep s (Put page) (with_seat s seat None)
step_put s seat h page is held at inside words view =
    let left : Seated = record { words = s.seat.words; view = left_view s.seat.view h.page (actual h.word (lent_body h.parts)) } in
    let here : h.page ≡ page = page_held s.held h page held at in
    let same : left ≡ seat = sym (same_seat seat left words (view ∙ ap (λ (p : ℕ). left_view s.seat.view p (actual h.word (lent_body h.parts))) (sym here))) in
    record {
      follows = at-call (λ q p. Follows (seen_of s.seat q s.pager.faults s.no_frames) (Put p) (seen_of seat None s.pager.faults s.no_frames)) s.held h page held at
          (subst (λ (q : Seated). Follows (seen_of s.seat (Some h) s.pager.faults s.no_frames) (Put h.page) (seen_of q None s.pager.faults s.no_frames)) same
          (put s.seat h s.pager.faults s.no_frames inside));
      counted = refl;
      stays = stays s seat None words;
      uses = (none_leaves s seat None, ap (λ (q : SeatView). q.steps) view);
    }

-- a touch, which may need the host
stays_touched : (s : StorageState) (words : List WordsView) (pool : PoolId) (hosts : List Seated) (seat : PoolSeatView) (pager : FailurePlan) (held : Option HeldState) (nf : ℕ) →
    CanReclaim words pool s.hosts s.pool → CanReclaim words pool hosts seat → PagerCalled s.pager pager → StaysBound s (with_all s s.seat hosts seat pager held nf)
stays_touched s words pool hosts seat pager held nf before after calls = record {
  guest = refl;
  words = refl;
  hosts = after.seats_are ∙ sym before.seats_are;
  pool = after.of_pool ∙ sym before.of_pool;
  pager = calls;
}

leaves_host : (s : StorageState) (hosts : List Seated) (seat : PoolSeatView) (pager : FailurePlan) (held : Option HeldState) (nf : ℕ) →
    LeavesSupply s.hosts hosts s.pool seat s.pager pager → LeavesHost s (with_all s s.seat hosts seat pager held nf)
leaves_host s hosts seat pager held nf leaves = record { hosts = leaves.0; pool = leaves.1; pager = leaves.2 }

pub step_touch-ok : (s : StorageState) (words : List WordsView) (pool : PoolId) (hosts : List Seated) (seat : PoolSeatView) (pager : FailurePlan) (h k : HeldState) (page : ℕ) → s.held ≡ Some h →
    held_page s.held ≡ Some page → CanReclaim words pool s.hosts s.pool → CanReclaim words pool hosts seat → PagerCalled s.pager pager → s.pager.faults ≤ pager.faults → IsHeldPage k → IsTouched h k →
    is_discarded h.word ≡ false → (is_resident h.word.content ≡ true → LeavesSupply s.hosts hosts s.pool seat s.pager pager) →
    BoundStep s (Touch page (Ok tt)) (with_all s s.seat hosts seat pager (Some k) s.no_frames)
step_touch-ok s words pool hosts seat pager h k page held at before after calls falls is touched there resident = record {
  follows = at-call (λ q p. Follows (seen_of s.seat q s.pager.faults s.no_frames) (Touch p (Ok tt)) (seen_of s.seat (Some k) pager.faults s.no_frames)) s.held h page held at
      (touch-ok s.seat h k s.pager.faults pager.faults s.no_frames is touched there falls);
  counted = refl;
  stays = stays_touched s words pool hosts seat pager (Some k) s.no_frames before after calls;
  uses = (
    refl,
    (λ x e. (k, refl, subst (λ (q : HeldState). IsTouched q k) (same_Some h x (sym held ∙ e)) touched)),
    (λ r. leaves_host s hosts seat pager (Some k) s.no_frames (resident (ap (λ (q : Option HeldState). is_resident (content_of q)) (sym held) ∙ r))),
  );
}

uses_trapped : (s : StorageState) (hosts : List Seated) (seat : PoolSeatView) (pager : FailurePlan) (h k : HeldState) (nf page : ℕ) (t : Trap) → s.held ≡ Some h → k ≡ h →
    TrapCause t h s.pager.faults pager.faults → (is_discarded h.word ≡ true → LeavesSupply s.hosts hosts s.pool seat s.pager pager) →
    SearchCause t s.guest page s.hosts hosts s.pool.dry seat.dry → Uses s (Touch page (Err t)) (with_all s s.seat hosts seat pager (Some k) nf)
uses_trapped s hosts seat pager h k nf page Discarded held same cause discarded searched =
    (refl, ap (λ (q : HeldState). Some q) same ∙ sym held, leaves_host s hosts seat pager (Some k) nf (discarded cause))
uses_trapped s hosts seat pager h k nf page Paging held same cause discarded searched = (refl, ap (λ (q : HeldState). Some q) same ∙ sym held)
uses_trapped s hosts seat pager h k nf page (NoFrame looks) held same cause discarded searched = (refl, ap (λ (q : HeldState). Some q) same ∙ sym held, searched)

pub step_touch-trapped : (s : StorageState) (words : List WordsView) (pool : PoolId) (hosts : List Seated) (seat : PoolSeatView) (pager : FailurePlan) (h k : HeldState) (page nf : ℕ) (t : Trap) →
    IsStorage s → s.held ≡ Some h → held_page s.held ≡ Some page → CanReclaim words pool s.hosts s.pool → CanReclaim words pool hosts seat → PagerCalled s.pager pager → s.pager.faults ≤ pager.faults →
    k ≡ h →
    TrapCause t h s.pager.faults pager.faults → SearchCause t s.guest page s.hosts hosts s.pool.dry seat.dry → nf ≡ raised_at (Err t) s.no_frames →
    (is_discarded h.word ≡ true → LeavesSupply s.hosts hosts s.pool seat s.pager pager) → BoundStep s (Touch page (Err t)) (with_all s s.seat hosts seat pager (Some k) nf)
step_touch-trapped s words pool hosts seat pager h k page nf t is held at before after calls falls same cause searched counts discarded = record {
  follows = at-call (λ q p. Follows (seen_of s.seat q s.pager.faults s.no_frames) (Touch p (Err t)) (seen_of s.seat (Some k) pager.faults nf)) s.held h page held at
      (subst (λ (q : HeldState). Follows (seen_of s.seat (Some h) s.pager.faults s.no_frames) (Touch h.page (Err t)) (seen_of s.seat (Some q) pager.faults nf)) (sym same)
      (touch-trapped s.seat h t s.pager.faults pager.faults s.no_frames nf (is.sound h held) cause falls is.few counts));
  counted = counts;
  stays = stays_touched s words pool hosts seat pager (Some k) nf before after calls;
  uses = uses_trapped s hosts seat pager h k nf page t held same cause discarded searched;
}

-- the storage stays bound where the host's side does
pub bound_on : (words : List WordsView) (pool : PoolId) (s t : StorageState) → IsBoundTo words pool s → CanReclaim words pool t.hosts t.pool → t.guest ≡ s.guest → t.seat.words ≡ s.seat.words →
    IsBoundTo words pool t
bound_on words pool s t b can guest seat = record { can = can; guest = bound_guest b.guest; few = b.few }
  where
    bound_guest : slice_get words s.guest ≡ Some s.seat.words → slice_get words t.guest ≡ Some t.seat.words
    bound_guest e = ap (λ (g : ℕ). slice_get words g) guest ∙ e ∙ ap (λ (w : WordsView). Some w) (sym seat)

pub bound_leaves : (words : List WordsView) (pool : PoolId) (s t : StorageState) → IsBoundTo words pool s → LeavesHost s t → t.guest ≡ s.guest → t.seat.words ≡ s.seat.words → IsBoundTo words pool t
bound_leaves words pool s t b leaves guest seat =
    bound_on words pool s t b
    (subst (λ (q : PoolSeatView). CanReclaim words pool t.hosts q) (sym leaves.pool) (subst (λ (q : List Seated). CanReclaim words pool q s.pool) (sym leaves.hosts) b.can)) guest seat

pub goes_ordered : (h k : HeldState) (code : Order) → k ≡ record h { word = after_order h.word code } → Goes h k
goes_ordered h k code made w b l = subst (λ (q : HeldState). Leads w b q.word (lent_body q.parts)) (sym made) (Leads-ordered w b code h.word (lent_body h.parts) l)

pub goes_changed : (h k : HeldState) → k ≡ record h { word = change_taken h.word } → Goes h k
goes_changed h k made w b l = subst (λ (q : HeldState). Leads w b q.word (lent_body q.parts)) (sym made) (Leads-change_taken w b h.word (lent_body h.parts) l)

both : (w : Fields) (b : Body) (x y : Fields) (p q : Body) → y ≡ x → q ≡ p → Leads w b x p → Leads w b y q
both w b x y p q word body l = subst (λ (z : Body). Leads w b y z) (sym body) (subst (λ (z : Fields). Leads w b z p) (sym word) l)

pub goes_touched : (h k : HeldState) → IsTouched h k → CanTouch h.word → Goes h k
goes_touched h k t can w b l =
    both w b (touched_word h.word) k.word (touched_body h.word.content (lent_body h.parts)) (lent_body k.parts) t.word t.body (Leads-touched w b h.word (lent_body h.parts) can l)

pub goes_stored : (h k : HeldState) (off : ℕ) (bytes : List ℕ) → AllowsStore h.word off bytes → k.word ≡ stored_word h.word → lent_body k.parts ≡ stored_body (lent_body h.parts) off bytes → Goes h k
goes_stored h k off bytes can word body w b l =
    both w b (stored_word h.word) k.word (stored_body (lent_body h.parts) off bytes) (lent_body k.parts) word body (Leads-stored w b off bytes h.word (lent_body h.parts) can l)

-- what the guest sees of the held page is what its word says
pub held_usage : (s : StorageState) (h : HeldState) (page : ℕ) → s.held ≡ Some h → held_page s.held ≡ Some page → ((storage_view s).values page).usage ≡ h.word.usage
held_usage s h page held at =
    at-call (λ q p. (value_in q (guest_values s.seat.view.role) p).usage ≡ h.word.usage) s.held h page held at (ap (λ (v : PageValue). v.usage) (in-here h (guest_values s.seat.view.role)))

pub held_touched : (s : StorageState) (h : HeldState) → s.held ≡ Some h → (storage_view s).touched ≡ true → h.touched ≡ true
held_touched s h held touched = ap is_touched (sym held) ∙ touched

some_hold : (o : Option Hold) (page : ℕ) → page_of_hold o ≡ Some page → (hold : Hold) × (o ≡ Some hold) × (hold.page ≡ page)
some_hold None page e = absurd (let bad : None ≡ Some page = e in cc)
some_hold (Some hold) page e = (hold, refl, same_Some hold.page page e)

-- the guest's seat holds the page that the storage holds
pub holds_page : (seat : Seated) (held : Option HeldState) (page : ℕ) → IsTied seat held → held_page held ≡ Some page → HoldsPage seat.view page
holds_page seat held page tied at =
    let there = some_hold seat.view.held page (tied.page ∙ at) in record { hold = there.0; held = there.1; of_page = there.2 }

-- and what it found leads to what the storage has
pub leads_held : (seat : Seated) (held : Option HeldState) (h : HeldState) (word : Fields) (parts : BodyParts) → IsTied seat held → held ≡ Some h → word ≡ h.word → parts ≡ h.parts →
    ForSome seat.view.held (λ hold. Leads hold.word hold.body word (lent_body parts))
leads_held seat held h word parts tied is w p hold e =
    both hold.word hold.body h.word word (lent_body h.parts) (lent_body parts) w (ap lent_body p) (tied.leads hold h e is)

-- the pool is the house of the guest's own words
pub own_house : (words : List WordsView) (pool : PoolId) (s : StorageState) → IsBoundTo words pool s → s.seat.words.house ≡ pool.table
own_house words pool s b =
    let within : s.guest < length words = slice_get_within words s.guest s.seat.words b.guest in
    let there : slice_index_or words s.guest s.seat.words ≡ s.seat.words = get_or_from_slice_get words s.guest s.seat.words s.seat.words b.guest in
    ap (λ (w : WordsView). w.house) (sym there) ∙ words_housed words pool s.hosts s.pool b.can s.guest s.seat.words within

pub own_words : (words : List WordsView) (pool : PoolId) (s : StorageState) (w : WordsView) → IsBoundTo words pool s → slice_get words s.guest ≡ Some w → s.seat.words ≡ w
own_words words pool s w b there = same_Some s.seat.words w (sym b.guest ∙ there)

pub raised_few : (answer : Result Unit Trap) (count after : ℕ) → count < 2 ^ 64 → after ≡ raised_at answer count → after < 2 ^ 64
raised_few (Ok done) count after few e = omega (arith, few, e)
raised_few (Err Discarded) count after few e = omega (arith, few, e)
raised_few (Err Paging) count after few e = omega (arith, few, e)
raised_few (Err (NoFrame looks)) count after few e = omega (arith, few, e)

pub sound_touched : (s : StorageState) (hosts : List Seated) (pool : PoolSeatView) (pager : FailurePlan) (h k : HeldState) (page nf : ℕ) (answer : Result Unit Trap) → IsStorage s → s.held ≡ Some h →
    held_page s.held ≡ Some page → is_unused ((storage_view s).values page).usage ≡ false → TouchMakes answer h k → nf ≡ raised_at answer s.no_frames →
    IsStorage (with_all s s.seat hosts pool pager (Some k) nf)
sound_touched s hosts pool pager h k page nf (Ok done) is held at used (touched, sound, there) counts =
    let can : CanTouch h.word = record { used = ap is_unused (sym (held_usage s h page held at)) ∙ used; there = there } in
    sound_held s hosts pool pager h k nf is held touched.page touched.pool (goes_touched h k touched can) sound (raised_few (Ok tt) s.no_frames nf is.few counts)
sound_touched s hosts pool pager h k page nf (Err trap) is held at used same counts =
    sound_held s hosts pool pager h k nf is held (ap (λ (q : HeldState). q.page) same) (ap (λ (q : HeldState). q.parts.pool) same)
    (λ w b l. subst (λ (q : HeldState). Leads w b q.word (lent_body q.parts)) (sym same) l) (subst IsHeldPage (sym same) (is.sound h held)) (raised_few (Err trap) s.no_frames nf is.few counts)

pub step_touch : (s : StorageState) (words : List WordsView) (pool : PoolId) (hosts : List Seated) (seat : PoolSeatView) (pager : FailurePlan) (h k : HeldState) (page nf : ℕ)
    (answer : Result Unit Trap) →
    IsStorage s → s.held ≡ Some h → held_page s.held ≡ Some page → CanReclaim words pool s.hosts s.pool → CanReclaim words pool hosts seat → PagerCalled s.pager pager → s.pager.faults ≤ pager.faults →
    TouchMakes answer h k → TouchCause answer h s.pager.faults pager.faults s.guest page s.hosts hosts s.pool.dry seat.dry → nf ≡ raised_at answer s.no_frames →
    (is_discarded h.word ≡ true → LeavesSupply s.hosts hosts s.pool seat s.pager pager) → (is_resident h.word.content ≡ true → LeavesSupply s.hosts hosts s.pool seat s.pager pager) →
    BoundStep s (Touch page answer) (with_all s s.seat hosts seat pager (Some k) nf)
step_touch s words pool hosts seat pager h k page nf (Ok done) is held at before after calls falls (touched, sound, there) cause counts discarded resident =
    subst (λ (n : ℕ). BoundStep s (Touch page (Ok done)) (with_all s s.seat hosts seat pager (Some k) n)) (sym counts)
    (step_touch-ok s words pool hosts seat pager h k page held at before after calls falls sound touched there resident)
step_touch s words pool hosts seat pager h k page nf (Err trap) is held at before after calls falls same (cause, searched) counts discarded resident =
    step_touch-trapped s words pool hosts seat pager h k page nf trap is held at before after calls falls same cause searched counts discarded

pub own_there : (words : List WordsView) (pool : PoolId) (s : StorageState) → IsBoundTo words pool s → is_some (slice_get words s.guest) ≡ true
own_there words pool s b = ap is_some b.guest

pub put_inside : (s : StorageState) (h : HeldState) → IsStorage s → s.held ≡ Some h → h.page < length (guest_values s.seat.view.role)
put_inside s h is held =
    let there = some_hold s.seat.view.held h.page (is.tied.page ∙ ap held_page held) in
    let placed : there.0.page < s.seat.words.pages = is.seat.placed there.0 there.1 in
    let valued : length (guest_values s.seat.view.role) ≡ s.seat.words.pages = is.seat.valued in
    let same : there.0.page ≡ h.page = there.2 in
    omega (arith, placed, valued, same)

no_hold : (o : Option Hold) → page_of_hold o ≡ None → o ≡ None
no_hold None e = refl
no_hold (Some hold) e = absurd (let bad : Some hold.page ≡ None = e in cc)

-- the guest's seat holds no page where the storage holds none
pub seat_free : (seat : Seated) (held : Option HeldState) → IsTied seat held → held ≡ None → seat.view.held ≡ None
seat_free seat held tied none = no_hold seat.view.held (tied.page ∙ ap held_page none)

-- calls that don't need the host leave the storage bound
pub bound_give : (words : List WordsView) (pool : PoolId) (s t : StorageState) (page : ℕ) (code : Order) (old : Old) → IsBoundTo words pool s → BoundStep s (Give page code old) t →
    IsBoundTo words pool t
bound_give words pool s t page code old b step = bound_leaves words pool s t b step.uses.0 step.stays.guest step.stays.words

pub bound_change : (words : List WordsView) (pool : PoolId) (s t : StorageState) (page : ℕ) (changed : Bool) → IsBoundTo words pool s → BoundStep s (TakeChange page changed) t → IsBoundTo words pool t
bound_change words pool s t page changed b step = bound_leaves words pool s t b step.uses.0 step.stays.guest step.stays.words

pub bound_store : (words : List WordsView) (pool : PoolId) (s t : StorageState) (page off : ℕ) (bytes : List ℕ) → IsBoundTo words pool s → BoundStep s (Store page off bytes) t → IsBoundTo words pool t
bound_store words pool s t page off bytes b step = bound_leaves words pool s t b step.uses.0 step.stays.guest step.stays.words

-- the seats can reclaim on with another seat at the pool
pub can_seat : (words : List WordsView) (pool : PoolId) (seats : List Seated) (seat after : PoolSeatView) → CanReclaim words pool seats seat → after.pool ≡ seat.pool →
    CanReclaim words pool seats after
can_seat words pool seats seat after can same = record { seats_are = can.seats_are; none_held = can.none_held; of_pool = same ∙ can.of_pool; housed = can.housed }
