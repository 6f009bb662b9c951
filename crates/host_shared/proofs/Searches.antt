-- Looks of a search, one after another, and guests, one after another.
use Rattle.std.specs.Prelude.{◌≡◌, ℕ, ◌+◌, ◌-◌, ◌<◌, ◌≤◌, List, [], ◌∷◌, ◌++◌, length, map, Bool, true, false, Option, Some, refl, slice_set, slice_index_or, if◌then◌else◌}
use Rattle.std.specs.List.{sum_by, flat_map}
use Rattle.std.proofs.Common.{arith, ap, sym, subst, inl, inr, ◌∙◌, append_assoc, get_or-set_other, get_or-set_same}
use Rattle.std.proofs.lemmas.Bool.{cases_lt}
use Rattle.std.proofs.lemmas.List.{get_or_default, map-append}
use Rattle.std.proofs.lemmas.List.Concat.{flat_map-append}
use Rattle.std.proofs.lemmas.List.Elements.{All-append}
use Rattle.std.proofs.lemmas.List.Sums.{sum_by-append, sum_by-set}
use Rattle.cmm_types.specs.declared.page.Move.{Move}
use Rattle.cmm_types.specs.declared.page.Move.TheVariants.{Discard, Preserve}
use Rattle.state_words.specs.SeatView.{SeatStep, Tried, Moved, SeatView, Seated}
use Rattle.host_shared.specs.Looks.{Look, look_steps, GrewByLooks, is_page, pages_but, freed_in}
use Rattle.host_shared.specs.Reclaiming.{IsToMove, Reclaims, freed_of}
use Rattle.host_shared.specs.Searching.{FreesFrame, FindsNothing, tried_at, tried_in, tried_in_all, round_but, held_of, LooksIn, LooksRound, FoundNone, Searched}
use Rattle.host_shared.specs.declared.reclaim.Outcome.{Outcome}
use Rattle.host_shared.specs.declared.reclaim.Outcome.TheVariants.{Discarded, Preserved, Left, Busy}
use Rattle.host_shared.proofs.Looking.{page_more, page_skipped, looks_none, looks_more, freed_more}

joined : (IsKind : Look → Type 0) (ps qs : List ℕ) (v w x : SeatView) → GrewByLooks IsKind ps v w → GrewByLooks IsKind qs w x → GrewByLooks IsKind (ps ++ qs) v x
joined IsKind ps qs v w x a b = record {
  looks = a.looks ++ b.looks;
  steps = b.steps ∙ ap (λ (s : List SeatStep). s ++ flat_map look_steps b.looks) a.steps ∙ append_assoc v.steps (flat_map look_steps a.looks) (flat_map look_steps b.looks)
      ∙ ap (λ (s : List SeatStep). v.steps ++ s) (sym (flat_map-append look_steps a.looks b.looks));
  pages_are = map-append (λ (k : Look). k.page) a.looks b.looks ∙ ap (λ (q : List ℕ). q ++ map (λ (k : Look). k.page) b.looks) a.pages_are ∙ ap (λ (q : List ℕ). ps ++ q) b.pages_are;
  each = All-append IsKind a.looks b.looks a.each b.each;
}

tried_once : (l : Look) → sum_by tried_at (look_steps l) ≡ 1
tried_once l = at l.word.busy
  where
    at : (b : Bool) → sum_by tried_at (Tried l.page l.word ∷ (if b then [] else Moved l.page l.action ∷ [])) ≡ 1
    at true = refl
    at false = refl

one_look : (outcome : Outcome) (page : ℕ) (v w : SeatView) (faults risen dry dried : ℕ) (one : Reclaims outcome page true v w faults risen) → FindsNothing one.look → dried ≡ dry + freed_of outcome →
    LooksIn (page ∷ []) v w dry dried 1
one_look outcome page v w faults risen dry dried one nothing dries =
    let looked : GrewByLooks FindsNothing (one.look.page ∷ []) v w = looks_more FindsNothing [] v v w one.look (looks_none FindsNothing v) one.steps nothing in
    let freed : freed_in w ≡ freed_in v + freed_of outcome = freed_more outcome page true v w faults risen one in
    let tried : tried_in w ≡ tried_in v + sum_by tried_at (look_steps one.look) = ap (sum_by tried_at) one.steps ∙ sum_by-append tried_at v.steps (look_steps one.look) in
    let once : sum_by tried_at (look_steps one.look) ≡ 1 = tried_once one.look in
    record {
      looked = subst (λ (p : ℕ). GrewByLooks FindsNothing (p ∷ []) v w) one.of_page looked;
      dry_is = omega (arith, freed, dries);
      looks_are = omega (arith, tried, once);
    }

frees : (l : Look) (action : Move) → IsToMove true l.word action → l.action ≡ Some action → FreesFrame l
frees l action move by = record {
  urgent = record { free = move.free; resident = move.resident; not_spared = move.not_spared; chosen = refl };
  moved = by ∙ ap (λ (a : Move). Some a) (sym move.chosen);
}

-- a look that frees a frame, and a take that finds the pool dry
pub look_discards : (page : ℕ) (v w : SeatView) (faults risen dry dried : ℕ) → Reclaims Discarded page true v w faults risen → dried ≡ dry + 1 → LooksIn (page ∷ []) v w dry dried 1
look_discards page v w faults risen dry dried one dries = one_look Discarded page v w faults risen dry dried one (inr (inr (frees one.look Discard one.cause.0 one.cause.1))) dries

pub look_preserves : (page : ℕ) (v w : SeatView) (faults risen dry dried : ℕ) → Reclaims Preserved page true v w faults risen → dried ≡ dry + 1 → LooksIn (page ∷ []) v w dry dried 1
look_preserves page v w faults risen dry dried one dries = one_look Preserved page v w faults risen dry dried one (inr (inr (frees one.look Preserve one.cause.0 one.cause.1))) dries

pub look_leaves : (page raw : ℕ) (v w : SeatView) (faults risen dry dried : ℕ) → Reclaims (Left raw) page true v w faults risen → dried ≡ dry → LooksIn (page ∷ []) v w dry dried 1
look_leaves page raw v w faults risen dry dried one same =
    one_look (Left raw) page v w faults risen dry dried one (inr (inl (record { free = one.cause.1; absent = one.cause.2; as_found = one.cause.3 }))) (omega (arith, same))

pub look_is_busy : (page raw : ℕ) (v w : SeatView) (faults risen dry dried : ℕ) → Reclaims (Busy raw) page true v w faults risen → dried ≡ dry → LooksIn (page ∷ []) v w dry dried 1
look_is_busy page raw v w faults risen dry dried one same = one_look (Busy raw) page v w faults risen dry dried one (inl one.cause.1) (omega (arith, same))

pub looks_in_none : (v : SeatView) (dry : ℕ) → LooksIn [] v v dry dry 0
looks_in_none v dry = record { looked = looks_none FindsNothing v; dry_is = refl; looks_are = omega arith }

pub looks_in_both : (ps qs : List ℕ) (v w x : SeatView) (dry mid dried looks more : ℕ) → LooksIn ps v w dry mid looks → LooksIn qs w x mid dried more → LooksIn (ps ++ qs) v x dry dried (looks + more)
looks_in_both ps qs v w x dry mid dried looks more a b = record {
  looked = joined FindsNothing ps qs v w x a.looked b.looked;
  dry_is = omega (arith, a.dry_is, b.dry_is);
  looks_are = omega (arith, a.looks_are, b.looks_are);
}

-- the pages from one on and below another
abbrev pub Between : Option ℕ → (from page : ℕ) → SeatView → SeatView → ℕ → ℕ → ℕ → Type 0
Between skip from page v w dry dried looks = LooksIn (pages_but skip from (page - from)) v w dry dried looks

pub between_none : (skip : Option ℕ) (from : ℕ) (v : SeatView) (dry : ℕ) → Between skip from from v v dry dry 0
between_none skip from v dry =
    let none : 0 ≡ from - from = omega arith in
    subst (λ (n : ℕ). LooksIn (pages_but skip from n) v v dry dry 0) none (looks_in_none v dry)

pub between_skips : (skip : Option ℕ) (from page : ℕ) (v w : SeatView) (dry dried looks : ℕ) → from ≤ page → is_page skip page ≡ true → Between skip from page v w dry dried looks →
    Between skip from (page + 1) v w dry dried looks
between_skips skip from page v w dry dried looks above same before =
    let count : page + 1 - from ≡ page - from + 1 = omega (arith, above) in
    let at : page ≡ from + (page - from) = omega (arith, above) in
    subst (λ (ps : List ℕ). LooksIn ps v w dry dried looks) (sym (ap (pages_but skip from) count ∙ page_skipped skip from (page - from) page at same)) before

pub between_looks : (skip : Option ℕ) (from page : ℕ) (v w x : SeatView) (dry mid dried looks more : ℕ) → from ≤ page → is_page skip page ≡ false → Between skip from page v w dry mid looks →
    LooksIn (page ∷ []) w x mid dried more → more ≡ 1 → Between skip from (page + 1) v x dry dried (looks + 1)
between_looks skip from page v w x dry mid dried looks more above other before one once =
    let count : page + 1 - from ≡ page - from + 1 = omega (arith, above) in
    let at : page ≡ from + (page - from) = omega (arith, above) in
    let both : LooksIn (pages_but skip from (page - from) ++ page ∷ []) v x dry dried (looks + more) =
    looks_in_both (pages_but skip from (page - from)) (page ∷ []) v w x dry mid dried looks more before one in
    subst (λ (n : ℕ). Between skip from (page + 1) v x dry dried (looks + n)) once
    (subst (λ (ps : List ℕ). LooksIn ps v x dry dried (looks + more)) (sym (ap (pages_but skip from) count ∙ page_more skip from (page - from) page at other)) both)

tried_set : (seats : List Seated) (guest n : ℕ) (d s : Seated) → guest < length seats → n + tried_in (slice_index_or seats guest d).view ≡ tried_in s.view →
    n + tried_in_all seats ≡ tried_in_all (slice_set seats guest s)
tried_set seats guest n d s inside more = let total = sum_by-set (λ (q : Seated). tried_in q.view) seats guest s d inside in omega (arith, total, more)

-- one guest's seat looked round
pub searched_one : (guest page at start : ℕ) (old : List Seated) (d s : Seated) (dry dried looks : ℕ) → at < length old → start ≤ (slice_index_or old at d).words.pages →
    LooksIn (round_but (held_of guest page at) start (slice_index_or old at d).words.pages) (slice_index_or old at d).view s.view dry dried looks →
    Searched guest page at (at + 1) old (slice_set old at s) dry dried looks
searched_one guest page at start old d s dry dried looks inside begins looked = record {
  each = λ other e above below.
      let here : other ≡ at = omega (arith, above, below) in
      subst (λ (k : ℕ). LooksRound (held_of guest page k) (slice_index_or old k e) (slice_index_or (slice_set old at s) k e)) (sym here)
      (subst (λ (q : Seated). LooksRound (held_of guest page at) (slice_index_or old at e) q) (sym (get_or-set_same old at s e inside))
      (subst (λ (q : Seated). LooksRound (held_of guest page at) q s) (get_or_default old at d e inside) (start, begins, looked.looked)));
  below = λ other e under. get_or-set_other old at other s e (omega (arith, under));
  above = λ other e over. get_or-set_other old at other s e (omega (arith, over));
  dry_is = let total = sum_by-set (λ (q : Seated). freed_in q.view) old at s d inside in let one = looked.dry_is in omega (arith, total, one);
  looks_are = tried_set old at looks d s inside looked.looks_are;
}

pub searched_none : (guest page from : ℕ) (old : List Seated) (dry : ℕ) → Searched guest page from from old old dry dry 0
searched_none guest page from old dry = record {
  each = λ other e above below. absurd (omega (arith, above, below));
  below = λ other e under. refl;
  above = λ other e over. refl;
  dry_is = refl;
  looks_are = omega arith;
}

-- guests behind those that were looked at
pub searched_on : (guest page from mid upto : ℕ) (old now new : List Seated) (dry between dried looks more : ℕ) → from ≤ mid → mid ≤ upto → Searched guest page from mid old now dry between looks →
    Searched guest page mid upto now new between dried more → Searched guest page from upto old new dry dried (looks + more)
searched_on guest page from mid upto old now new dry between dried looks more first last a b = record {
  each = λ other e above below. elim (cases_lt other mid) [
    | inl under ↦ subst (λ (q : Seated). LooksRound (held_of guest page other) (slice_index_or old other e) q) (sym (b.below other e under)) (a.each other e above under)
    | inr over ↦ subst (λ (q : Seated). LooksRound (held_of guest page other) q (slice_index_or new other e)) (a.above other e over) (b.each other e over below)
  ];
  below = λ other e under. b.below other e (omega (arith, under, first)) ∙ a.below other e under;
  above = λ other e over. b.above other e over ∙ a.above other e (omega (arith, over, last));
  dry_is = omega (arith, a.dry_is, b.dry_is);
  looks_are = omega (arith, a.looks_are, b.looks_are);
}

-- the last guests first, and then those before them
pub searched_round : (guest page mid upto : ℕ) (old now new : List Seated) (dry between dried looks more : ℕ) → mid ≤ upto → Searched guest page mid upto old now dry between looks →
    Searched guest page 0 mid now new between dried more → Searched guest page 0 upto old new dry dried (looks + more)
searched_round guest page mid upto old now new dry between dried looks more last a b = record {
  each = λ other e above below. elim (cases_lt other mid) [
    | inl under ↦ subst (λ (q : Seated). LooksRound (held_of guest page other) q (slice_index_or new other e)) (a.below other e under) (b.each other e above under)
    | inr over ↦ subst (λ (q : Seated). LooksRound (held_of guest page other) (slice_index_or old other e) q) (sym (b.above other e over)) (a.each other e over below)
  ];
  below = λ other e under. absurd (omega (arith, under));
  above = λ other e over. b.above other e (omega (arith, over, last)) ∙ a.above other e over;
  dry_is = omega (arith, a.dry_is, b.dry_is);
  looks_are = omega (arith, a.looks_are, b.looks_are);
}

-- a take that found the pool dry, and then a look at every guest
pub found_none : (guest page guests : ℕ) (old new : List Seated) (dry between dried looks : ℕ) → guests ≡ length old → between ≡ dry + 1 → Searched guest page 0 guests old new between dried looks →
    FoundNone guest page old new dry dried looks
found_none guest page guests old new dry between dried looks all first s = record {
  each = λ other e below. s.each other e (omega arith) (omega (arith, below, all));
  dry_is = omega (arith, s.dry_is, first);
  looks_are = s.looks_are;
}
