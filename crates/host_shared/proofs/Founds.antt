-- What one step of a search makes of what the next one finds.
use Rattle.std.specs.Prelude.{◌≡◌, ℕ, ◌+◌, ◌-◌, ◌<◌, ◌≤◌, List, [], ◌∷◌, length, true, false, Option, Result, Ok, Err, IfErr, slice_set, slice_index_or}
use Rattle.std.proofs.Common.{arith, ap, sym, subst, ◌∙◌}
use Rattle.std.proofs.lemmas.List.{get_or_default}
use Rattle.cmm_io.specs.Faults.{HasRisen}
use Rattle.essa_state.specs.StateWord.{is_discarded, is_resident}
use Rattle.cmm_storage.specs.declared.storage.Trap.{Trap}
use Rattle.cmm_storage.specs.declared.storage.Trap.TheVariants.{Paging as Trapped}
use Rattle.state_words.specs.SeatView.{SeatView, WordsView, Seated}
use Rattle.host_shared.specs.Reclaiming.{Reclaims}
use Rattle.host_shared.specs.Holding.{HeldState, TrapCause}
use Rattle.host_shared.specs.Searching.{LooksIn, SearchCause, Searched, FoundNone, round_but, held_of}
use Rattle.host_shared.specs.Touching.{TouchCause}
use Rattle.host_shared.specs.Finding.{WherePaging, WhereNothing}
use Rattle.host_shared.specs.declared.reclaim.Outcome.TheVariants.{Discarded, Preserved}
use Rattle.host_shared.specs.declared.search.Found.{Found}
use Rattle.host_shared.specs.declared.search.Found.TheVariants.{Frame, Paging, Nothing}
use Rattle.host_shared.proofs.Searches.{look_discards, look_preserves, searched_one, found_none}

pub where_never : (found : Found) (P : Type 0) → WherePaging found ⊥ → WherePaging found P
where_never (Frame loan) P never = tt
where_never Paging P never = absurd never
where_never (Nothing looks) P never = tt

pub where_once : (found : Found) (dry dried : ℕ) → WhereNothing found (λ looks. (looks ≡ 1) × (dried ≡ dry + 1)) → WhereNothing found (λ looks. looks ≡ 1)
where_once (Frame loan) dry dried found = tt
where_once Paging dry dried found = tt
where_once (Nothing looks) dry dried found = found.0

pub where_discarded : (found : Found) (page : ℕ) (v w : SeatView) (faults risen dry mid dried : ℕ) → Reclaims Discarded page true v w faults risen → mid ≡ dry →
    WhereNothing found (λ looks. (looks ≡ 1) × (dried ≡ mid + 1)) → WhereNothing found (LooksIn (page ∷ []) v w dry dried)
where_discarded (Frame loan) page v w faults risen dry mid dried one same found = tt
where_discarded Paging page v w faults risen dry mid dried one same found = tt
where_discarded (Nothing looks) page v w faults risen dry mid dried one same found =
    let dries : dried ≡ dry + 1 = found.1 ∙ ap (λ (n : ℕ). n + 1) same in
    subst (LooksIn (page ∷ []) v w dry dried) (sym found.0) (look_discards page v w faults risen dry dried one dries)

pub where_preserved : (found : Found) (page : ℕ) (v w : SeatView) (faults risen dry mid dried : ℕ) → Reclaims Preserved page true v w faults risen → mid ≡ dry →
    WhereNothing found (λ looks. (looks ≡ 1) × (dried ≡ mid + 1)) → WhereNothing found (LooksIn (page ∷ []) v w dry dried)
where_preserved (Frame loan) page v w faults risen dry mid dried one same found = tt
where_preserved Paging page v w faults risen dry mid dried one same found = tt
where_preserved (Nothing looks) page v w faults risen dry mid dried one same found =
    let dries : dried ≡ dry + 1 = found.1 ∙ ap (λ (n : ℕ). n + 1) same in
    subst (LooksIn (page ∷ []) v w dry dried) (sym found.0) (look_preserves page v w faults risen dry dried one dries)

pub risen_from : (faults mid risen : ℕ) → faults ≤ mid → HasRisen mid risen → HasRisen faults risen
risen_from faults mid risen falls rises = omega (arith, falls, rises)

pub where_risen : (found : Found) (faults mid risen : ℕ) → faults ≤ mid → WherePaging found (HasRisen mid risen) → WherePaging found (HasRisen faults risen)
where_risen (Frame loan) faults mid risen falls rises = tt
where_risen Paging faults mid risen falls rises = risen_from faults mid risen falls rises
where_risen (Nothing looks) faults mid risen falls rises = tt

-- looks from a page on, and then before it
pub where_most : (found : Found) (looks start pages : ℕ) → start ≤ pages → looks ≤ pages - start → WhereNothing found (λ sum. sum ≤ looks + start) → WhereNothing found (λ sum. sum ≤ pages)
where_most (Frame loan) looks start pages within few all = tt
where_most Paging looks start pages within few all = tt
where_most (Nothing sum) looks start pages within few all = omega (arith, within, few, all)

-- a take that found the pool dry, and then a look at every guest
pub where_found : (found : Found) (guest page guests : ℕ) (old new : List Seated) (dry between dried : ℕ) → guests ≡ length old → between ≡ dry + 1 →
    WhereNothing found (Searched guest page 0 guests old new between dried) → WhereNothing found (FoundNone guest page old new dry dried)
where_found (Frame loan) guest page guests old new dry between dried all first searched = tt
where_found Paging guest page guests old new dry between dried all first searched = tt
where_found (Nothing looks) guest page guests old new dry between dried all first searched = found_none guest page guests old new dry between dried looks all first searched

-- a page that was brought, or a pager that failed
pub brought : (answer : Result Unit Trap) (h : HeldState) (faults mid risen guest page : ℕ) (old new : List Seated) (dry dried : ℕ) → IfErr answer (λ trap. trap ≡ Trapped) →
    IfErr answer (λ trap. HasRisen mid risen) →
    faults ≤ mid → is_discarded h.word ≡ false → is_resident h.word.content ≡ false → TouchCause answer h faults risen guest page old new dry dried
brought (Ok done) h faults mid risen guest page old new dry dried paging rises falls there absent = tt
brought (Err trap) h faults mid risen guest page old new dry dried paging rises falls there absent =
    subst (λ (t : Trap). TrapCause t h faults risen × SearchCause t guest page old new dry dried) (sym paging) ((there, absent, risen_from faults mid risen falls rises), tt)

-- a look at one guest, round its pages
pub where_searched : (found : Found) (guest page at start : ℕ) (old : List Seated) (s t : Seated) (skip : Option ℕ) (pages dry dried : ℕ) → at < length old → s ≡ slice_index_or old at s →
    skip ≡ held_of guest page at → s.words.pages ≡ pages → start ≤ pages → WhereNothing found (LooksIn (round_but skip start pages) s.view t.view dry dried) →
    WhereNothing found (Searched guest page at (at + 1) old (slice_set old at t) dry dried)
where_searched (Frame loan) guest page at start old s t skip pages dry dried inside is other all begins looked = tt
where_searched Paging guest page at start old s t skip pages dry dried inside is other all begins looked = tt
where_searched (Nothing looks) guest page at start old s t skip pages dry dried inside is other all begins looked =
    let there : Seated = slice_index_or old at s in
    let first : LooksIn (round_but (held_of guest page at) start pages) s.view t.view dry dried looks =
    subst (λ (o : Option ℕ). LooksIn (round_but o start pages) s.view t.view dry dried looks) other looked in
    let second : LooksIn (round_but (held_of guest page at) start s.words.pages) s.view t.view dry dried looks =
    subst (λ (n : ℕ). LooksIn (round_but (held_of guest page at) start n) s.view t.view dry dried looks) (sym all) first in
    let third : LooksIn (round_but (held_of guest page at) start there.words.pages) there.view t.view dry dried looks =
    subst (λ (q : Seated). LooksIn (round_but (held_of guest page at) start q.words.pages) q.view t.view dry dried looks) is second in
    let within : start ≤ there.words.pages = subst (λ (q : Seated). start ≤ q.words.pages) is (subst (λ (n : ℕ). start ≤ n) (sym all) begins) in
    searched_one guest page at start old s t dry dried looks inside within third

pub where_few : (found : Found) (words : List WordsView) (at : ℕ) (w d : WordsView) → at < length words → w ≡ slice_index_or words at w → WhereNothing found (λ looks. looks ≤ w.pages) →
    WhereNothing found (λ looks. looks ≤ (slice_index_or words at d).pages)
where_few (Frame loan) words at w d inside is few = tt
where_few Paging words at w d inside is few = tt
where_few (Nothing looks) words at w d inside is few = subst (λ (q : WordsView). looks ≤ q.pages) (is ∙ get_or_default words at w d inside) few
