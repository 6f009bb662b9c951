-- The chains of the entries that show a page are kept as entries are set and cleared.
use Rattle.std.proofs.Common.{◌≡◌, ◌≢◌, ℕ, zero, suc, ◌+◌, ◌<◌, Bool, true, false, cond, eqb, List, length, set, get_or, replicate, Option, Some, None}
use Rattle.std.proofs.Common.{◌⊎◌, inl, inr, refl, sym, ap, ◌∙◌, subst, zero-add, arith, ⊎_elim, count_by, MatchOption, [], ◌∷◌, ◌++◌, take, drop, IfSome}
use Rattle.std.proofs.lemmas.List.{length-set, length-replicate, get_or-set_same, get_or-set_other, get_or_past, get_or-replicate, get_or_read, set-get_or, take_at}
use Rattle.std.proofs.lemmas.List.Sums.{sum_by-cons}
use Rattle.std.proofs.Props.{props}
use Rattle.std.proofs.Math.Logic.{∥∥₁_elim}
use Rattle.std.proofs.lemmas.Bool.{cases_eq, cases_lt, eq-eqb, ne_eqb}
use Rattle.std.proofs.lemmas.Option.{same_Some}
use Rattle.guest_maps.specs.declared.slot.Pte.{Pte}
use Rattle.guest_maps.specs.MapsView.{shows}
use Rattle.guest_maps.specs.EntryChains.{page_shown, AreChains, AreLinked, HasChains, set_at, first_with}

-- ---- options of numbers

not_none : (a : ℕ) (o : Option ℕ) → o ≡ Some a → o ≢ None
not_none a o some none = cc

cases_some : (o : Option ℕ) (k : ℕ) → (o ≡ Some k) ⊎ (o ≢ Some k)
cases_some None k = inr (λ same. cc)
cases_some (Some a) k = ⊎_elim (λ same. inl (ap Some same)) (λ apart. inr (λ same. apart (same_Some a k same))) (cases_eq a k)

-- ---- chains over functions: a place leaves its chain

-- what the functions are after place `p`, which showed `page` with `b` before it and `n` after it, has left its chain
record HasLeft (shown first next before shown' first' next' before' : ℕ → Option ℕ) (p page : ℕ) (b n : Option ℕ) : Type 0 where
  gone : shown' p ≡ None
  others : (k : ℕ) → k ≢ p → shown' k ≡ shown k
  next_gone : next' p ≡ None
  next_of : (k : ℕ) → k ≢ p → b ≡ Some k → next' k ≡ n
  next_others : (k : ℕ) → k ≢ p → b ≢ Some k → next' k ≡ next k
  before_of : (k : ℕ) → n ≡ Some k → before' k ≡ b
  before_others : (k : ℕ) → n ≢ Some k → before' k ≡ before k
  first_of : b ≡ None → first' page ≡ n
  first_others : (other : ℕ) → other ≢ page → first' other ≡ first other
  first_same : (k : ℕ) → b ≡ Some k → first' page ≡ first page

left : (shown first next before shown' first' next' before' : ℕ → Option ℕ) (rank : ℕ → ℕ) (p page : ℕ) (b n : Option ℕ) → AreChains shown first next before rank → shown p ≡ Some page → before p ≡ b
    → next p ≡ n → HasLeft shown first next before shown' first' next' before' p page b n → AreChains shown' first' next' before' rank
left shown first next before shown' first' next' before' rank p page b n chains at at_b at_n after =
    record {
      follows = λ k later leads. follows k later leads (not_p k later leads) (cases_some b k);
      precedes = λ k earlier other there is. precedes k earlier other there is (shows_not_p k other there) (cases_some n k);
      leads = λ k other there none. leads k other there none (shows_not_p k other there) (cases_some n k) (cases_eq other page);
      starts = λ other k is. starts other k is (cases_eq other page) b refl;
    }
  where
    not_p : (k later : ℕ) → next' k ≡ Some later → k ≢ p
    not_p k later leads same = not_none later (next' k) leads (ap next' same ∙ after.next_gone)

    shows_not_p : (k other : ℕ) → shown' k ≡ Some other → k ≢ p
    shows_not_p k other there same = not_none other (shown' k) there (ap shown' same ∙ after.gone)

    -- the place before p leads to p
    to_p : (k : ℕ) → b ≡ Some k → next k ≡ Some p
    to_p k is = chains.precedes p k page at (at_b ∙ is)

    follows : (k later : ℕ) → next' k ≡ Some later → k ≢ p → (b ≡ Some k) ⊎ (b ≢ Some k) → (shown' k ≢ None) × (shown' later ≡ shown' k) × (before' later ≡ Some k) × (rank k < rank later)
    follows k later leads apart (inl is) =
        let n_is : n ≡ Some later = sym (after.next_of k apart is) ∙ leads in
        let one = chains.follows k p (to_p k is) in
        let two = chains.follows p later (at_n ∙ n_is) in
        let later_apart : later ≢ p = λ same. omega (arith, two.3, ap rank same) in (
          subst (λ s. s ≢ None) (sym (after.others k apart)) one.0,
          after.others later later_apart ∙ two.1 ∙ one.1 ∙ sym (after.others k apart),
          after.before_of later n_is ∙ is,
          omega (arith, one.3, two.3),
        )
    follows k later leads apart (inr is_not) =
        let one = chains.follows k later (sym (after.next_others k apart is_not) ∙ leads) in
        let later_apart : later ≢ p = λ same. is_not (sym at_b ∙ ap before (sym same) ∙ one.2) in
        let n_not : n ≢ Some later = λ same. apart (same_Some k p (sym one.2 ∙ (chains.follows p later (at_n ∙ same)).2)) in (
          subst (λ s. s ≢ None) (sym (after.others k apart)) one.0,
          after.others later later_apart ∙ one.1 ∙ sym (after.others k apart),
          after.before_others later n_not ∙ one.2,
          one.3,
        )

    precedes : (k earlier other : ℕ) → shown' k ≡ Some other → before' k ≡ Some earlier → k ≢ p → (n ≡ Some k) ⊎ (n ≢ Some k) → next' earlier ≡ Some k
    precedes k earlier other there is apart (inl n_is) =
        let b_is : b ≡ Some earlier = sym (after.before_of k n_is) ∙ is in
        let one = chains.follows earlier p (to_p earlier b_is) in
        after.next_of earlier (λ same. omega (arith, one.3, ap rank same)) b_is ∙ n_is
    precedes k earlier other there is apart (inr n_not) =
        let leads_k : next earlier ≡ Some k = chains.precedes k earlier other (sym (after.others k apart) ∙ there) (sym (after.before_others k n_not) ∙ is) in
        after.next_others earlier
        (λ same. n_not (sym at_n ∙ ap next (sym same) ∙ leads_k))
        (λ b_is. apart (same_Some k p (sym leads_k ∙ to_p earlier b_is)))
        ∙ leads_k

    leads : (k other : ℕ) → shown' k ≡ Some other → before' k ≡ None → k ≢ p → (n ≡ Some k) ⊎ (n ≢ Some k) → (other ≡ page) ⊎ (other ≢ page) → first' other ≡ Some k
    leads k other there none apart (inl n_is) _ =
        let b_none : b ≡ None = sym (after.before_of k n_is) ∙ none in
        let one = chains.follows p k (at_n ∙ n_is) in
        let same : other ≡ page = same_Some other page (sym there ∙ after.others k apart ∙ one.1 ∙ at) in
        ap first' same ∙ after.first_of b_none ∙ n_is
    leads k other there none apart (inr n_not) (inr other_page) =
        after.first_others other other_page ∙ chains.leads k other (sym (after.others k apart) ∙ there) (sym (after.before_others k n_not) ∙ none)
    leads k other there none apart (inr n_not) (inl same) =
        let is_first : first other ≡ Some k = chains.leads k other (sym (after.others k apart) ∙ there) (sym (after.before_others k n_not) ∙ none) in
        by_before b refl is_first
      where
        by_before : (o : Option ℕ) → b ≡ o → first other ≡ Some k → first' other ≡ Some k
        by_before None is is_first = absurd (apart (same_Some k p (sym is_first ∙ ap first same ∙ chains.leads p page at (at_b ∙ is))))
        by_before (Some e) is is_first = ap first' same ∙ after.first_same e is ∙ ap first (sym same) ∙ is_first

    starts : (other k : ℕ) → first' other ≡ Some k → (other ≡ page) ⊎ (other ≢ page) → (o : Option ℕ) → b ≡ o → (shown' k ≡ Some other) × (before' k ≡ None)
    starts other k is (inr apart) o b_is =
        let one = chains.starts other k (sym (after.first_others other apart) ∙ is) in
        let not_p : k ≢ p = λ same. apart (same_Some other page (sym one.0 ∙ ap shown same ∙ at)) in
        let n_not : n ≢ Some k = λ same. apart (same_Some other page (sym one.0 ∙ (chains.follows p k (at_n ∙ same)).1 ∙ at)) in
        (after.others k not_p ∙ one.0, after.before_others k n_not ∙ one.1)
    starts other k is (inl same) None b_is =
        let n_is : n ≡ Some k = sym (after.first_of b_is) ∙ ap first' (sym same) ∙ is in
        let one = chains.follows p k (at_n ∙ n_is) in
        let not_p : k ≢ p = λ equal. omega (arith, one.3, ap rank equal) in
        (after.others k not_p ∙ one.1 ∙ at ∙ ap Some (sym same), after.before_of k n_is ∙ b_is)
    starts other k is (inl same) (Some e) b_is =
        let one = chains.starts page k (sym (after.first_same e b_is) ∙ ap first' (sym same) ∙ is) in
        let not_p : k ≢ p = λ equal. not_none e b b_is (sym at_b ∙ ap before (sym equal) ∙ one.1) in
        let n_not : n ≢ Some k = λ n_is. not_none p (before k) (chains.follows p k (at_n ∙ n_is)).2 one.1 in
        (after.others k not_p ∙ one.0 ∙ ap Some (sym same), after.before_others k n_not ∙ one.1)

-- ---- chains over functions: a place joins a chain

-- what the functions are after place `p`, which showed nothing, has joined the chain of `page` before its first place `n`
record HasJoined (shown first next before shown' first' next' before' : ℕ → Option ℕ) (p page : ℕ) (n : Option ℕ) : Type 0 where
  here : shown' p ≡ Some page
  others : (k : ℕ) → k ≢ p → shown' k ≡ shown k
  next_here : next' p ≡ n
  next_others : (k : ℕ) → k ≢ p → next' k ≡ next k
  before_here : before' p ≡ None
  before_of : (k : ℕ) → k ≢ p → n ≡ Some k → before' k ≡ Some p
  before_others : (k : ℕ) → k ≢ p → n ≢ Some k → before' k ≡ before k
  first_here : first' page ≡ Some p
  first_others : (other : ℕ) → other ≢ page → first' other ≡ first other

-- the place that joins is the first of all
pub raised : (ℕ → ℕ) → ℕ → ℕ → ℕ
raised rank p k = cond (eqb k p) 0 (suc (rank k))

raised_here : (rank : ℕ → ℕ) (p : ℕ) → raised rank p p ≡ 0
unfolding raised
raised_here rank p = ap (λ b. cond b 0 (suc (rank p))) (eq-eqb p p refl)

raised_other : (rank : ℕ → ℕ) (p k : ℕ) → k ≢ p → raised rank p k ≡ suc (rank k)
unfolding raised
raised_other rank p k apart = ap (λ b. cond b 0 (suc (rank k))) (ne_eqb k p apart)

joined : (shown first next before shown' first' next' before' : ℕ → Option ℕ) (rank : ℕ → ℕ) (p page : ℕ) (n : Option ℕ) → AreChains shown first next before rank → shown p ≡ None → first page ≡ n
    → HasJoined shown first next before shown' first' next' before' p page n → AreChains shown' first' next' before' (raised rank p)
joined shown first next before shown' first' next' before' rank p page n chains at at_n after =
    record {
      follows = λ k later leads. follows k later leads (cases_eq k p);
      precedes = λ k earlier other there is. precedes k earlier other there is (cases_eq k p) (cases_some n k);
      leads = λ k other there none. leads k other there none (cases_eq k p) (cases_some n k);
      starts = λ other k is. starts other k is (cases_eq other page);
    }
  where
    shows_not_p : (k other : ℕ) → shown k ≡ Some other → k ≢ p
    shows_not_p k other there same = not_none other (shown k) there (ap shown same ∙ at)

    follows : (k later : ℕ) → next' k ≡ Some later → (k ≡ p) ⊎ (k ≢ p) → (shown' k ≢ None) × (shown' later ≡ shown' k) × (before' later ≡ Some k) × (raised rank p k < raised rank p later)
    follows k later leads (inl same) =
        let n_is : n ≡ Some later = sym after.next_here ∙ ap next' (sym same) ∙ leads in
        let one = chains.starts page later (at_n ∙ n_is) in
        let apart = shows_not_p later page one.0 in
        let k_shows : shown' k ≡ Some page = ap shown' same ∙ after.here in (
          not_none page (shown' k) k_shows,
          after.others later apart ∙ one.0 ∙ sym k_shows,
          after.before_of later apart n_is ∙ ap Some (sym same),
          omega (arith, ap (raised rank p) same, raised_here rank p, raised_other rank p later apart),
        )
    follows k later leads (inr apart) =
        let one = chains.follows k later (sym (after.next_others k apart) ∙ leads) in
        let later_apart : later ≢ p = λ same. one.0 (sym one.1 ∙ ap shown same ∙ at) in
        let n_not : n ≢ Some later = λ n_is. not_none k (before later) one.2 (chains.starts page later (at_n ∙ n_is)).1 in (
          subst (λ s. s ≢ None) (sym (after.others k apart)) one.0,
          after.others later later_apart ∙ one.1 ∙ sym (after.others k apart),
          after.before_others later later_apart n_not ∙ one.2,
          omega (arith, one.3, raised_other rank p k apart, raised_other rank p later later_apart),
        )

    precedes : (k earlier other : ℕ) → shown' k ≡ Some other → before' k ≡ Some earlier → (k ≡ p) ⊎ (k ≢ p) → (n ≡ Some k) ⊎ (n ≢ Some k) → next' earlier ≡ Some k
    precedes k earlier other there is (inl same) _ = absurd (not_none earlier (before' k) is (ap before' same ∙ after.before_here))
    precedes k earlier other there is (inr apart) (inl n_is) =
        let earlier_is : earlier ≡ p = same_Some earlier p (sym is ∙ after.before_of k apart n_is) in
        ap next' earlier_is ∙ after.next_here ∙ n_is
    precedes k earlier other there is (inr apart) (inr n_not) =
        let leads_k : next earlier ≡ Some k = chains.precedes k earlier other (sym (after.others k apart) ∙ there) (sym (after.before_others k apart n_not) ∙ is) in
        after.next_others earlier (λ same. (chains.follows earlier k leads_k).0 (ap shown same ∙ at)) ∙ leads_k

    leads : (k other : ℕ) → shown' k ≡ Some other → before' k ≡ None → (k ≡ p) ⊎ (k ≢ p) → (n ≡ Some k) ⊎ (n ≢ Some k) → first' other ≡ Some k
    leads k other there none (inl same) _ =
        let other_is : other ≡ page = same_Some other page (sym there ∙ ap shown' same ∙ after.here) in
        ap first' other_is ∙ after.first_here ∙ ap Some (sym same)
    leads k other there none (inr apart) (inl n_is) = absurd (not_none p (before' k) (after.before_of k apart n_is) none)
    leads k other there none (inr apart) (inr n_not) =
        let is_first : first other ≡ Some k = chains.leads k other (sym (after.others k apart) ∙ there) (sym (after.before_others k apart n_not) ∙ none) in
        after.first_others other (λ same. n_not (sym at_n ∙ ap first (sym same) ∙ is_first)) ∙ is_first

    starts : (other k : ℕ) → first' other ≡ Some k → (other ≡ page) ⊎ (other ≢ page) → (shown' k ≡ Some other) × (before' k ≡ None)
    starts other k is (inl same) =
        let k_is : k ≡ p = same_Some k p (sym is ∙ ap first' same ∙ after.first_here) in
        (ap shown' k_is ∙ after.here ∙ ap Some (sym same), ap before' k_is ∙ after.before_here)
    starts other k is (inr apart) =
        let one = chains.starts other k (sym (after.first_others other apart) ∙ is) in
        let not_p = shows_not_p k other one.0 in
        let n_not : n ≢ Some k = λ n_is. apart (same_Some other page (sym one.0 ∙ (chains.starts page k (at_n ∙ n_is)).0)) in
        (after.others k not_p ∙ one.0, after.before_others k not_p n_not ∙ one.1)

-- ---- lists of links

length-set_at : (xs : List (Option ℕ)) (place x : Option ℕ) → length (set_at xs place x) ≡ length xs
length-set_at xs None x = refl
length-set_at xs (Some place) x = length-set xs place x

set_at_other : (xs : List (Option ℕ)) (place x : Option ℕ) (k : ℕ) → place ≢ Some k → get_or (set_at xs place x) k None ≡ get_or xs k None
set_at_other xs None x k apart = refl
set_at_other xs (Some place) x k apart = get_or-set_other xs place k x None (λ same. apart (ap Some (sym same)))

set_at_same : (xs : List (Option ℕ)) (place x : Option ℕ) (k : ℕ) → place ≡ Some k → k < length xs → get_or (set_at xs place x) k None ≡ x
set_at_same xs place x k is within = ap (λ o. get_or (set_at xs o x) k None) is ∙ get_or-set_same xs k x None within

pub length-first_with : (first : List (Option ℕ)) (page : ℕ) (before after : Option ℕ) → length (first_with first page before after) ≡ length first
length-first_with first page None after = length-set first page after
length-first_with first page (Some b) after = refl

first_with_other : (first : List (Option ℕ)) (page : ℕ) (before after : Option ℕ) (other : ℕ) → other ≢ page → get_or (first_with first page before after) other None ≡ get_or first other None
first_with_other first page None after other apart = get_or-set_other first page other after None apart
first_with_other first page (Some b) after other apart = refl

some_within : (xs : List (Option ℕ)) (k x : ℕ) → get_or xs k None ≡ Some x → k < length xs
some_within xs k x is = ⊎_elim (λ below. below) (λ past. absurd (not_none x (get_or xs k None) is (get_or_past xs k None past))) (cases_lt k (length xs))

pub shown_within : (entries : List (Option Pte)) (k page : ℕ) → page_shown (get_or entries k None) ≡ Some page → k < length entries
shown_within entries k page is =
    ⊎_elim (λ below. below) (λ past. absurd (not_none page (page_shown (get_or entries k None)) is (ap page_shown (get_or_past entries k None past)))) (cases_lt k (length entries))

-- ---- an entry is cleared

pub HasChains-cleared : (entries : List (Option Pte)) (first next before : List (Option ℕ)) (p page : ℕ) (b n : Option ℕ) → HasChains entries first next before
    → page_shown (get_or entries p None) ≡ Some page → get_or before p None ≡ b → get_or next p None ≡ n
    → HasChains (set entries p None) (first_with first page b n) (set (set_at next b n) p None) (set_at before n b)
HasChains-cleared entries first next before p page b n kept at at_b at_n =
    record {
      next_whole = omega (arith, length-set (set_at next b n) p None, length-set_at next b n, length-set entries p None, kept.next_whole);
      before_whole = omega (arith, length-set_at before n b, length-set entries p None, kept.before_whole);
      in_range = λ k other there. subst (λ m. other < m) (sym (length-first_with first page b n)) (kept.in_range k other (sym (others k (not_p k other there)) ∙ there));
      linked = ∥∥₁_elim kept.linked squash₁ (λ (rank, chains). ∣ (rank, left _ _ _ _ _ _ _ _ rank p page b n chains at at_b at_n (after rank chains)) ∣₁);
    }
  where
    within : p < length entries
    within = shown_within entries p page at

    gone : page_shown (get_or (set entries p None) p None) ≡ None
    gone = ap page_shown (get_or-set_same entries p None None within)

    others : (k : ℕ) → k ≢ p → page_shown (get_or (set entries p None) k None) ≡ page_shown (get_or entries k None)
    others k apart = ap page_shown (get_or-set_other entries p k None None apart)

    not_p : (k other : ℕ) → page_shown (get_or (set entries p None) k None) ≡ Some other → k ≢ p
    not_p k other there same = not_none other _ there (ap (λ i. page_shown (get_or (set entries p None) i None)) same ∙ gone)

    after : (rank : ℕ → ℕ) → AreLinked entries first next before rank
        → HasLeft (λ k. page_shown (get_or entries k None)) (λ other. get_or first other None) (λ k. get_or next k None) (λ k. get_or before k None)
        (λ k. page_shown (get_or (set entries p None) k None)) (λ other. get_or (first_with first page b n) other None) (λ k. get_or (set (set_at next b n) p None) k None)
        (λ k. get_or (set_at before n b) k None) p page b n
    after rank chains = record {
      gone = gone;
      others = others;
      next_gone = get_or-set_same (set_at next b n) p None None (omega (arith, within, length-set_at next b n, kept.next_whole));
      next_of = λ k apart is. get_or-set_other (set_at next b n) p k None None apart ∙ set_at_same next b n k is (some_within next k p (chains.precedes p k page at (at_b ∙ is)));
      next_others = λ k apart is_not. get_or-set_other (set_at next b n) p k None None apart ∙ set_at_other next b n k is_not;
      before_of = λ k is. set_at_same before n b k is (some_within before k p (chains.follows p k (at_n ∙ is)).2);
      before_others = λ k is_not. set_at_other before n b k is_not;
      first_of = λ none. ap (λ o. get_or (first_with first page o n) page None) none ∙ get_or-set_same first page n None (kept.in_range p page at);
      first_others = λ other apart. first_with_other first page b n other apart;
      first_same = λ e is. ap (λ o. get_or (first_with first page o n) page None) is;
    }

-- ---- an entry is made

pub HasChains-made : (entries : List (Option Pte)) (first next before : List (Option ℕ)) (p : ℕ) (pte : Pte) (n : Option ℕ) → HasChains entries first next before → p < length entries
    → get_or entries p None ≡ None → pte.page < length first → get_or first pte.page None ≡ n
    → HasChains (set entries p (Some pte)) (set first pte.page (Some p)) (set next p n) (set (set_at before n (Some p)) p None)
HasChains-made entries first next before p pte n kept within empty page_within at_n =
    record {
      next_whole = omega (arith, length-set next p n, length-set entries p (Some pte), kept.next_whole);
      before_whole = omega (arith, length-set (set_at before n (Some p)) p None, length-set_at before n (Some p), length-set entries p (Some pte), kept.before_whole);
      in_range = λ k other there. subst (λ m. other < m) (sym (length-set first pte.page (Some p))) (in_range k other there (cases_eq k p));
      linked = ∥∥₁_elim kept.linked squash₁ (λ (rank, chains). ∣ (raised rank p, joined _ _ _ _ _ _ _ _ rank p pte.page n chains (ap page_shown empty) at_n (after rank chains)) ∣₁);
    }
  where
    here : page_shown (get_or (set entries p (Some pte)) p None) ≡ Some pte.page
    here = ap page_shown (get_or-set_same entries p (Some pte) None within)

    others : (k : ℕ) → k ≢ p → page_shown (get_or (set entries p (Some pte)) k None) ≡ page_shown (get_or entries k None)
    others k apart = ap page_shown (get_or-set_other entries p k (Some pte) None apart)

    in_range : (k other : ℕ) → page_shown (get_or (set entries p (Some pte)) k None) ≡ Some other → (k ≡ p) ⊎ (k ≢ p) → other < length first
    in_range k other there (inl same) = omega (arith, same_Some other pte.page (sym there ∙ ap (λ i. page_shown (get_or (set entries p (Some pte)) i None)) same ∙ here))
    in_range k other there (inr apart) = kept.in_range k other (sym (others k apart) ∙ there)

    after : (rank : ℕ → ℕ) → AreLinked entries first next before rank
        → HasJoined (λ k. page_shown (get_or entries k None)) (λ other. get_or first other None) (λ k. get_or next k None) (λ k. get_or before k None)
        (λ k. page_shown (get_or (set entries p (Some pte)) k None)) (λ other. get_or (set first pte.page (Some p)) other None) (λ k. get_or (set next p n) k None)
        (λ k. get_or (set (set_at before n (Some p)) p None) k None) p pte.page n
    after rank chains = record {
      here = here;
      others = others;
      next_here = get_or-set_same next p n None (omega (arith, kept.next_whole));
      next_others = λ k apart. get_or-set_other next p k n None apart;
      before_here = get_or-set_same (set_at before n (Some p)) p None None (omega (arith, length-set_at before n (Some p), kept.before_whole));
      before_of =
          λ k apart is. get_or-set_other (set_at before n (Some p)) p k None None apart
          ∙ set_at_same before n (Some p) k is (omega (arith, kept.before_whole, shown_within entries k pte.page (chains.starts pte.page k (at_n ∙ is)).0));
      before_others = λ k apart is_not. get_or-set_other (set_at before n (Some p)) p k None None apart ∙ set_at_other before n (Some p) k is_not;
      first_here = get_or-set_same first pte.page (Some p) None page_within;
      first_others = λ other apart. get_or-set_other first pte.page other (Some p) None apart;
    }

-- ---- the first place of a chain

-- a place that shows a page is reached from the first place of its chain
reached : (shown first next before : ℕ → Option ℕ) (rank : ℕ → ℕ) (page : ℕ) → AreChains shown first next before rank → (n k : ℕ) → rank k < n → shown k ≡ Some page → first page ≢ None
reached shown first next before rank page chains zero k below there = absurd (omega (arith, below))
reached shown first next before rank page chains (suc n) k below there = by_before (before k) refl (reached shown first next before rank page chains n)
  where
    by_before : (o : Option ℕ) → before k ≡ o → ((earlier : ℕ) → rank earlier < n → shown earlier ≡ Some page → first page ≢ None) → first page ≢ None
    by_before None is _ = not_none k (first page) (chains.leads k page there is)
    by_before (Some earlier) is from_earlier =
        let one = chains.follows earlier k (chains.precedes k earlier page there is) in
        from_earlier earlier (omega (arith, one.3)) (sym one.1 ∙ there)

shows_page : (page : ℕ) (entry : Option Pte) → page_shown entry ≡ Some page → shows page entry ≡ true
shows_page page None there = absurd (not_none page None there refl)
shows_page page (Some pte) there = eq-eqb pte.page page (same_Some pte.page page there)

page_of_shows : (page : ℕ) (entry : Option Pte) → (page_shown entry ≢ Some page) → shows page entry ≡ false
page_of_shows page None apart = refl
page_of_shows page (Some pte) apart = ne_eqb pte.page page (λ same. apart (ap Some same))

none_counted : {X : Type 0} (p : X → Bool) (d : X) (xs : List X) → ((k : ℕ) → p (get_or xs k d) ≡ false) → count_by p xs ≡ 0
none_counted p d [] none = refl
none_counted p d (x ∷ xs) none =
    sum_by-cons (λ y. cond (p y) 1 0) x xs
    ∙ ap (λ b. cond b 1 0 + count_by p xs) (none 0)
    ∙ zero-add (count_by p xs)
    ∙ none_counted p d xs (λ k. none (suc k))

pub first_shows : (entries : List (Option Pte)) (first next before : List (Option ℕ)) (page : ℕ) (o : Option ℕ) → HasChains entries first next before → get_or first page None ≡ o
    → MatchOption o (count_by (shows page) entries ≡ 0) (λ place. shows page (get_or entries place None) ≡ true)
first_shows entries first next before page (Some place) kept is = ∥∥₁_elim kept.linked (hlevel props) (λ (rank, chains). shows_page page (get_or entries place None) (chains.starts page place is).0)
first_shows entries first next before page None kept is =
    ∥∥₁_elim kept.linked (hlevel props)
    (λ (rank, chains). none_counted (shows page) None entries (λ k. page_of_shows page (get_or entries k None) (λ there. reached _ _ _ _ rank page chains (suc (rank k)) k (omega arith) there is)))

-- ---- the links that the functions on entries follow

-- the places before and after an entry in its chain are places
pub links_within : (entries : List (Option Pte)) (first next before : List (Option ℕ)) (p page : ℕ) → HasChains entries first next before → page_shown (get_or entries p None) ≡ Some page
    → IfSome (get_or before p None) (λ k. k < length next) × IfSome (get_or next p None) (λ k. k < length before)
links_within entries first next before p page kept at =
    ∥∥₁_elim kept.linked (hlevel props)
    (λ (rank, chains). (earlier rank chains (get_or before p None) refl, later rank chains (get_or next p None) refl))
  where
    earlier : (rank : ℕ → ℕ) → AreLinked entries first next before rank → (o : Option ℕ) → get_or before p None ≡ o → IfSome o (λ k. k < length next)
    earlier rank chains None is = tt {0}
    earlier rank chains (Some k) is = some_within next k p (chains.precedes p k page at is)

    later : (rank : ℕ → ℕ) → AreLinked entries first next before rank → (o : Option ℕ) → get_or next p None ≡ o → IfSome o (λ k. k < length before)
    later rank chains None is = tt {0}
    later rank chains (Some k) is = some_within before k p (chains.follows p k is).2

-- the first place of a chain is a place
pub first_within : (entries : List (Option Pte)) (first next before : List (Option ℕ)) (page : ℕ) → HasChains entries first next before → IfSome (get_or first page None) (λ k. k < length before)
first_within entries first next before page kept = ∥∥₁_elim kept.linked (hlevel props) (λ (rank, chains). by_first rank chains (get_or first page None) refl)
  where
    by_first : (rank : ℕ → ℕ) → AreLinked entries first next before rank → (o : Option ℕ) → get_or first page None ≡ o → IfSome o (λ k. k < length before)
    by_first rank chains None is = tt {0}
    by_first rank chains (Some k) is = omega (arith, kept.before_whole, shown_within entries k page (chains.starts page k is).0)

-- what a Vec holds after a slice of all of it was changed
pub whole_changed : {X : Type 0} (len : ℕ) (new old : List X) → length new ≡ len → take len (new ++ drop (length new) old) ≡ new
whole_changed len new old same = take_at new (drop (length new) old) len same

-- an entry is cleared, as read: it is x, with b before it and n after it
pub cleared : (entries : List (Option Pte)) (first next before : List (Option ℕ)) (p : ℕ) (x : Option Pte) (pte : Pte) (b n : Option ℕ) → HasChains entries first next before → p < length entries
    → x ≡ get_or entries p x → x ≡ Some pte → b ≡ get_or before p b → n ≡ get_or next p n
    → (pte.page < length first) × IfSome b (λ k. k < length next) × IfSome n (λ k. k < length before)
    × HasChains (set entries p None) (first_with first pte.page b n) (set (set_at next b n) p None) (set_at before n b)
cleared entries first next before p x pte b n kept within read is read_b read_n =
    let at : page_shown (get_or entries p None) ≡ Some pte.page = ap page_shown (sym (get_or_read entries p x within read None) ∙ is) in
    let at_b : get_or before p None ≡ b = sym (get_or_read before p b (omega (arith, kept.before_whole)) read_b None) in
    let at_n : get_or next p None ≡ n = sym (get_or_read next p n (omega (arith, kept.next_whole)) read_n None) in
    let links = links_within entries first next before p pte.page kept at in (
      kept.in_range p pte.page at,
      subst (λ o. IfSome o (λ k. k < length next)) at_b links.0,
      subst (λ o. IfSome o (λ k. k < length before)) at_n links.1,
      HasChains-cleared entries first next before p pte.page b n kept at at_b at_n,
    )

-- a place without an entry stays so
pub cleared_none : (entries : List (Option Pte)) (p : ℕ) (x : Option Pte) → p < length entries → x ≡ get_or entries p x → x ≡ None → set entries p None ≡ entries
cleared_none entries p x within read is = ap (set entries p) (sym is ∙ get_or_read entries p x within read None) ∙ set-get_or entries p None

pub same_chains : {entries : List (Option Pte)} {first first' next next' before before' : List (Option ℕ)} → first' ≡ first → next' ≡ next → before' ≡ before → HasChains entries first next before
    → HasChains entries first' next' before'
same_chains {entries = entries} {first = first} {first' = first'} {next = next} {next' = next'} {before = before} is_first is_next is_before kept =
    subst (λ xs. HasChains entries first' next' xs) (sym is_before)
    (subst (λ xs. HasChains entries first' xs before) (sym is_next) (subst (λ xs. HasChains entries xs next before) (sym is_first) kept))

pub all_same : {entries entries' : List (Option Pte)} {first first' next next' before before' : List (Option ℕ)} → entries' ≡ entries → first' ≡ first → next' ≡ next → before' ≡ before
    → HasChains entries first next before → HasChains entries' first' next' before'
all_same {first' = first'} {next' = next'} {before' = before'} is_entries is_first is_next is_before kept =
    subst (λ xs. HasChains xs first' next' before') (sym is_entries) (same_chains is_first is_next is_before kept)

pub HasChains-opening : (pages places : ℕ) → HasChains (replicate places None) (replicate pages None) (replicate places None) (replicate places None)
HasChains-opening pages places =
    record {
      next_whole = length-replicate {A = Option ℕ} places None ∙ sym (length-replicate {A = Option Pte} places None);
      before_whole = length-replicate {A = Option ℕ} places None ∙ sym (length-replicate {A = Option Pte} places None);
      in_range = λ k page there. absurd (not_none page _ there (ap page_shown (none_at places k)));
      linked = ∣ (
        (λ k. 0),
        record {
          follows = λ k later leads. absurd (not_none later _ leads (none_at places k));
          precedes = λ k earlier page there is. absurd (not_none page _ there (ap page_shown (none_at places k)));
          leads = λ k page there none. absurd (not_none page _ there (ap page_shown (none_at places k)));
          starts = λ page k is. absurd (not_none k _ is (none_at pages page));
        },
      ) ∣₁;
    }
  where
    none_at : {X : Type 0} (n k : ℕ) → get_or {A = Option X} (replicate n None) k None ≡ None
    none_at {X = X} n k = ⊎_elim (λ below. get_or-replicate n k None None below) (λ past. get_or_past (replicate n None) k None (omega (arith, length-replicate {A = Option X} n None))) (cases_lt k n)
