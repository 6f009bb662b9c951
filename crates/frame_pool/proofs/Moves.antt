-- Each step on the pool's table keeps the rule.
use Rattle.std.proofs.Common.{◌≡◌, ℕ, zero, suc, ◌+◌, ◌-◌, ◌%◌, ◌^◌, ◌<◌, ◌≤◌, ◌≢◌, List, [], ◌∷◌, ◌++◌, ◌∙◌, eqb, set, length}
use Rattle.std.proofs.Common.{get_or, sym, refl, ap, subst, ⊎_elim, arith, cond, length-set, get_or-set_same, get_or-set_other}
use Rattle.std.specs.Prelude.{Option, Some, None, true, false, nat_lt}
use mathlib.Core.Logic.{dite}
use native.Mathlib.Decide.{ℕ_discrete}
use mathlib.Core.Option.{none, some, some-injective, some-ne-none}
use mathlib.Core.Option as maybe
use lib.ListN.{get_elem?}
use prog.Atomic.{either}
use Rattle.atomic_table.specs.Table.{Act, step, keeps, takes, gives, Valid, carried_after, stepped, Allows, Splits, Joins}
use Rattle.atomic_table.proofs.Lists.{at_set, at_snoc, set_else, set_here, exchanged}
use Rattle.page_arena.specs.FrameView.{RegionView, FrameView}
use Rattle.frame_pool.specs.Totals.{total}
use Rattle.frame_pool.specs.PoolRule.{named_once, names, lent_once, lent, IsFrameOf, WordFits, SlotFits, RegionFits, NamedFits, PoolRule}
use Rattle.frame_pool.specs.Plays.{PoolSeated, naming, recorded, spent_view, returning, found_out_at, dried, taking, run_with, next_round}
use Rattle.frame_pool.specs.Plays.{spare_counted, looked, claimed, named_lent, named_word, lends, fetches, returns, second_of, paired, compared}
use Rattle.frame_pool.specs.declared.view.PoolView.{PoolView}
use Rattle.frame_pool.specs.declared.view.Named.{Named}
use Rattle.frame_pool.specs.declared.view.Named.TheVariants.{Idle, Taken, Lent, Pair, Spent}
use Rattle.frame_pool.proofs.Sums.{total-append, total-set, term_le, total_gap, only-same, only-other}
use Rattle.frame_pool.proofs.Changes.{St, state, changed, reviewed, viewed, same_fits}
use Rattle.frame_pool.proofs.Spare.{lent_as, lends_word, lent_is_named, named_most, some_spare}

-- what a step owes: the seat's new view and its act keep the rule, and the step tells `then`
abbrev Goes : RegionView → St → ℕ → ℕ → PoolSeated → (ℕ → PoolSeated → Type 0) → ℕ → Type 0
Goes region s k id m then x = (w : PoolView) × (a : Act (Option FrameView)) × Valid s.homes m.1 a × PoolRule region (stepped s k x id m.1 w a) × then (get_or s.words k 0) (w, carried_after m.1 a)

noted_region : (n i : ℕ) (v : PoolView) → (found_out_at n i v).region ≡ v.region
noted_region n i v = elim (nat_lt (run_with v i) n) as (λ b. (cond b (recorded v (run_with v i) (next_round n i) v.dry) (recorded v 0 (next_round n i) (v.dry + 1))).region ≡ v.region) [
  | true ↦ refl
  | false ↦ refl
]

noted_named : (n i : ℕ) (v : PoolView) → (found_out_at n i v).named ≡ v.named
noted_named n i v = elim (nat_lt (run_with v i) n) as (λ b. (cond b (recorded v (run_with v i) (next_round n i) v.dry) (recorded v 0 (next_round n i) (v.dry + 1))).named ≡ v.named) [
  | true ↦ refl
  | false ↦ refl
]

module _ (region : RegionView) (n id : ℕ) where
  -- a load of the spare count
  pub counts : (m : PoolSeated) (k : ℕ) → k ≡ n → Allows (PoolRule region) n id m k (λ x. x) (spare_counted (step n k 0 0 none) m)
  counts m k spare s r wide at small =
      let x : ℕ = get_or s.words k 0 in
      dite (ℕ_discrete x 0)
      (λ e. (dried m.0, keeps, tt, viewed region s r k id m.0 (dried m.0) at refl refl, (spare, (λ _. refl), λ ne. absurd (ne e))))
      (λ ne. (m.0, keeps, tt, viewed region s r k id m.0 m.0 at refl refl, (spare, (λ e. absurd (ne e)), λ _. refl)))

  -- a load of a frame word
  pub looks : (m : PoolSeated) (k : ℕ) → k < n → Allows (PoolRule region) n id m k (λ x. x) (looked (step n k 0 0 none) m)
  looks m k near s r wide at small =
      let x : ℕ = get_or s.words k 0 in
      dite (ℕ_discrete x 0)
      (λ e. (m.0, keeps, tt, viewed region s r k id m.0 m.0 at refl refl, (near, (λ _. refl), λ ne. absurd (ne e))))
      (λ ne. (found_out_at n k m.0, keeps, tt, viewed region s r k id m.0 (found_out_at n k m.0) at (noted_region n k m.0) (noted_named n k m.0), (near, (λ e. absurd (ne e)), λ _. refl)))

  -- a compare and exchange of a frame word from in to out
  pub claims : (m : PoolSeated) (i : ℕ) → i < n → m.0.named ≡ Idle → Allows (PoolRule region) n id m i (λ x. either (eqb x 0) 1 x) (claimed (step n i 0 1 none) m)
  claims m i near idle s r wide at small =
      let v : PoolView = m.0 in
      exchanged (get_or s.words i 0) 0 1 (Goes region s i id m (claimed (step n i 0 1 none) m))
      (λ hit.
      let below : i < length s.homes = subst (λ (x : ℕ). i < x) (sym wide) near in
      let fits : WordFits region s.homes s.views i 0 = subst (WordFits region s.homes s.views i) hit (r.each_word i below) in
      let f : FrameView = fits.1.0 in
      let w : PoolView = taking i v in
      let none_named : names i v ≡ 0 = ap (named_once i) idle in
      let none_lent : lent v ≡ 0 = ap lent_once idle in
      let here : get_or (set s.words i 1) i 0 ≡ 1 = get_or-set_same s.words i 1 0 (omega (arith, r.wide)) in
      let own : v.region ≡ region = subst (RegionFits region v.region) idle (r.each_view id v at).0 in (
        w,
        takes i (Some f),
        fits.1.1,
        changed region s r id i v w (set s.words i 1) none at (omega (arith, fits.0, none_named))
            (λ k ne. only-other k i ne ∙ sym (ap (named_once k) idle)) (length-set s.words i 1) (λ k _ ne. get_or-set_other s.words i k 1 0 ne)
            (omega (arith, get_or-set_other s.words i (length s.homes) 1 0 (λ e. absurd (omega arith)), none_lent))
            (subst (WordFits region (set s.homes i none) (set s.views id w) i) (sym here) (omega (arith, total-set (names i) s.views id v w at, fits.0, none_named, only-same i i refl)))
            (own, (below, set_here s.homes i none below)),
        (near, (λ _. (f, refl, (fits.1.2.0 ∙ sym own, fits.1.2.1))), λ ne. absurd (ne hit)),
      ))
      (λ miss. (found_out_at n i v, keeps, tt, viewed region s r i id v (found_out_at n i v) at (noted_region n i v) (noted_named n i v), (near, (λ e. absurd (miss e)), λ _. refl)))

  -- the one view that names a word that is out
  sole : (s : St) (r : PoolRule region s) (i : ℕ) (v : PoolView) → get_elem? s.views id ≡ some v → i < length s.homes → names i v ≡ 1 → (get_or s.words i 0 ≡ 1) × (total (names i) s.views ≡ 1)
  sole s r i v at near one = go (get_or s.words i 0) (r.each_word i near) where
    go : (x : ℕ) → WordFits region s.homes s.views i x → (x ≡ 1) × (total (names i) s.views ≡ 1)
    go zero fits = absurd (omega (arith, fits.0, term_le (names i) s.views id v at, one))
    go (suc zero) fits = (refl, fits)
    go (suc (suc x)) fits = absurd fits

  -- the slot goes home empty, and the frame is no longer spare
  pub lends_step : (m : PoolSeated) (v : PoolView) (i : ℕ) → i < n → m ≡ (v, (i, None) ∷ []) → v.named ≡ Taken i
      → Allows (PoolRule region) n id m n (λ x. (x + (2 ^ 64 - 1)) % 2 ^ 64) (lends (step n n 1 0 none) m)
  lends_step m v i near is taken = subst (λ (m : PoolSeated). Allows (PoolRule region) n id m n (λ x. (x + (2 ^ 64 - 1)) % 2 ^ 64) (lends (step n n 1 0 none) m)) (sym is) (λ s r wide at small.
      let below : i < length s.homes = subst (λ (x : ℕ). i < x) (sym wide) near in
      let one : names i v ≡ 1 = ap (named_once i) taken ∙ only-same i i refl in
      let here = sole s r i v at below one in
      let w : PoolView = naming v (named_lent v.named) in
      let now : w.named ≡ Lent i = ap named_lent taken in
      let x : ℕ = get_or s.words n 0 in
      let count : get_or s.words (length s.homes) 0 ≡ x = ap (λ (k : ℕ). get_or s.words k 0) wide in
      let some : 1 ≤ x = subst (λ (k : ℕ). 1 ≤ k) count (some_spare region s r i below (unlent s i v at here.1 taken)) in
      let less : (x + (2 ^ 64 - 1)) % 2 ^ 64 + 1 ≡ x = omega arith in
      let y : ℕ = (x + (2 ^ 64 - 1)) % 2 ^ 64 in
      let ws : List ℕ = set s.words n y in
      let words : (k : ℕ) → k < length s.homes → get_or ws k 0 ≡ get_or s.words k 0 = λ k h. get_or-set_other s.words n k y 0 (λ e. omega arith) in
      let spare : get_or ws (length s.homes) 0 ≡ y = ap (λ (k : ℕ). get_or ws k 0) wide ∙ get_or-set_same s.words n y 0 (omega (arith, r.wide)) in
      let own : v.region ≡ region = subst (RegionFits region v.region) taken (r.each_view id v at).0 in (
        w,
        gives,
        tt,
        changed region s r id i v w ws (maybe.some None) at (here.1 ∙ sym one) (λ k ne. ap (named_once k) now ∙ sym (ap (named_once k) taken)) (length-set s.words n y) (λ k h _. words k h)
            (omega (arith, spare, count, ap lent_once now, ap lent_once taken))
            (subst (WordFits region (set s.homes i (maybe.some None)) (set s.views id w) i) (sym (words i below ∙ here.0))
            (omega (arith, total-set (names i) s.views id v w at, here.1, one, ap (named_once i) now, only-same i i refl)))
            (subst (λ (d : Named). RegionFits region w.region d × SlotFits (set s.homes i (maybe.some None)) (length s.homes) d) (sym now) (own, (below, set_here s.homes i (maybe.some None) below))),
        refl,
      )) where
        -- no view names without its slot the word that a view names with its slot
        unlent : (s : St) (i : ℕ) (v : PoolView) → get_elem? s.views id ≡ some v → total (names i) s.views ≡ 1 → v.named ≡ Taken i → total (lends_word i) s.views ≡ 0
        unlent s i v at one taken = omega (
          arith,
          total_gap (lends_word i) (names i) (λ u. lent_is_named i u.named) s.views id v at,
          one,
          ap (lent_as i) taken,
          ap (named_once i) taken,
          only-same i i refl,
        )

  -- the empty slot is taken again, and the frame is spare
  pub fetches_step : (m : PoolSeated) (v : PoolView) (i : ℕ) → n < 2 ^ 64 → i < n → m ≡ (v, []) → v.named ≡ Lent i
      → Allows (PoolRule region) n id m n (λ x. (x + 1) % 2 ^ 64) (fetches (step n n 1 0 none) m)
  fetches_step m v i bound near is gone = subst (λ (m : PoolSeated). Allows (PoolRule region) n id m n (λ x. (x + 1) % 2 ^ 64) (fetches (step n n 1 0 none) m)) (sym is) (λ s r wide at small.
      let below : i < length s.homes = subst (λ (x : ℕ). i < x) (sym wide) near in
      let one : names i v ≡ 1 = ap (named_once i) gone ∙ only-same i i refl in
      let here = sole s r i v at below one in
      let fits : SlotFits s.homes (length s.homes) (Lent i) = subst (SlotFits s.homes (length s.homes)) gone (r.each_view id v at).1 in
      let k : ℕ = named_word v.named in
      let word : k ≡ i = ap named_word gone in
      let w : PoolView = naming v (Taken k) in
      let x : ℕ = get_or s.words n 0 in
      let count : get_or s.words (length s.homes) 0 ≡ x = ap (λ (j : ℕ). get_or s.words j 0) wide in
      let more : (x + 1) % 2 ^ 64 ≡ x + 1 = omega (arith, r.spare, term_le lent s.views id v at, ap lent_once gone) in
      let y : ℕ = (x + 1) % 2 ^ 64 in
      let ws : List ℕ = set s.words n y in
      let words : (j : ℕ) → j < length s.homes → get_or ws j 0 ≡ get_or s.words j 0 = λ j h. get_or-set_other s.words n j y 0 (λ e. omega arith) in
      let spare : get_or ws (length s.homes) 0 ≡ y = ap (λ (j : ℕ). get_or ws j 0) wide ∙ get_or-set_same s.words n y 0 (omega (arith, r.wide)) in
      let own : v.region ≡ region = subst (RegionFits region v.region) gone (r.each_view id v at).0 in (
        w,
        takes k None,
        subst (λ (j : ℕ). get_elem? s.homes j ≡ maybe.some (maybe.some None)) (sym word) fits.1,
        subst (λ (j : ℕ). PoolRule region (state ws (set s.homes j none) (set s.views id (naming v (Taken j))))) (sym word)
            (changed region s r id i v (naming v (Taken i)) ws none at (here.1 ∙ sym one) (λ j ne. sym (ap (named_once j) gone)) (length-set s.words n y) (λ j h _. words j h)
            (omega (arith, spare, count, ap lent_once gone))
            (subst (WordFits region (set s.homes i none) (set s.views id (naming v (Taken i))) i) (sym (words i below ∙ here.0))
            (omega (arith, total-set (names i) s.views id v (naming v (Taken i)) at, here.1, one, only-same i i refl)))
            (own, (below, set_here s.homes i none below))),
        refl,
      ))

  -- the slot goes home with its frame, and the word is in
  pub returns_step : (m : PoolSeated) (v : PoolView) (i : ℕ) (f : FrameView) → i < n → m ≡ (v, (i, Some f) ∷ []) → v.named ≡ Taken i → IsFrameOf v.region i f
      → Allows (PoolRule region) n id m i (λ _. 0) (λ _. returns (step n i 0 0 none) m 0)
  returns_step m v i f near is taken frame = subst (λ (m : PoolSeated). Allows (PoolRule region) n id m i (λ _. 0) (λ _. returns (step n i 0 0 none) m 0)) (sym is) (λ s r wide at small.
      let below : i < length s.homes = subst (λ (x : ℕ). i < x) (sym wide) near in
      let one : names i v ≡ 1 = ap (named_once i) taken ∙ only-same i i refl in
      let here = sole s r i v at below one in
      let w : PoolView = returning v in
      let own : v.region ≡ region = subst (RegionFits region v.region) taken (r.each_view id v at).0 in
      let home : get_elem? (set s.homes i (maybe.some (Some f))) i ≡ maybe.some (maybe.some (Some f)) = set_here s.homes i (maybe.some (Some f)) below in (
        w,
        gives,
        tt,
        changed region s r id i v w (set s.words i 0) (maybe.some (Some f)) at (here.1 ∙ sym one)
            (λ k ne. sym (ap (named_once k) taken ∙ only-other k i ne)) (length-set s.words i 0) (λ k _ ne. get_or-set_other s.words i k 0 0 ne)
            (omega (arith, get_or-set_other s.words i (length s.homes) 0 0 (λ e. absurd (omega arith)), ap lent_once taken))
            (subst (WordFits region (set s.homes i (maybe.some (Some f))) (set s.views id w) i) (sym (get_or-set_same s.words i 0 0 (omega (arith, r.wide))))
            (omega (arith, total-set (names i) s.views id v w at, here.1, one), (f, home, (frame.0 ∙ own, frame.1))))
            (own, tt),
        (taken, refl),
      ))

  -- a seat keeps what it names, and another comes, which names nothing
  pub copies : (v left right : PoolView) → left.region ≡ v.region → left.named ≡ v.named → right.region ≡ v.region → right.named ≡ Idle → v.named ≢ Spent → Splits (PoolRule region) id v left right
  copies v left right same kept there idle unspent s r at =
      let own : right.region ≡ region = there ∙ region_of v.named unspent (r.each_view id v at).0 in
      let now = subst (NamedFits region s.homes right.region) (sym idle) (own, tt) in
      let vs : List PoolView = set s.views id left in
      reviewed region s r (vs ++ right ∷ [])
      (omega (arith, total-append lent vs (right ∷ []), total-set lent s.views id v left at, ap lent_once kept, ap lent_once idle))
      (λ k. omega (arith, total-append (names k) vs (right ∷ []), total-set (names k) s.views id v left at, ap (named_once k) kept, ap (named_once k) idle))
      (λ j x e. ⊎_elim (λ (t : get_elem? vs j ≡ some x). ⊎_elim (λ (q : (j ≡ id) × (left ≡ x)). subst (λ (y : PoolView). NamedFits region s.homes y.region y.named) q.1
      (same_fits region s r v left same kept (r.each_view id v at)))
      (λ (q : (j ≢ id) × (get_elem? s.views j ≡ some x)). r.each_view j x q.1) (at_set s.views id j left x t))
      (λ (t : right ≡ x). subst (λ (y : PoolView). NamedFits region s.homes y.region y.named) t now) (at_snoc vs right x j e)) where
        region_of : {region r : RegionView} (d : Named) → d ≢ Spent → RegionFits region r d → r ≡ region
        region_of Idle unspent fits = fits
        region_of (Taken i) unspent fits = fits
        region_of (Lent i) unspent fits = fits
        region_of (Pair i k) unspent fits = fits
        region_of Spent unspent fits = absurd (unspent refl)

  -- a seat that names nothing is spent, and the other keeps what it names
  pub joins : (v w : PoolView) (other : ℕ) (u : PoolView) → w.region ≡ v.region → w.named ≡ v.named → u.named ≡ Idle → Joins (PoolRule region) id v other u w spent_view
  joins v w other u same kept idle s r at apart them =
      let spent : PoolView = spent_view in
      let vs : List PoolView = set s.views id w in
      reviewed region s r (set vs other spent)
      (omega (arith, total-set lent vs other u spent them, total-set lent s.views id v w at, ap lent_once kept, ap lent_once idle))
      (λ k. omega (arith, total-set (names k) vs other u spent them, total-set (names k) s.views id v w at, ap (named_once k) kept, ap (named_once k) idle))
      (λ j x e. ⊎_elim (λ (t : (j ≡ other) × (spent ≡ x)). subst (λ (y : PoolView). NamedFits region s.homes y.region y.named) t.1 (tt, tt))
      (λ (t : (j ≢ other) × (get_elem? vs j ≡ some x)). ⊎_elim (λ (q : (j ≡ id) × (w ≡ x)). subst (λ (y : PoolView). NamedFits region s.homes y.region y.named) q.1
      (same_fits region s r v w same kept (r.each_view id v at)))
      (λ (q : (j ≢ id) × (get_elem? s.views j ≡ some x)). r.each_view j x q.1) (at_set s.views id j w x t.1)) (at_set vs other j spent x e))

  -- the seats of two loans become one, which names both words
  pub pairs : (v : PoolView) (other : ℕ) (u : PoolView) (i k : ℕ) → v.named ≡ Lent i → u.named ≡ Lent k → Joins (PoolRule region) id v other u (paired v u) spent_view
  pairs v other u i k one two s r at apart them =
      let spent : PoolView = spent_view in
      let w : PoolView = paired v u in
      let now : w.named ≡ Pair i k = λ j. Pair (ap named_word one j) (ap named_word two j) in
      let vs : List PoolView = set s.views id w in
      let there : get_elem? s.views other ≡ some u = sym (set_else s.views id other w apart) ∙ them in
      let first = subst (NamedFits region s.homes v.region) one (r.each_view id v at) in
      let second = subst (NamedFits region s.homes u.region) two (r.each_view other u there) in
      let fits = subst (NamedFits region s.homes v.region) (sym now) (first.0, (first.1, second.1)) in
      reviewed region s r (set vs other spent)
      (omega (arith, total-set lent vs other u spent them, total-set lent s.views id v w at, ap lent_once one, ap lent_once two, ap lent_once now))
      (λ c. omega (arith, total-set (names c) vs other u spent them, total-set (names c) s.views id v w at, ap (named_once c) one, ap (named_once c) two, ap (named_once c) now))
      (λ j x e. ⊎_elim (λ (t : (j ≡ other) × (spent ≡ x)). subst (λ (y : PoolView). NamedFits region s.homes y.region y.named) t.1 (tt, tt))
      (λ (t : (j ≢ other) × (get_elem? vs j ≡ some x)). ⊎_elim (λ (q : (j ≡ id) × (w ≡ x)). subst (λ (y : PoolView). NamedFits region s.homes y.region y.named) q.1 fits)
      (λ (q : (j ≢ id) × (get_elem? s.views j ≡ some x)). r.each_view j x q.1) (at_set s.views id j w x t.1)) (at_set vs other j spent x e))

  -- and two again
  pub parts : (v : PoolView) (i k : ℕ) → v.named ≡ Pair i k → Splits (PoolRule region) id v (naming v (Lent (named_word v.named))) (naming v (Lent (second_of v.named)))
  parts v i k is s r at =
      let left : PoolView = naming v (Lent (named_word v.named)) in
      let right : PoolView = naming v (Lent (second_of v.named)) in
      let one : left.named ≡ Lent i = ap (λ (d : Named). Lent (named_word d)) is in
      let two : right.named ≡ Lent k = ap (λ (d : Named). Lent (second_of d)) is in
      let both = subst (NamedFits region s.homes v.region) is (r.each_view id v at) in
      let first = subst (NamedFits region s.homes v.region) (sym one) (both.0, both.1.0) in
      let second = subst (NamedFits region s.homes v.region) (sym two) (both.0, both.1.1) in
      let vs : List PoolView = set s.views id left in
      reviewed region s r (vs ++ right ∷ [])
      (omega (arith, total-append lent vs (right ∷ []), total-set lent s.views id v left at, ap lent_once one, ap lent_once two, ap lent_once is))
      (λ c. omega (arith, total-append (names c) vs (right ∷ []), total-set (names c) s.views id v left at, ap (named_once c) one, ap (named_once c) two, ap (named_once c) is))
      (λ j x e. ⊎_elim (λ (t : get_elem? vs j ≡ some x). ⊎_elim (λ (q : (j ≡ id) × (left ≡ x)). subst (λ (y : PoolView). NamedFits region s.homes y.region y.named) q.1 first)
      (λ (q : (j ≢ id) × (get_elem? s.views j ≡ some x)). r.each_view j x q.1) (at_set s.views id j left x t))
      (λ (t : right ≡ x). subst (λ (y : PoolView). NamedFits region s.homes y.region y.named) t second) (at_snoc vs right x j e))

  -- a seat that names two words names different ones
  pub compares : (m : PoolSeated) (v : PoolView) (i k c : ℕ) → m ≡ (v, []) → v.named ≡ Pair i k → Allows (PoolRule region) n id m c (λ x. x) (compared (step n c 0 0 none) m)
  compares m v i k c is named = subst (λ (m : PoolSeated). Allows (PoolRule region) n id m c (λ x. x) (compared (step n c 0 0 none) m)) (sym is) (λ s r wide at small.
      let both = subst (NamedFits region s.homes v.region) named (r.each_view id v at) in (
        v,
        keeps,
        tt,
        viewed region s r c id v v at refl refl,
        (
          refl,
          λ e.
              let same : i ≡ k = sym (ap named_word named) ∙ (e ∙ ap second_of named) in
              absurd (omega (
                arith,
                term_le (names i) s.views id v at,
                named_most region s.homes s.views i (get_or s.words i 0) (r.each_word i both.1.0.0),
                ap (named_once i) named,
                only-same i i refl,
                only-same i k same,
              )),
        ),
      ))

module _ (region : RegionView) (n : ℕ) where
  -- the same at a word that is known to be the spare count
  pub lends_at : (id k : ℕ) (m : PoolSeated) (v : PoolView) (i : ℕ) → n ≡ k → i < k → m ≡ (v, (i, None) ∷ []) → v.named ≡ Taken i
      → Allows (PoolRule region) n id m k (λ x. (x + (2 ^ 64 - 1)) % 2 ^ 64) (lends (step n k 1 0 none) m)
  lends_at id k m v i same near is taken = subst (λ (j : ℕ). Allows (PoolRule region) j id m k (λ x. (x + (2 ^ 64 - 1)) % 2 ^ 64) (lends (step j k 1 0 none) m))
      (sym same) (lends_step region k id m v i near is taken)

  pub fetches_at : (id k : ℕ) (m : PoolSeated) (v : PoolView) (i : ℕ) → n ≡ k → k < 2 ^ 64 → i < k → m ≡ (v, []) → v.named ≡ Lent i
      → Allows (PoolRule region) n id m k (λ x. (x + 1) % 2 ^ 64) (fetches (step n k 1 0 none) m)
  fetches_at id k m v i same bound near is gone = subst (λ (j : ℕ). Allows (PoolRule region) j id m k (λ x. (x + 1) % 2 ^ 64) (fetches (step j k 1 0 none) m))
      (sym same) (fetches_step region k id m v i bound near is gone)
