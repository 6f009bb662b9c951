-- What stays of the rule when a step changes one frame's word, slot and view, or views alone.
use Rattle.std.proofs.Common.{◌≡◌, ℕ, zero, suc, ◌+◌, ◌<◌, ◌≢◌, List, ◌∙◌, set, length, get_or, sym, refl, ap, subst, ⊎_elim, arith, length-set}
use Rattle.std.specs.Prelude.{Option}
use mathlib.Core.Logic.{dite}
use native.Mathlib.Decide.{ℕ_discrete}
use mathlib.Core.Option.{none, some, some-injective, some-ne-none}
use mathlib.Core.Option as maybe
use lib.ListN.{get_elem?}
use lib.Seq.{set-get_or}
use Rattle.atomic_table.specs.Table.{State}
use Rattle.atomic_table.proofs.Lists.{at_set, set_else}
use Rattle.page_arena.specs.FrameView.{RegionView, FrameView}
use Rattle.frame_pool.specs.Totals.{total}
use Rattle.frame_pool.specs.PoolRule.{Homes, IsAway, named_once, names, lent_once, lent, WordFits, SlotFits, RegionFits, NamedFits, PoolRule}
use Rattle.frame_pool.specs.declared.view.PoolView.{PoolView}
use Rattle.frame_pool.specs.declared.view.Named.{Named}
use Rattle.frame_pool.specs.declared.view.Named.TheVariants.{Idle, Taken, Lent, Pair, Spent}
use Rattle.frame_pool.proofs.Sums.{total-set, terms_le, only-same}

abbrev pub St : Type 0
St = State (Option FrameView) PoolView

abbrev pub state : List ℕ → Homes → List PoolView → St
state ws hs vs = record { words = ws; homes = hs; views = vs }

-- a frame word keeps its facts where its own slot stays, and how many views name it
word_stays : (region : RegionView) (homes homes' : Homes) (views views' : List PoolView) (k x : ℕ) → get_elem? homes' k ≡ get_elem? homes k → total (names k) views' ≡ total (names k) views
    → WordFits region homes views k x → WordFits region homes' views' k x
word_stays region homes homes' views views' k zero home same fits = (same ∙ fits.0, (fits.1.0, home ∙ fits.1.1, fits.1.2))
word_stays region homes homes' views views' k (suc zero) home same fits = same ∙ fits
word_stays region homes homes' views views' k (suc (suc x)) home same fits = fits

-- a word that isn't i stays away when the slot i changes
away_stays : (homes : Homes) (i : ℕ) (h : maybe.Option (Option FrameView)) (n k : ℕ) → k ≢ i → IsAway homes n k → IsAway (set homes i h) n k
away_stays homes i h n k ne fits = (fits.0, set_else homes i k h ne ∙ fits.1)

-- a view that doesn't name the word i keeps its facts when the slot i changes
slot_stays : (homes : Homes) (i : ℕ) (h : maybe.Option (Option FrameView)) (n : ℕ) (d : Named) → named_once i d ≡ 0 → SlotFits homes n d → SlotFits (set homes i h) n d
slot_stays homes i h n Idle other fits = fits
slot_stays homes i h n (Taken k) other fits = (fits.0, set_else homes i k h (λ e. absurd (omega (arith, only-same i k (sym e)))) ∙ fits.1)
slot_stays homes i h n (Lent k) other fits = away_stays homes i h n k (λ e. absurd (omega (arith, only-same i k (sym e)))) fits
slot_stays homes i h n (Pair k l) other fits = (
  away_stays homes i h n k (λ e. absurd (omega (arith, only-same i k (sym e)))) fits.0,
  away_stays homes i h n l (λ e. absurd (omega (arith, only-same i l (sym e)))) fits.1,
)
slot_stays homes i h n Spent other fits = fits

module _ (region : RegionView) (s : St) (r : PoolRule region s) where
  -- the seat `id` changes the word and the slot of one frame, i, or of the spare count
  pub changed : (id i : ℕ) (v w : PoolView) (ws : List ℕ) (h : maybe.Option (Option FrameView)) → get_elem? s.views id ≡ some v → total (names i) s.views ≡ names i v
      → ((k : ℕ) → k ≢ i → names k w ≡ names k v) → length ws ≡ length s.words
      → ((k : ℕ) → k < length s.homes → k ≢ i → get_or ws k 0 ≡ get_or s.words k 0)
      → get_or ws (length s.homes) 0 + lent w ≡ get_or s.words (length s.homes) 0 + lent v
      → WordFits region (set s.homes i h) (set s.views id w) i (get_or ws i 0)
      → RegionFits region w.region w.named × SlotFits (set s.homes i h) (length s.homes) w.named
      → PoolRule region (state ws (set s.homes i h) (set s.views id w))
  changed id i v w ws h at mine others long words spares here now =
      let size : length (set s.homes i h) ≡ length s.homes = length-set s.homes i h in
      record {
        wide = long ∙ (r.wide ∙ ap (λ (n : ℕ). n + 1) (sym size));
        spare = subst (λ (n : ℕ). get_or ws n 0 + total lent (set s.views id w) ≡ n) (sym size) (omega (arith, total-set lent s.views id v w at, r.spare, spares));
        each_word = λ k below. dite (ℕ_discrete k i)
            (λ e. subst (λ (j : ℕ). WordFits region (set s.homes i h) (set s.views id w) j (get_or ws j 0)) (sym e) here)
            (λ ne. let near : k < length s.homes = subst (λ (n : ℕ). k < n) size below in
            subst (WordFits region (set s.homes i h) (set s.views id w) k) (sym (words k near ne))
            (word_stays region s.homes (set s.homes i h) s.views (set s.views id w) k (get_or s.words k 0) (set_else s.homes i k h ne)
            (omega (arith, total-set (names k) s.views id v w at, others k ne)) (r.each_word k near)));
        each_view = λ j u e. subst (λ (n : ℕ). RegionFits region u.region u.named × SlotFits (set s.homes i h) n u.named) (sym size)
            (⊎_elim (λ (t : (j ≡ id) × (w ≡ u)). subst (λ (x : PoolView). RegionFits region x.region x.named × SlotFits (set s.homes i h) (length s.homes) x.named) t.1 now)
            (λ (t : (j ≢ id) × (get_elem? s.views j ≡ some u)). let fits = r.each_view j u t.1 in let none_else : names i u ≡ 0 = omega (arith, terms_le (names i) s.views id j v u t.0 at t.1, mine) in
            (fits.0, slot_stays s.homes i h (length s.homes) u.named none_else fits.1)) (at_set s.views id j w u e));
      }

  -- views alone change
  pub reviewed : (vs : List PoolView) → total lent vs ≡ total lent s.views → ((k : ℕ) → total (names k) vs ≡ total (names k) s.views)
      → ((j : ℕ) (v : PoolView) → get_elem? vs j ≡ some v → NamedFits region s.homes v.region v.named)
      → PoolRule region (state s.words s.homes vs)
  reviewed vs lents all views = record {
    wide = r.wide;
    spare = omega (arith, r.spare, lents);
    each_word = λ k below. word_stays region s.homes s.homes s.views vs k (get_or s.words k 0) refl (all k) (r.each_word k below);
    each_view = views;
  }

  -- a view that names what it named, in the region where it was, may take its place
  pub same_fits : (v w : PoolView) → w.region ≡ v.region → w.named ≡ v.named → NamedFits region s.homes v.region v.named
      → NamedFits region s.homes w.region w.named
  same_fits v w e d fits =
      subst (λ (x : Named). RegionFits region w.region x × SlotFits s.homes (length s.homes) x) (sym d)
      (subst (λ (x : RegionView). RegionFits region x v.named × SlotFits s.homes (length s.homes) v.named) (sym e) fits)

  -- a step changes no word and no slot, and of the view the record alone
  pub viewed : (k id : ℕ) (v w : PoolView) → get_elem? s.views id ≡ some v → w.region ≡ v.region → w.named ≡ v.named
      → PoolRule region (state (set s.words k (get_or s.words k 0)) s.homes (set s.views id w))
  viewed k id v w at e d =
      subst (λ (ws : List ℕ). PoolRule region (state ws s.homes (set s.views id w))) (sym (set-get_or s.words k 0))
      (reviewed (set s.views id w) (omega (arith, total-set lent s.views id v w at, ap lent_once d)) (λ i. omega (arith, total-set (names i) s.views id v w at, ap (named_once i) d))
      (λ j u f. ⊎_elim (λ (t : (j ≡ id) × (w ≡ u)). subst (λ (x : PoolView). NamedFits region s.homes x.region x.named) t.1 (same_fits v w e d (r.each_view id v at)))
      (λ (t : (j ≢ id) × (get_elem? s.views j ≡ some u)). r.each_view j u t.1) (at_set s.views id j w u f)))
