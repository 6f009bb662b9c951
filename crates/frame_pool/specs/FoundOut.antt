-- What a seat's count of dry takes says of the words that it found out one by one.
use Rattle.std.specs.Prelude.{◌≡◌, ℕ, ◌<◌, List, [], ◌∷◌, All}
use Rattle.std.specs.List.{Contains}
use Rattle.frame_pool.specs.Plays.{found_out_at}
use Rattle.frame_pool.specs.declared.view.PoolView.{PoolView}

-- the view once the words of the list, of n, were found out one after the other
abbrev pub noted_all : ℕ → List ℕ → PoolView → PoolView
noted_all n [] v = v
noted_all n (i ∷ rest) v = noted_all n rest (found_out_at n i v)

-- a seat has a run of 0. Where its dry count rises as it finds these words out, each word of the pool is among them
abbrev pub DryFoundAll : Type 0
DryFoundAll = (n : ℕ) (found : List ℕ) (v : PoolView) → v.run ≡ 0 → All (λ i. i < n) found → v.dry < (noted_all n found v).dry → (k : ℕ) → k < n → Contains found k
