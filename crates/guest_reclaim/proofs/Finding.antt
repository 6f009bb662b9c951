-- The first of the numbers from a page up to a count that passes a test, one step of the look at a time.
use Rattle.std.proofs.Common.{◌≡◌, ◌<◌, ◌≤◌, ◌+◌, ◌-◌, ℕ, zero, suc, Bool, true, false, cond, Some, None, ap, ◌∙◌, arith}
use Rattle.std.specs.List.{find, range_with_len}

one_and_rest : (test : ℕ → Bool) (page count : ℕ) → page < count
    → find test (range_with_len page (count - page)) ≡ cond (test page) (Some page) (find test (range_with_len (page + 1) (count - (page + 1))))
one_and_rest test page count below =
    let more : count - page ≡ suc (count - (page + 1)) = omega arith in
    ap (λ n. find test (range_with_len page n)) more

-- the page passes
pub found_here : (test : ℕ → Bool) (page count : ℕ) → page < count → test page ≡ true → find test (range_with_len page (count - page)) ≡ Some page
found_here test page count below passes =
    one_and_rest test page count below ∙ ap (λ b. cond b (Some page) (find test (range_with_len (page + 1) (count - (page + 1))))) passes

-- it doesn't
pub found_later : (test : ℕ → Bool) (page count : ℕ) → page < count → test page ≡ false
    → find test (range_with_len page (count - page)) ≡ find test (range_with_len (page + 1) (count - (page + 1)))
found_later test page count below fails =
    one_and_rest test page count below ∙ ap (λ b. cond b (Some page) (find test (range_with_len (page + 1) (count - (page + 1))))) fails

-- none is left
pub found_none : (test : ℕ → Bool) (page count : ℕ) → count ≤ page → find test (range_with_len page (count - page)) ≡ None
found_none test page count past =
    let none : count - page ≡ zero = omega arith in
    ap (λ n. find test (range_with_len page n)) none
