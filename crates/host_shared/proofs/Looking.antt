-- One look more.
use Rattle.std.specs.Prelude.{◌≡◌, ℕ, ◌+◌, ◌≤◌, List, [], ◌∷◌, ◌++◌, Bool, true, false, Option, None, refl, if◌then◌else◌}
use Rattle.std.specs.List.{sum_by, flat_map}
use Rattle.std.proofs.Common.{arith, ap, sym, subst, ◌∙◌, append_assoc, append-nil, add-one}
use Rattle.std.proofs.lemmas.List.{map-append}
use Rattle.std.proofs.lemmas.List.Concat.{flat_map-append}
use Rattle.std.proofs.lemmas.List.Elements.{All-nil, All-push, All-weaker}
use Rattle.std.proofs.lemmas.List.Sums.{sum_by-append}
use Rattle.cmm_io.specs.Faults.{HasRisen}
use Rattle.state_words.specs.SeatView.{SeatStep, Tried, Moved, SeatView}
use Rattle.host_shared.specs.Looks.{Look, look_steps, GrewByLooks, is_page, pages_but, freed_by, freed_at, freed_in}
use Rattle.frame_pool.specs.Seats.{PoolSeatView}
use Rattle.host_shared.specs.Reclaiming.{HasCause, Reclaims, IsReclaim, freed_of, given_more}
use Rattle.host_shared.specs.declared.reclaim.Outcome.{Outcome}
use Rattle.host_shared.specs.declared.reclaim.Outcome.TheVariants.{Discarded, Preserved, Aged, Left, Busy, Paging}

pub page_more : (skip : Option ℕ) (from n page : ℕ) → page ≡ from + n → is_page skip page ≡ false → pages_but skip from (n + 1) ≡ pages_but skip from n ++ page ∷ []
page_more skip from n page at other =
    ap (pages_but skip from) (add-one n) ∙ ap (λ (p : ℕ). pages_but skip from n ++ (if is_page skip p then [] else p ∷ [])) (sym at)
    ∙ ap (λ (b : Bool). pages_but skip from n ++ (if b then [] else page ∷ [])) other

pub page_skipped : (skip : Option ℕ) (from n page : ℕ) → page ≡ from + n → is_page skip page ≡ true → pages_but skip from (n + 1) ≡ pages_but skip from n
page_skipped skip from n page at same =
    ap (pages_but skip from) (add-one n) ∙ ap (λ (p : ℕ). pages_but skip from n ++ (if is_page skip p then [] else p ∷ [])) (sym at)
    ∙ ap (λ (b : Bool). pages_but skip from n ++ (if b then [] else page ∷ [])) same ∙ append-nil (pages_but skip from n)

module _ (IsKind : Look → Type 0) where
  pub looks_none : (v : SeatView) → GrewByLooks IsKind [] v v
  looks_none v = record { looks = []; steps = sym (append-nil v.steps); pages_are = refl; each = All-nil IsKind }

  pub looks_more : (pages : List ℕ) (v w x : SeatView) (l : Look) → GrewByLooks IsKind pages v w → x.steps ≡ w.steps ++ look_steps l → IsKind l → GrewByLooks IsKind (pages ++ l.page ∷ []) v x
  looks_more pages v w x l before steps kind = record {
    looks = before.looks ++ l ∷ [];
    steps = steps ∙ ap (λ (s : List SeatStep). s ++ look_steps l) before.steps ∙ append_assoc v.steps (flat_map look_steps before.looks) (look_steps l)
        ∙ ap (λ (s : List SeatStep). v.steps ++ (flat_map look_steps before.looks ++ s)) (sym (append-nil (look_steps l)))
        ∙ ap (λ (s : List SeatStep). v.steps ++ s) (sym (flat_map-append look_steps before.looks (l ∷ [])));
    pages_are = map-append (λ (k : Look). k.page) before.looks (l ∷ []) ∙ ap (λ (ps : List ℕ). ps ++ l.page ∷ []) before.pages_are;
    each = All-push IsKind before.looks l before.each kind;
  }

-- a reclaim's cause stands where the pager's faults rose further
cause_wider : (outcome : Outcome) (urgent : Bool) (l : Look) (faults risen before after : ℕ) → before ≤ faults → risen ≤ after → HasCause outcome urgent l faults risen →
    HasCause outcome urgent l before after
cause_wider (Busy raw) urgent l faults risen before after low high c = c
cause_wider (Left raw) urgent l faults risen before after low high c = c
cause_wider Aged urgent l faults risen before after low high c = c
cause_wider Discarded urgent l faults risen before after low high c = c
cause_wider Preserved urgent l faults risen before after low high c = c
cause_wider Paging urgent l faults risen before after low high c = (c.0, c.1, (let rose : HasRisen faults risen = c.2 in omega (arith, low, high, rose)))

pub reclaims_wider : (urgent : Bool) (faults risen before after : ℕ) (pages : List ℕ) (v w : SeatView) → before ≤ faults → risen ≤ after →
    GrewByLooks (IsReclaim urgent faults risen) pages v w → GrewByLooks (IsReclaim urgent before after) pages v w
reclaims_wider urgent faults risen before after pages v w low high grew = record {
  looks = grew.looks;
  steps = grew.steps;
  pages_are = grew.pages_are;
  each = All-weaker (IsReclaim urgent faults risen) (IsReclaim urgent before after) (λ l is. (is.0, cause_wider is.0 urgent l faults risen before after low high is.1)) grew.looks grew.each;
}

-- a reclaim that isn't urgent, of the next page
pub pass_more : (page : ℕ) (v w x : SeatView) (outcome : Outcome) (start faults risen : ℕ) → start ≤ faults → faults ≤ risen → GrewByLooks (IsReclaim false start faults) (pages_but None 0 page) v w →
    Reclaims outcome page false w x faults risen → GrewByLooks (IsReclaim false start risen) (pages_but None 0 (page + 1)) v x
pass_more page v w x outcome start faults risen low high before one =
    let wide : GrewByLooks (IsReclaim false start risen) (pages_but None 0 page) v w = reclaims_wider false start faults start risen (pages_but None 0 page) v w (omega arith) high before in
    let cause : HasCause outcome false one.look start risen = cause_wider outcome false one.look faults risen start risen low (omega arith) one.cause in
    let after : GrewByLooks (IsReclaim false start risen) (pages_but None 0 page ++ one.look.page ∷ []) v x =
    looks_more (IsReclaim false start risen) (pages_but None 0 page) v w x one.look wide one.steps (outcome, cause) in
    let pages : pages_but None 0 page ++ one.look.page ∷ [] ≡ pages_but None 0 (page + 1) =
    ap (λ (p : ℕ). pages_but None 0 page ++ p ∷ []) one.of_page ∙ sym (page_more None 0 page page (omega arith) refl) in
    subst (λ (ps : List ℕ). GrewByLooks (IsReclaim false start risen) ps v x) pages after

freed_free : (l : Look) (n : ℕ) → l.word.busy ≡ false → freed_by l.action ≡ n → sum_by freed_at (look_steps l) ≡ n
freed_free l n free by = ap (λ (b : Bool). sum_by freed_at (Tried l.page l.word ∷ (if b then [] else Moved l.page l.action ∷ []))) free ∙ omega (arith, by)

freed_busy : (l : Look) → l.word.busy ≡ true → sum_by freed_at (look_steps l) ≡ 0
freed_busy l busy = ap (λ (b : Bool). sum_by freed_at (Tried l.page l.word ∷ (if b then [] else Moved l.page l.action ∷ []))) busy

freed_look : (outcome : Outcome) (urgent : Bool) (l : Look) (faults risen : ℕ) → HasCause outcome urgent l faults risen → sum_by freed_at (look_steps l) ≡ freed_of outcome
freed_look (Busy raw) urgent l faults risen c = freed_busy l c.1
freed_look (Left raw) urgent l faults risen c = freed_free l 0 c.1 (ap freed_by c.3)
freed_look Aged urgent l faults risen c = freed_free l 0 c.0 (ap freed_by c.3)
freed_look Discarded urgent l faults risen c = freed_free l 1 c.0.free (ap freed_by c.1)
freed_look Preserved urgent l faults risen c = freed_free l 1 c.0.free (ap freed_by c.1)
freed_look Paging urgent l faults risen c = freed_free l 0 c.0.free (ap freed_by c.1)

-- the record counts the frame that the answer tells of
pub freed_more : (outcome : Outcome) (page : ℕ) (urgent : Bool) (v w : SeatView) (faults risen : ℕ) → Reclaims outcome page urgent v w faults risen → freed_in w ≡ freed_in v + freed_of outcome
freed_more outcome page urgent v w faults risen one =
    ap (sum_by freed_at) one.steps ∙ sum_by-append freed_at v.steps (look_steps one.look)
    ∙ ap (λ (n : ℕ). freed_in v + n) (freed_look outcome urgent one.look faults risen one.cause)

pub given_on : (start now after : PoolSeatView) (count more : ℕ) → now ≡ given_more start count → after ≡ given_more now more → after ≡ given_more start (count + more)
given_on start now after count more before one =
    let sums : start.given + count + more ≡ start.given + (count + more) = omega arith in
    one ∙ ap (λ (s : PoolSeatView). given_more s more) before ∙ ap (λ (n : ℕ). let s : PoolSeatView = record start { given = n } in s) sums
