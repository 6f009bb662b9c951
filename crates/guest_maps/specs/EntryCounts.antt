-- Laws of how many entries show a page, where an entry is set, or those of a page are gone.
use Rattle.std.proofs.Common.{◌≡◌, ◌≢◌, ℕ, zero, suc, ◌+◌, ◌<◌, ◌≤◌, Bool, true, false, cond, List, [], ◌∷◌, length, set}
use Rattle.std.proofs.Common.{get_or, map, replicate, zero-add, Option, Some, None, refl, sym, ap, ◌∙◌, arith, ⊎_elim, count_by}
use Rattle.std.proofs.lemmas.List.{get_or_past}
use Rattle.std.proofs.lemmas.List.Sums.{sum_by-cons, sum_by-set, get_or-le-sum_by}
use Rattle.std.proofs.lemmas.Bool.{cases_Bool, cases_lt, cond-true, cond-false, eqb-true, both_ways, and_parts, false_from_ne_true}
use Rattle.cmm_types.specs.Sums.{one_if}
use Rattle.guest_maps.specs.declared.slot.Pte.{Pte}
use Rattle.guest_maps.specs.MapsView.{shows, stores_to, unless_shows}

-- ---- one entry

pub shows_exact : (page other : ℕ) (entry : Option Pte) → shows page entry ≡ true → shows other entry ≡ true → page ≡ other
shows_exact page other None is_page is_other = absurd (both_ways _ refl is_page)
shows_exact page other (Some pte) is_page is_other = sym (eqb-true pte.page page is_page) ∙ eqb-true pte.page other is_other

pub stores_shows : (page : ℕ) (entry : Option Pte) → stores_to page entry ≡ true → shows page entry ≡ true
stores_shows page None stores = stores
stores_shows page (Some pte) stores = (and_parts pte.writable _ stores).1

pub stores-not_shown : (page : ℕ) (entry : Option Pte) → shows page entry ≡ false → stores_to page entry ≡ false
stores-not_shown page entry not_shown = false_from_ne_true _ (λ stores. both_ways _ not_shown (stores_shows page entry stores))

pub unless_shows-own : (page : ℕ) (entry : Option Pte) → shows page entry ≡ true → unless_shows page entry ≡ None
unless_shows-own page entry is = cond-true (shows page entry) None entry is

pub unless_shows-other : (page : ℕ) (entry : Option Pte) → shows page entry ≡ false → unless_shows page entry ≡ entry
unless_shows-other page entry is = cond-false (shows page entry) None entry is

-- ---- a test counted in a list

-- an entry in place of another
pub count_by-set : (p : Option Pte → Bool) (entries : List (Option Pte)) (k : ℕ) (entry : Option Pte) → k < length entries
    → count_by p (set entries k entry) + one_if (p (get_or entries k None)) ≡ count_by p entries + one_if (p entry)
count_by-set p entries k entry within = sum_by-set (λ x. cond (p x) 1 0) entries k entry None within

passes_within : (p : Option Pte → Bool) (entries : List (Option Pte)) (k : ℕ) → p None ≡ false → p (get_or entries k None) ≡ true → k < length entries
passes_within p entries k outside passes = ⊎_elim (λ below. below) (λ past. absurd (both_ways _ (ap p (get_or_past entries k None past) ∙ outside) passes)) (cases_lt k (length entries))

pub shows_within : (page : ℕ) (entries : List (Option Pte)) (k : ℕ) → shows page (get_or entries k None) ≡ true → k < length entries
shows_within page entries k is = passes_within (shows page) entries k refl is

pub count_by-positive : (p : Option Pte → Bool) (entries : List (Option Pte)) (k : ℕ) → p None ≡ false → p (get_or entries k None) ≡ true → 1 ≤ count_by p entries
count_by-positive p entries k outside passes = omega (arith, ap one_if passes, get_or-le-sum_by (λ x. cond (p x) 1 0) entries k None (passes_within p entries k outside passes))

pub showing-cleared : (page : ℕ) (entries : List (Option Pte)) (k : ℕ) → shows page (get_or entries k None) ≡ true → count_by (shows page) (set entries k None) + 1 ≡ count_by (shows page) entries
showing-cleared page entries k is = omega (arith, count_by-set (shows page) entries k None (shows_within page entries k is), ap one_if is)

-- where none is counted, none shows the page
pub none_shows : (page : ℕ) (entries : List (Option Pte)) → count_by (shows page) entries ≡ 0 → (k : ℕ) → shows page (get_or entries k None) ≡ false
none_shows page entries none k = false_from_ne_true _ (λ is. absurd (omega (arith, count_by-positive (shows page) entries k refl is)))

-- ---- the entries of a page are gone

pub get_or-unless_shows : (page : ℕ) (entries : List (Option Pte)) (k : ℕ) → get_or (map (unless_shows page) entries) k None ≡ unless_shows page (get_or entries k None)
get_or-unless_shows page [] k = refl
get_or-unless_shows page (x ∷ xs) zero = refl
get_or-unless_shows page (x ∷ xs) (suc k) = get_or-unless_shows page xs k

-- an entry of the page that is cleared makes no difference
pub unless_shows-set : (page : ℕ) (entries : List (Option Pte)) (k : ℕ) → shows page (get_or entries k None) ≡ true → map (unless_shows page) (set entries k None) ≡ map (unless_shows page) entries
unless_shows-set page [] k is = refl
unless_shows-set page (x ∷ xs) zero is = ap (λ entry. entry ∷ map (unless_shows page) xs) (sym (unless_shows-own page x is))
unless_shows-set page (x ∷ xs) (suc k) is = ap (λ entries. unless_shows page x ∷ entries) (unless_shows-set page xs k is)

-- where none shows the page, all stay
pub unless_shows-none : (page : ℕ) (entries : List (Option Pte)) → ((k : ℕ) → shows page (get_or entries k None) ≡ false) → map (unless_shows page) entries ≡ entries
unless_shows-none page [] none = refl
unless_shows-none page (x ∷ xs) none =
    ap (λ entry. entry ∷ map (unless_shows page) xs) (unless_shows-other page x (none 0)) ∙ ap (λ entries. x ∷ entries) (unless_shows-none page xs (λ k. none (suc k)))

-- a test is counted anew, entry by entry
count_by-map : (p q : Option Pte → Bool) (f : Option Pte → Option Pte) (entries : List (Option Pte)) → ((x : Option Pte) → p (f x) ≡ q x) → count_by p (map f entries) ≡ count_by q entries
count_by-map p q f [] same = refl
count_by-map p q f (x ∷ xs) same =
    sum_by-cons (λ y. cond (p y) 1 0) (f x) (map f xs)
    ∙ ap (λ b. cond b 1 0 + count_by p (map f xs)) (same x)
    ∙ ap (λ n. cond (q x) 1 0 + n) (count_by-map p q f xs same)
    ∙ sym (sum_by-cons (λ y. cond (q y) 1 0) x xs)

count_by-never : (entries : List (Option Pte)) → count_by (λ _. false) entries ≡ 0
count_by-never [] = refl
count_by-never (x ∷ xs) = count_by-never xs

pub count_by-none : (p : Option Pte → Bool) (n : ℕ) → p None ≡ false → count_by p (replicate n None) ≡ 0
count_by-none p zero none = refl
count_by-none p (suc n) none =
    sum_by-cons (λ y. one_if (p y)) None (replicate n None) ∙ ap (λ b. one_if b + count_by p (replicate n None)) none ∙ zero-add (count_by p (replicate n None)) ∙ count_by-none p n none

shows-gone : (page : ℕ) (entry : Option Pte) → shows page (unless_shows page entry) ≡ false
shows-gone page entry =
    ⊎_elim
    (λ is. ap (shows page) (unless_shows-own page entry is))
    (λ is. ap (shows page) (unless_shows-other page entry is) ∙ is)
    (cases_Bool (shows page entry))

stores-stays : (page other : ℕ) (entry : Option Pte) → other ≢ page → stores_to other (unless_shows page entry) ≡ stores_to other entry
stores-stays page other entry apart =
    ⊎_elim
    (λ is. ap (stores_to other) (unless_shows-own page entry is) ∙ sym (false_from_ne_true _ (λ stores. apart (shows_exact other page entry (stores_shows other entry stores) is))))
    (λ is. ap (stores_to other) (unless_shows-other page entry is))
    (cases_Bool (shows page entry))

pub showing-gone : (page : ℕ) (entries : List (Option Pte)) → count_by (shows page) (map (unless_shows page) entries) ≡ 0
showing-gone page entries = count_by-map (shows page) (λ _. false) (unless_shows page) entries (shows-gone page) ∙ count_by-never entries

pub writers-gone : (page : ℕ) (entries : List (Option Pte)) → count_by (stores_to page) (map (unless_shows page) entries) ≡ 0
writers-gone page entries = count_by-map (stores_to page) (λ _. false) (unless_shows page) entries (λ x. stores-not_shown page (unless_shows page x) (shows-gone page x)) ∙ count_by-never entries

pub writers-stay : (page other : ℕ) (entries : List (Option Pte)) → other ≢ page → count_by (stores_to other) (map (unless_shows page) entries) ≡ count_by (stores_to other) entries
writers-stay page other entries apart = count_by-map (stores_to other) (stores_to other) (unless_shows page) entries (λ x. stores-stays page other x apart)
