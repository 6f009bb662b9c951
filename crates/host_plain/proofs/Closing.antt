-- What a host that is closed gives back: every frame of its region.
use Rattle.std.specs.Prelude.{◌≡◌, refl, ℕ, zero, suc, ◌+◌, ◌==◌, ◌<◌, ◌≤◌, List, [], ◌∷◌, ◌++◌, length, map, take, drop}
use Rattle.std.specs.Prelude.{slice_index_or, filter, not, Bool, true, false, Option, Some, None, IfSome, All, nat_lt, if◌then◌else◌}
use Rattle.std.specs.List.{sum_by, range_with_len}
use Rattle.std.specs.Option.{option_map, option_to_list}
use Rattle.std.proofs.Common.{arith, ap, sym, subst, ◌∙◌, zero-add}
use Rattle.std.proofs.Math.Seq.{take-append_seam, drop-append_seam, get_or-append_seam}
use Rattle.std.proofs.lemmas.List.{map-append, append-nil, append_assoc, get_or_append_left, get_or-map, length-append, length-map}
use Rattle.std.proofs.lemmas.List.Elements.{All-append, All-push}
use Rattle.std.proofs.lemmas.List.Sums.{sum_by-append, sum_by-cons}
use Rattle.page_arena.specs.FrameView.{RegionView, FrameView, IsOf, has_number, missing}
use Rattle.host_plain.specs.Numbering.{Numbering, is_number, is_taken}
use Rattle.host_plain.specs.Bodies.{PageParts, BodiesView, IsFramedOf, bodies_view, frames_back, frame_number_of, without_frame}

-- the frame of the last page comes first
pub frames_back-append : (pages : List PageParts) (page : PageParts) → frames_back (pages ++ page ∷ []) ≡ option_to_list page.frame ++ frames_back pages
frames_back-append [] page = sym (append-nil (option_to_list page.frame))
frames_back-append (first ∷ pages) page =
    ap (λ (fs : List FrameView). fs ++ option_to_list first.frame) (frames_back-append pages page) ∙ append_assoc (option_to_list page.frame) (frames_back pages) (option_to_list first.frame)

one-of : (region : RegionView) (frame : Option FrameView) → IfSome frame (IsOf region) → All (IsOf region) (option_to_list frame)
one-of region None is = λ k d below. absurd (omega (arith, below))
one-of region (Some frame) is = All-push (IsOf region) [] frame (λ k d below. absurd (omega (arith, below))) is

-- all of them are of the region
pub back-of : (region : RegionView) (pages : List PageParts) → All (IsFramedOf region) pages → All (IsOf region) (frames_back pages)
back-of region [] all = λ k d below. absurd (omega (arith, below))
back-of region (page ∷ pages) all =
    All-append (IsOf region) (frames_back pages) (option_to_list page.frame)
    (back-of region pages (λ k d below. all (suc k) d (omega (arith, below)))) (one-of region page.frame (all 0 page (omega arith)))

-- how often a number is among the frames of pages
abbrev numbers_of : List FrameView → List ℕ
numbers_of frames = map (λ frame. frame.number) frames

one-number : (number : ℕ) (frame : Option FrameView) → sum_by (is_number number) (numbers_of (option_to_list frame)) ≡ is_taken number (option_map (λ f. f.number) frame)
one-number number None = refl
one-number number (Some frame) = zero-add (is_number number frame.number)

pub back-numbers : (number : ℕ) (pages : List PageParts) → sum_by (is_number number) (numbers_of (frames_back pages)) ≡ sum_by (is_taken number) (map frame_number_of pages)
back-numbers number [] = refl
back-numbers number (page ∷ pages) =
    let parted : sum_by (is_number number) (numbers_of (frames_back pages ++ option_to_list page.frame)) ≡
    sum_by (is_number number) (numbers_of (frames_back pages)) + sum_by (is_number number) (numbers_of (option_to_list page.frame)) =
    ap (sum_by (is_number number)) (map-append (λ f. f.number) (frames_back pages) (option_to_list page.frame))
    ∙ sum_by-append (is_number number) (numbers_of (frames_back pages)) (numbers_of (option_to_list page.frame)) in
    omega (arith, parted, back-numbers number pages, one-number number page.frame, sum_by-cons (is_taken number) (frame_number_of page) (map frame_number_of pages))

-- a number that counts is there
there : (number : ℕ) (frames : List FrameView) → 1 ≤ sum_by (is_number number) (numbers_of frames) → has_number frames number ≡ true
there number [] some = absurd (omega (arith, some))
there number (frame ∷ frames) some = at (frame.number == number) refl (λ more. there number frames more)
  where
    at : (b : Bool) → (frame.number == number) ≡ b → (1 ≤ sum_by (is_number number) (numbers_of frames) → has_number frames number ≡ true) → has_number (frame ∷ frames) number ≡ true
    at true same behind = rw same refl
    at false other behind =
        let none : is_number number frame.number ≡ 0 = ap (λ (b : Bool). if b then 1 else 0) other in
        rw other (behind (omega (arith, some, none, sum_by-cons (is_number number) frame.number (numbers_of frames))))

none-left : (test : ℕ → Bool) (from n : ℕ) → ((k : ℕ) → from ≤ k → k < from + n → test k ≡ false) → filter test (range_with_len from n) ≡ []
none-left test from zero none = refl
none-left test from (suc n) none = rw (none from (omega arith) (omega arith)) (none-left test (from + 1) n (λ k low high. none k (omega (arith, low)) (omega (arith, high))))

not-true : (b : Bool) → b ≡ true → not b ≡ false
not-true b holds = ap not holds

-- where each number below the count is there as often as in a numbering, none is missing
pub none-missing : (frames : ℕ) (n : Numbering) (gathered : List FrameView)
    → ((number : ℕ) → sum_by (is_taken number) n.taken + sum_by (is_number number) n.spare ≡ (if nat_lt number frames then 1 else 0)) →
    ((number : ℕ) → sum_by (is_number number) (numbers_of gathered) ≡ sum_by (is_taken number) n.taken + sum_by (is_number number) n.spare) → missing frames gathered ≡ []
none-missing frames n gathered once same =
    none-left (λ number. not (has_number gathered number)) 0 frames (λ number low high.
    let one = one-below number frames (omega (arith, high)) in
    not-true (has_number gathered number) (there number gathered (omega (arith, same number, once number, one))))
  where
    one-below : (number frames : ℕ) → number < frames → ◌≡◌ {A = ℕ} (if nat_lt number frames then 1 else 0) 1
    one-below number frames below = grind (arith, below)

all-left : {X : Type 0} (P : X → Type 0) (xs ys : List X) → All P (xs ++ ys) → All P xs
all-left P xs ys all k d below = subst P (get_or_append_left xs ys d k below) (all k d (omega (arith, below, length-append xs ys)))

-- the last of the frames, and those before it
pub last-of : (region : RegionView) (free left : List FrameView) (frame : FrameView) (popped : Option FrameView) → All (IsOf region) free → free ≡ left ++ option_to_list popped → popped ≡ Some frame →
    All (IsOf region) left × IsOf region frame
last-of region free left frame popped all parted out =
    let whole : free ≡ left ++ frame ∷ [] = parted ∙ ap (λ (o : Option FrameView). left ++ option_to_list o) out in
    let both : All (IsOf region) (left ++ frame ∷ []) = subst (λ (fs : List FrameView). All (IsOf region) fs) whole all in (
      all-left (IsOf region) left (frame ∷ []) both,
      ap (λ (f : FrameView). f.region) (sym (get_or-append_seam left frame [] frame)) ∙ both (length left) frame (omega (arith, length-append left (frame ∷ []))),
    )

-- the page at a place
pub page-of : (region : RegionView) (pages : List PageParts) (place : ℕ) (page : PageParts) → All (IsFramedOf region) pages → place < length pages → page ≡ slice_index_or pages place page →
    IsFramedOf region page
page-of region pages place page all below found = subst (λ (p : PageParts). IsFramedOf region p) (sym found) (all place page below)

-- what was put behind the frames that were there
pub behind : (old free new : List FrameView) (n : ℕ) → new ≡ old ++ free → n ≡ length old → (take n new ≡ old) × (drop n new ≡ free)
behind old free new n all count = (
  ap (λ k. take k new) count ∙ ap (take (length old)) all ∙ take-append_seam old free,
  ap (λ k. drop k new) count ∙ ap (drop (length old)) all ∙ drop-append_seam old free,
)

-- how often a number is among the frames of the pages and the free ones
pub all-numbers : (number : ℕ) (pages : List PageParts) (free : List FrameView) (frames : ℕ) (v : BodiesView) → bodies_view pages free frames ≡ v →
    sum_by (is_number number) (numbers_of (free ++ frames_back pages)) ≡ sum_by (is_taken number) v.numbers.taken + sum_by (is_number number) v.numbers.spare
all-numbers number pages free frames v seen =
    let parted : sum_by (is_number number) (numbers_of (free ++ frames_back pages)) ≡ sum_by (is_number number) (numbers_of free) + sum_by (is_number number) (numbers_of (frames_back pages)) =
    ap (sum_by (is_number number)) (map-append (λ f. f.number) free (frames_back pages)) ∙ sum_by-append (is_number number) (numbers_of free) (numbers_of (frames_back pages)) in
    subst (λ (w : BodiesView). sum_by (is_number number) (numbers_of (free ++ frames_back pages)) ≡ sum_by (is_taken number) w.numbers.taken + sum_by (is_number number) w.numbers.spare) seen
    (omega (arith, parted, back-numbers number pages))

-- as the bodies are opened
pub without-of : (region : RegionView) (blocks : List (List ℕ)) → All (IsFramedOf region) (map without_frame blocks)
without-of region blocks k d below =
    let inside : k < length blocks = subst (λ n. k < n) (length-map blocks without_frame) below in
    subst (λ (p : PageParts). IsFramedOf region p) (sym (get_or-map without_frame blocks k [] d inside)) tt
