-- What a page's frame and the free frames are seen as, after one went from the one to the others.
use Rattle.std.specs.Prelude.{◌≡◌, refl, ℕ, ◌+◌, ◌-◌, ◌<◌, List, [], ◌∷◌, ◌++◌, length, take, map, Bool, true, false, Option, Some, None, is_some, All, replicate, slice_get, slice_index_or, slice_set}
use Rattle.std.specs.List.{range_with_len}
use Rattle.std.specs.Option.{option_map, option_to_list}
use Rattle.std.proofs.Common.{arith, ap, sym, subst, ◌∙◌}
use Rattle.std.proofs.lemmas.List.{map-set, map-append, get_or-map, length-map, take-map, set-get_or, length-append}
use Rattle.std.proofs.Math.Seq.{take-append_seam}
use Rattle.std.proofs.lemmas.List.Sums.{sum_by-cons, sum_by-set}
use Rattle.std.proofs.lemmas.Option.{slice_get-map}
use Rattle.cmm_types.specs.Bytes.{with_bytes}
use Rattle.essa_state.specs.PageBody.{Body, frame_bytes}
use Rattle.page_arena.specs.FrameView.{RegionView, FrameView, zero_frame, first_frames}
use Rattle.host_plain.specs.MemoryState.{IsWholeBody, no_body, frameless, body_with_bytes}
use Rattle.host_plain.specs.Numbering.{number_at, renumbered}
use Rattle.host_plain.specs.Bodies.{PageParts, BodiesView, body_of, written_parts, without_frame, frame_number_of, frames_in, framed_of, bodies_view, body_in, with_body, opening_bodies}

-- as many pages as bodies
pub inside-of : (pages : List PageParts) (free : List FrameView) (frames place : ℕ) (v : BodiesView) → bodies_view pages free frames ≡ v → place < length v.bodies → place < length pages
inside-of pages free frames place v seen below = subst (λ n. place < n) (length-map pages body_of) (subst (λ (w : BodiesView). place < length w.bodies) (sym seen) below)

-- the page at a place, by its body and by its number
pub body-at : (pages : List PageParts) (free : List FrameView) (frames place : ℕ) (page : PageParts) → place < length pages → page ≡ slice_index_or pages place page →
    body_in (bodies_view pages free frames) place ≡ body_of page
body-at pages free frames place page below found = get_or-map body_of pages place page no_body below ∙ ap body_of (sym found)

number-at : (pages : List PageParts) (spare : List ℕ) (place : ℕ) (page : PageParts) → place < length pages → page ≡ slice_index_or pages place page →
    number_at (record { taken = map frame_number_of pages; spare = spare }) place ≡ frame_number_of page
number-at pages spare place page below found = get_or-map frame_number_of pages place page None below ∙ ap frame_number_of (sym found)

same-view : (a b : List Body) (s t : List (Option ℕ)) (x y : List ℕ) (frames : ℕ) → a ≡ b → s ≡ t → x ≡ y →
    ◌≡◌ {A = BodiesView} (record { bodies = a; numbers = record { taken = s; spare = x }; frames = frames }) (record { bodies = b; numbers = record { taken = t; spare = y }; frames = frames })
same-view a b s t x y frames p q r = λ i. record { bodies = p i; numbers = record { taken = q i; spare = r i }; frames = frames }

renumbered-as : (b : BodiesView) (place : ℕ) (body : Body) (had has : Bool) → is_some (body_in b place).frame ≡ had → is_some body.frame ≡ has →
    record b { bodies = slice_set b.bodies place body; numbers = renumbered b.numbers place had has } ≡ with_body b place body
renumbered-as b place body had has was now =
    ap (λ (h : Bool). let v : BodiesView = record b { bodies = slice_set b.bodies place body; numbers = renumbered b.numbers place h has } in v) (sym was)
    ∙ ap (λ (h : Bool). let v : BodiesView = record b { bodies = slice_set b.bodies place body; numbers = renumbered b.numbers place (is_some (body_in b place).frame) h } in v) (sym now)

-- the page's frame went behind the free ones
freed-view : (pages : List PageParts) (free all : List FrameView) (frames place : ℕ) (old new : PageParts) (frame : FrameView) (body : Body) → place < length pages →
    old ≡ slice_index_or pages place old → old.frame ≡ Some frame → new.frame ≡ None → body_of new ≡ body → all ≡ free ++ frame ∷ [] →
    bodies_view (slice_set pages place new) all frames ≡ with_body (bodies_view pages free frames) place body
freed-view pages free all frames place old new frame body below found had gone made grown =
    let v : BodiesView = bodies_view pages free frames in
    let was : is_some (body_in v place).frame ≡ true =
    ap (λ (b : Body). is_some b.frame) (body-at pages free frames place old below found) ∙ ap (λ (o : Option FrameView). is_some (option_map (λ f. f.bytes) o)) had in
    let now : is_some body.frame ≡ false = ap (λ (b : Body). is_some b.frame) (sym made) ∙ ap (λ (o : Option FrameView). is_some (option_map (λ f. f.bytes) o)) gone in
    let number : number_at v.numbers place ≡ Some frame.number = number-at pages v.numbers.spare place old below found ∙ ap (λ (o : Option FrameView). option_map (λ f. f.number) o) had in
    same-view _ _ _ _ _ _ frames
    (map-set body_of pages place new ∙ ap (slice_set v.bodies place) made)
    (map-set frame_number_of pages place new ∙ ap (λ (o : Option FrameView). slice_set v.numbers.taken place (option_map (λ f. f.number) o)) gone)
    (ap (map (λ f. f.number)) grown ∙ map-append (λ f. f.number) free (frame ∷ []) ∙ ap (λ (o : Option ℕ). v.numbers.spare ++ option_to_list o) (sym number))
    ∙ renumbered-as v place body true false was now

-- the last of the free frames went to the page
taken-view : (pages : List PageParts) (free : List FrameView) (frames place : ℕ) (old new : PageParts) (frame : FrameView) (body : Body) → place < length pages →
    old ≡ slice_index_or pages place old → old.frame ≡ None → slice_get free (length free - 1) ≡ Some frame → option_map (λ f. f.number) new.frame ≡ Some frame.number → is_some body.frame ≡ true →
    body_of new ≡ body →
    bodies_view (slice_set pages place new) (take (length free - 1) free) frames ≡ with_body (bodies_view pages free frames) place body
taken-view pages free frames place old new frame body below found had last got now made =
    let v : BodiesView = bodies_view pages free frames in
    let was : is_some (body_in v place).frame ≡ false =
    ap (λ (b : Body). is_some b.frame) (body-at pages free frames place old below found) ∙ ap (λ (o : Option FrameView). is_some (option_map (λ f. f.bytes) o)) had in
    let count : length v.numbers.spare ≡ length free = length-map free (λ f. f.number) in
    let number : slice_get v.numbers.spare (length v.numbers.spare - 1) ≡ Some frame.number =
    ap (λ n. slice_get v.numbers.spare (n - 1)) count ∙ slice_get-map (λ f. f.number) free (length free - 1) ∙ ap (λ (o : Option FrameView). option_map (λ f. f.number) o) last in
    same-view _ _ _ _ _ _ frames
    (map-set body_of pages place new ∙ ap (slice_set v.bodies place) made)
    (map-set frame_number_of pages place new ∙ ap (slice_set v.numbers.taken place) (got ∙ sym number))
    (sym (take-map (λ f. f.number) (length free - 1) free) ∙ ap (λ n. take (n - 1) v.numbers.spare) (sym count))
    ∙ renumbered-as v place body false true was now

-- the page's bytes changed
written-view : (pages : List PageParts) (free : List FrameView) (frames place : ℕ) (old new : PageParts) (body : Body) → place < length pages →
    old ≡ slice_index_or pages place old → frame_number_of new ≡ frame_number_of old → body_of new ≡ body →
    bodies_view (slice_set pages place new) free frames ≡ record (bodies_view pages free frames) { bodies = slice_set (map body_of pages) place body }
written-view pages free frames place old new body below found number made =
    same-view _ _ _ _ _ _ frames
    (map-set body_of pages place new ∙ ap (slice_set (map body_of pages) place) made)
    (map-set frame_number_of pages place new ∙ ap (slice_set (map frame_number_of pages) place) (number ∙ sym (number-at pages [] place old below found))
    ∙ set-get_or (map frame_number_of pages) place None)
    refl

no-frame : (o : Option FrameView) → is_some (option_map (λ f. f.bytes) o) ≡ false → o ≡ None
no-frame None absent = refl
no-frame (Some frame) absent = absurd (cc)

some-frame : (o : Option FrameView) → is_some (option_map (λ f. f.bytes) o) ≡ is_some o
some-frame None = refl
some-frame (Some frame) = refl

-- a page whose body has a frame
pub there-frame : (pages : List PageParts) (free : List FrameView) (frames place : ℕ) (page : PageParts) (v : BodiesView) → bodies_view pages free frames ≡ v → place < length v.bodies →
    page ≡ slice_index_or pages place page → is_some (body_in v place).frame ≡ true → is_some page.frame ≡ true
there-frame pages free frames place page v seen below found there =
    sym (some-frame page.frame) ∙ ap (λ (b : Body). is_some b.frame) (sym (body-at pages free frames place page (inside-of pages free frames place v seen below) found))
    ∙ ap (λ (w : BodiesView). is_some (body_in w place).frame) seen ∙ there

-- a page whose body has no frame
pub absent-frame : (pages : List PageParts) (free : List FrameView) (frames place : ℕ) (page : PageParts) (v : BodiesView) → bodies_view pages free frames ≡ v → place < length v.bodies →
    page ≡ slice_index_or pages place page → is_some (body_in v place).frame ≡ false → page.frame ≡ None
absent-frame pages free frames place page v seen below found absent =
    no-frame page.frame
    (ap (λ (b : Body). is_some b.frame) (sym (body-at pages free frames place page (inside-of pages free frames place v seen below) found))
    ∙ ap (λ (w : BodiesView). is_some (body_in w place).frame) seen ∙ absent)

slice_get-append_seam : (left : List FrameView) (frame : FrameView) → slice_get (left ++ frame ∷ []) (length left) ≡ Some frame
slice_get-append_seam [] frame = refl
slice_get-append_seam (first ∷ left) frame = slice_get-append_seam left frame

-- the same of bodies that are seen as a view, whose page's body is changed by a function
module _ (pages : List PageParts) (free : List FrameView) (frames place : ℕ) (old new : PageParts) (f : Body → Body) (v : BodiesView) (seen : bodies_view pages free frames ≡ v)
    (below : place < length v.bodies) (found : old ≡ slice_index_or pages place old) (made : body_of new ≡ f (body_of old)) where
  inside : place < length pages
  inside = inside-of pages free frames place v seen below

  becomes : body_of new ≡ f (body_in (bodies_view pages free frames) place)
  becomes = made ∙ ap f (sym (body-at pages free frames place old inside found))

  pub freed : (all : List FrameView) (frame : FrameView) → old.frame ≡ Some frame → new.frame ≡ None → all ≡ free ++ frame ∷ [] →
      bodies_view (slice_set pages place new) all frames ≡ with_body v place (f (body_in v place))
  freed all frame had gone grown =
      subst (λ (w : BodiesView). bodies_view (slice_set pages place new) all frames ≡ with_body w place (f (body_in w place))) seen
      (freed-view pages free all frames place old new frame (f (body_in (bodies_view pages free frames) place)) inside found had gone becomes grown)

  pub taken : (left : List FrameView) (frame : FrameView) (popped : Option FrameView) (bytes : List ℕ) → old.frame ≡ None → free ≡ left ++ option_to_list popped → popped ≡ Some frame →
      new.frame ≡ Some (record frame { bytes = bytes }) → bodies_view (slice_set pages place new) left frames ≡ with_body v place (f (body_in v place))
  taken left frame popped bytes had parted out got =
      let whole : free ≡ left ++ frame ∷ [] = parted ∙ ap (λ (o : Option FrameView). left ++ option_to_list o) out in
      let all : length free ≡ length left + 1 = ap length whole ∙ length-append left (frame ∷ []) in
      let last : length free - 1 ≡ length left = omega (arith, all) in
      let there : slice_get free (length free - 1) ≡ Some frame =
      ap (slice_get free) last ∙ ap (λ (l : List FrameView). slice_get l (length left)) whole ∙ slice_get-append_seam left frame in
      let rest : take (length free - 1) free ≡ left = ap (λ n. take n free) last ∙ ap (take (length left)) whole ∙ take-append_seam left (frame ∷ []) in
      ap (λ (l : List FrameView). bodies_view (slice_set pages place new) l frames) (sym rest)
      ∙ subst (λ (w : BodiesView). bodies_view (slice_set pages place new) (take (length free - 1) free) frames ≡ with_body w place (f (body_in w place))) seen
      (taken-view pages free frames place old new frame (f (body_in (bodies_view pages free frames) place)) inside found had there
      (ap (λ (o : Option FrameView). option_map (λ f. f.number) o) got)
      (ap (λ (b : Body). is_some b.frame) (sym becomes) ∙ ap (λ (o : Option FrameView). is_some (option_map (λ f. f.bytes) o)) got) becomes)

  pub written : frame_number_of new ≡ frame_number_of old → bodies_view (slice_set pages place new) free frames ≡ record v { bodies = slice_set v.bodies place (f (body_in v place)) }
  written number =
      subst (λ (w : BodiesView). bodies_view (slice_set pages place new) free frames ≡ record w { bodies = slice_set w.bodies place (f (body_in w place)) }) seen
      (written-view pages free frames place old new (f (body_in (bodies_view pages free frames) place)) inside found number becomes)

-- a page whose frame's bytes are written
pub written-body : (page : PageParts) (off : ℕ) (bytes : List ℕ) → is_some page.frame ≡ true
    → body_of (written_parts page off bytes) ≡ body_with_bytes (body_of page) (with_bytes (frame_bytes (body_of page)) off bytes)
written-body page off bytes some = at page.frame some
  where
    at : (o : Option FrameView) → is_some o ≡ true →
        let p : PageParts = record page { frame = o } in body_of (written_parts p off bytes) ≡ body_with_bytes (body_of p) (with_bytes (frame_bytes (body_of p)) off bytes)
    at None some = absurd (cc)
    at (Some frame) some = refl

pub written-number : (page : PageParts) (off : ℕ) (bytes : List ℕ) → frame_number_of (written_parts page off bytes) ≡ frame_number_of page
written-number page off bytes = at page.frame
  where
    at : (o : Option FrameView) → let p : PageParts = record page { frame = o } in frame_number_of (written_parts p off bytes) ≡ frame_number_of p
    at None = refl
    at (Some frame) = refl

-- how many pages have a frame, after one changed
pub framed-set : (pages : List PageParts) (place : ℕ) (old new : PageParts) → place < length pages → old ≡ slice_index_or pages place old →
    framed_of (slice_set pages place new) + frames_in old ≡ framed_of pages + frames_in new
framed-set pages place old new below found =
    ap (λ (p : PageParts). framed_of (slice_set pages place new) + frames_in p) found ∙ sum_by-set frames_in pages place new old below

-- as the bodies are opened
pub without-framed : (blocks : List (List ℕ)) → framed_of (map without_frame blocks) ≡ 0
without-framed [] = refl
without-framed (block ∷ blocks) = sum_by-cons frames_in (without_frame block) (map without_frame blocks) ∙ omega (arith, without-framed blocks)

without-bodies : (blocks : List (List ℕ)) → map body_of (map without_frame blocks) ≡ map frameless blocks
without-bodies [] = refl
without-bodies (block ∷ blocks) = ap (λ (bs : List Body). frameless block ∷ bs) (without-bodies blocks)

without-numbers : (blocks : List (List ℕ)) → map frame_number_of (map without_frame blocks) ≡ replicate (length blocks) None
without-numbers [] = refl
without-numbers (block ∷ blocks) = ap (λ (ns : List (Option ℕ)). None ∷ ns) (without-numbers blocks)

in-order : (region : RegionView) (numbers : List ℕ) → map (λ frame. frame.number) (map (zero_frame region) numbers) ≡ numbers
in-order region [] = refl
in-order region (number ∷ numbers) = ap (λ (ns : List ℕ). number ∷ ns) (in-order region numbers)

pub opening-view : (blocks : List (List ℕ)) (frames : ℕ) (region : RegionView) (pages : List PageParts) (free : List FrameView) → pages ≡ map without_frame blocks → free ≡ first_frames region →
    region.count ≡ frames → bodies_view pages free frames ≡ opening_bodies blocks frames
opening-view blocks frames region pages free made all count =
    same-view _ _ _ _ _ _ frames (ap (map body_of) made ∙ without-bodies blocks) (ap (map frame_number_of) made ∙ without-numbers blocks)
    (ap (map (λ frame. frame.number)) all ∙ in-order region (range_with_len 0 region.count) ∙ ap (range_with_len 0) count)

pub whole-bodies : (pages : List PageParts) → All (λ page. IsWholeBody (body_of page)) pages → All IsWholeBody (map body_of pages)
whole-bodies pages whole k d below =
    let inside : k < length pages = subst (λ n. k < n) (length-map pages body_of) below in
    subst (λ (b : Body). IsWholeBody b) (sym (get_or-map body_of pages k (without_frame []) d inside)) (whole k (without_frame []) inside)
