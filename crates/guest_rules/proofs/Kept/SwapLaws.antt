-- Which tag has which swap slot, and what stays where a swap slot is assigned, or isn't any more.
use Rattle.std.proofs.Common.{◌≡◌, ◌≢◌, ◌<◌, ◌+◌, ◌==◌, ℕ, true, false, List, length, set, sum, slice_index_or}
use Rattle.std.proofs.Common.{Option, Some, None, refl, ap, sym, ◌∙◌, inl, inr, position, get_or-set_same, get_or-set_other}
use Rattle.std.specs.Prelude.{IsSome}
use Rattle.std.proofs.lemmas.Bool.{and_parts, eqb-true, cases_eq, false_from_ne_true}
use Rattle.std.proofs.lemmas.List.Quantifiers.{position-Some}
use Rattle.cmm_types.specs.declared.page.Tag.{Tag}
use Rattle.cmm_types.specs.declared.page.Tag.TheVariants.{File, Anon}
use Rattle.guest_cache.specs.CacheView.{CacheView, page_of, holds_page, swap_slot, swap_block, backing_of, HasOneSwapSlot}
use Rattle.guest_cache.specs.Laws.CacheLaws.{holds-itself}
use Rattle.guest_maps.specs.FirstPlace.{position_kept, position_none, none_passes}

-- the tag that a swap slot is assigned to
abbrev pub swap_tag : CacheView → ℕ → Option Tag
swap_tag cache number = slice_index_or cache.swap number None

pub holds-is : (slot index : ℕ) (o : Option Tag) → holds_page slot index o ≡ true → o ≡ Some (Anon slot index)
holds-is slot index None e = let bad : false ≡ true = e in absurd cc
holds-is slot index (Some (File file at)) e = let bad : false ≡ true = e in absurd cc
holds-is slot index (Some (Anon other at)) e =
    let both = and_parts (slot == other) (index == at) e in
    let same = eqb-true slot other both.0 in
    let page = eqb-true index at both.1 in
    λ k. Some (Anon (sym same k) (sym page k))

holds-other : (slot index : ℕ) (o : Option Tag) → o ≢ Some (Anon slot index) → holds_page slot index o ≡ false
holds-other slot index o other = false_from_ne_true (holds_page slot index o) (λ e. other (holds-is slot index o e))

-- the swap slot of a tag is assigned to it
pub swap_slot-is : (cache : CacheView) (slot index number : ℕ) → swap_slot cache (Anon slot index) ≡ Some number
    → (number < length cache.swap) × (swap_tag cache number ≡ Some (Anon slot index))
swap_slot-is cache slot index number e =
    let k = position-Some (holds_page slot index) cache.swap number None e in
    (k.0, holds-is slot index (swap_tag cache number) k.1)

-- a tag that no swap slot is assigned to has none
pub swap_slot-none : (cache : CacheView) (slot index : ℕ) → ((number : ℕ) → swap_tag cache number ≢ Some (Anon slot index)) → swap_slot cache (Anon slot index) ≡ None
swap_slot-none cache slot index none = position_none (holds_page slot index) cache.swap None (λ j below. holds-other slot index (swap_tag cache j) (none j))

-- ---- one swap slot is another tag's, or nobody's

-- the tag of a swap slot is another; all else is as it was
pub record SwapChange (old new : CacheView) (number : ℕ) (holder : Option Tag) : Type 0 where
  pub below : number < length old.swap
  pub files : new.files ≡ old.files
  pub slots : new.slots ≡ old.slots
  pub index : new.index ≡ old.index
  pub swap : new.swap ≡ set old.swap number holder

pub swap-here : (old new : CacheView) (number : ℕ) (holder : Option Tag) → SwapChange old new number holder → swap_tag new number ≡ holder
swap-here old new number holder k = ap (λ (tags : List (Option Tag)). slice_index_or tags number None) k.swap ∙ get_or-set_same old.swap number holder None k.below

pub swap-others : (old new : CacheView) (number : ℕ) (holder : Option Tag) → SwapChange old new number holder → (other : ℕ) → other ≢ number → swap_tag new other ≡ swap_tag old other
swap-others old new number holder k other n =
    ap (λ (tags : List (Option Tag)). slice_index_or tags other None) k.swap ∙ get_or-set_other old.swap number other holder None n

-- the index is as it was
pub page_of-swapped : (old new : CacheView) (tag : Tag) → new.files ≡ old.files → new.index ≡ old.index → page_of new tag ≡ page_of old tag
page_of-swapped old new (File file index) files places = λ i. page_of (record old { files = files i; index = places i }) (File file index)
page_of-swapped old new (Anon slot index) files places = λ i. page_of (record old { files = files i; index = places i }) (Anon slot index)

-- a tag that it was not, and is not, has the swap slot that it had
pub swap_slot-other : (old new : CacheView) (number : ℕ) (holder : Option Tag) (tag : Tag) → SwapChange old new number holder → swap_tag old number ≢ Some tag → holder ≢ Some tag
    → swap_slot new tag ≡ swap_slot old tag
swap_slot-other old new number holder (File file index) k was is = refl
swap_slot-other old new number holder (Anon slot index) k was is =
    ap (position (holds_page slot index)) k.swap
    ∙ position_kept (holds_page slot index) old.swap number holder None (holds-other slot index holder is ∙ sym (holds-other slot index (swap_tag old number) was))

-- a tag's block depends on its swap slot
pub backing_of-other : (old new : CacheView) (tag : Tag) → new.files ≡ old.files → swap_slot new tag ≡ swap_slot old tag → backing_of new tag ≡ backing_of old tag
backing_of-other old new (File file index) files same = λ i. backing_of (record old { files = files i }) (File file index)
backing_of-other old new (Anon slot index) files same = λ i. swap_block (files i) (same i)

-- no tag has two swap slots, where the one that it is has none yet
pub distinct-assigned : (old new : CacheView) (number : ℕ) (tag : Tag) → SwapChange old new number (Some tag) → HasOneSwapSlot old → ((other : ℕ) → swap_tag old other ≢ Some tag)
    → HasOneSwapSlot new
distinct-assigned old new number tag k distinct none a b t e e' = elim (cases_eq a number) [
  | inl z ↦ elim (cases_eq b number) [
    | inl y ↦ z ∙ sym y
    | inr n ↦ absurd (none b (sym (there b n) ∙ e' ∙ sym (mine a t z e)))
  ]
  | inr n ↦ elim (cases_eq b number) [
    | inl y ↦ absurd (none a (sym (there a n) ∙ e ∙ sym (mine b t y e')))
    | inr m ↦ distinct a b t (sym (there a n) ∙ e) (sym (there b m) ∙ e')
  ]
]
  where
    there : (other : ℕ) → other ≢ number → swap_tag new other ≡ swap_tag old other
    there = swap-others old new number (Some tag) k

    mine : (a : ℕ) (t : Tag) → a ≡ number → swap_tag new a ≡ Some t → Some tag ≡ Some t
    mine a t z e = sym (swap-here old new number (Some tag) k) ∙ ap (swap_tag new) (sym z) ∙ e

pub distinct-released : (old new : CacheView) (number : ℕ) → SwapChange old new number None → HasOneSwapSlot old → HasOneSwapSlot new
distinct-released old new number k distinct a b t e e' = distinct a b t (was a t e) (was b t e')
  where
    was : (a : ℕ) (t : Tag) → swap_tag new a ≡ Some t → swap_tag old a ≡ Some t
    was a t e = elim (cases_eq a number) [
      | inl z ↦ let bad : None ≡ Some t = sym (swap-here old new number None k) ∙ ap (swap_tag new) (sym z) ∙ e in absurd cc
      | inr n ↦ sym (swap-others old new number None k a n) ∙ e
    ]

-- the tag whose swap slot isn't assigned any more has none
pub swap_slot-released : (old new : CacheView) (slot index number : ℕ) → SwapChange old new number None → HasOneSwapSlot old → swap_tag old number ≡ Some (Anon slot index)
    → swap_slot new (Anon slot index) ≡ None
swap_slot-released old new slot index number k distinct was = swap_slot-none new slot index none
  where
    none : (other : ℕ) → swap_tag new other ≢ Some (Anon slot index)
    none other e = elim (cases_eq other number) [
      | inl z ↦ let bad : None ≡ Some (Anon slot index) = sym (swap-here old new number None k) ∙ ap (swap_tag new) (sym z) ∙ e in cc
      | inr n ↦ n (distinct other number (Anon slot index) (sym (swap-others old new number None k other n) ∙ e) was)
    ]

-- and a tag without a swap slot is assigned to none
pub swap_slot-nowhere : (cache : CacheView) (slot index number : ℕ) → swap_slot cache (Anon slot index) ≡ None → swap_tag cache number ≢ Some (Anon slot index)
swap_slot-nowhere cache slot index number none e =
    let bad : false ≡ true =
    sym (none_passes (holds_page slot index) cache.swap None none refl number) ∙ ap (holds_page slot index) e ∙ holds-itself slot index in
    cc

-- an anonymous page's tag has a block exactly where it has a swap slot
pub has_block-slot : (cache : CacheView) (slot index block : ℕ) → backing_of cache (Anon slot index) ≡ Some block → IsSome (swap_slot cache (Anon slot index))
has_block-slot cache slot index block e = of (swap_slot cache (Anon slot index)) e
  where
    of : (o : Option ℕ) → swap_block cache.files o ≡ Some block → IsSome o
    of None at = let bad : None ≡ Some block = at in absurd cc
    of (Some number) at = refl

pub has_slot-block : (cache : CacheView) (slot index : ℕ) → IsSome (swap_slot cache (Anon slot index)) → (block : ℕ) × (backing_of cache (Anon slot index) ≡ Some block)
has_slot-block cache slot index some = of (swap_slot cache (Anon slot index)) some
  where
    of : (o : Option ℕ) → IsSome o → (block : ℕ) × (swap_block cache.files o ≡ Some block)
    of None is = let bad : false ≡ true = is in absurd cc
    of (Some number) is = (sum cache.files + number, refl)

pub kept-slot : (old new : CacheView) (slot index : ℕ) → backing_of new (Anon slot index) ≡ backing_of old (Anon slot index) → IsSome (swap_slot old (Anon slot index))
    → IsSome (swap_slot new (Anon slot index))
kept-slot old new slot index same some = let k = has_slot-block old slot index some in has_block-slot new slot index k.0 (same ∙ k.1)
