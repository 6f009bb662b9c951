-- What fit says of one page, its info and its value; what the host may do leaves it.
use Rattle.std.proofs.Common.{◌≡◌, ◌⊎◌, ◌<◌, ◌≤◌, ◌+◌, ℕ, Bool, true, false, List, length, Some, None, is_some, refl, ap, sym, ◌∙◌, inl, inr}
use Rattle.std.specs.Prelude.{IsSome}
use Rattle.std.proofs.lemmas.List.{get_or_past}
use Rattle.std.proofs.lemmas.Bool.{cases_lt}
use Rattle.cmm_types.specs.declared.page.TheConstants.{PAGE}
use Rattle.cmm_types.specs.declared.page.Usage.TheVariants.{U, V}
use Rattle.cmm_types.specs.declared.page.Tag.{Tag}
use Rattle.cmm_types.specs.declared.page.Tag.TheVariants.{File, Anon}
use Rattle.cmm_io.specs.DiskView.{DiskView, AreBlocks}
use Rattle.essa_state.specs.PageValue.{PageValue, Bytes, Lost, IsValue, MayBecome, StandsWith, is_lost, is_blank}
use Rattle.essa_state.specs.Laws.PageValueLaws.{MayBecome-is_value}
use Rattle.cmm_storage.specs.StorageView.{StorageView}
use Rattle.guest_pages.specs.declared.info.PageInfo.{PageInfo}
use Rattle.guest_pages.specs.PagesView.{PagesView, free_info, info_at}
use Rattle.std.specs.List.{position}
use Rattle.guest_cache.specs.CacheView.{CacheView, pages_before, holds_page, swap_slot, swap_block, backing_of}
use Rattle.guest_rules.specs.declared.parts.Parts.{Parts}
use Rattle.guest_rules.specs.Hint.{hint}
use Rattle.guest_rules.specs.Fit.{TagsFit, HintsFit, ContentsFit, backed, backing}
use Rattle.guest_rules.proofs.Rows.ValueLaws.{hint-free, hint-tagged, may-usage, may-unchanged}

-- an anonymous page is dirty, or has a swap slot
abbrev pub IsDirtyOrSlotted : CacheView → PageInfo → (slot index : ℕ) → Type 0
IsDirtyOrSlotted cache info slot index = (info.dirty ≡ true) ⊎ IsSome (swap_slot cache (Anon slot index))

-- the swap slots are the same
pub dirty_or_slotted-same : (old new : CacheView) (info : PageInfo) (slot index : ℕ) → new.swap ≡ old.swap → IsDirtyOrSlotted old info slot index → IsDirtyOrSlotted new info slot index
dirty_or_slotted-same old new info slot index swap (inl dirty) = inl dirty
dirty_or_slotted-same old new info slot index swap (inr some) = inr (ap (λ tags. is_some (position (holds_page slot index) tags)) swap ∙ some)

pub record PageFits (cache : CacheView) (d : DiskView) (info : PageInfo) (value : PageValue) : Type 0 where
  pub is_value : IsValue value
  pub hinted : value.usage ≡ hint info
  pub volatile : value.usage ≡ V → value.changed ≡ false
  pub unused : value.usage ≡ U → value.changed ≡ false
  pub not_blank : (tag : Tag) → info.tag ≡ Some tag → info.uptodate ≡ true → is_blank value.contents ≡ false
  pub whole : (tag : Tag) (bytes : List ℕ) → info.tag ≡ Some tag → info.uptodate ≡ true → value.contents ≡ Bytes bytes → length bytes ≡ PAGE
  pub same : (tag : Tag) → info.tag ≡ Some tag → info.uptodate ≡ true → info.dirty ≡ false → value.changed ≡ false → is_lost value.contents ≡ false
      → value.contents ≡ Bytes (backing cache d tag)
  pub written : (slot index : ℕ) → info.tag ≡ Some (Anon slot index) → (value.changed ≡ true) ⊎ (1 ≤ info.writers) → IsDirtyOrSlotted cache info slot index

changed_before : (b c : Bool) → (b ≡ false → c ≡ false) → c ≡ true → b ≡ true
changed_before true c stays changed = refl
changed_before false c stays changed = let bad : false ≡ true = sym (stays refl) ∙ changed in absurd cc

-- the host may move the page
pub PageFits-may : (cache : CacheView) (d : DiskView) (info : PageInfo) (x y : PageValue) → PageFits cache d info x → MayBecome x y → PageFits cache d info y
PageFits-may cache d info x y s may = record {
  is_value = MayBecome-is_value x y s.is_value may;
  hinted = may-usage x y may ∙ s.hinted;
  volatile = λ u. may-unchanged x y may (s.volatile (sym (may-usage x y may) ∙ u));
  unused = λ u. may-unchanged x y may (s.unused (sym (may-usage x y may) ∙ u));
  not_blank = λ tag t u. blank tag t u may;
  whole = λ tag all t u are. all_of tag all t u are may;
  same = λ tag t u clean unchanged. bytes tag t u clean unchanged may;
  written = λ slot index t some. s.written slot index t (before some);
}
  where
    before : (y.changed ≡ true) ⊎ (1 ≤ info.writers) → (x.changed ≡ true) ⊎ (1 ≤ info.writers)
    before (inl changed) = inl (changed_before x.changed y.changed (may-unchanged x y may) changed)
    before (inr some) = inr some

    tagged : (tag : Tag) → info.tag ≡ Some tag → x.usage ≡ U → ⊥
    tagged tag t u = hint-tagged info tag t (sym s.hinted ∙ u)

    blank : (tag : Tag) → info.tag ≡ Some tag → info.uptodate ≡ true → MayBecome x y → is_blank y.contents ≡ false
    blank tag t u (inl e) = ap (λ (z : PageValue). is_blank z.contents) e ∙ s.not_blank tag t u
    blank tag t u (inr (inl lost)) = ap (λ (z : PageValue). is_blank z.contents) lost.value
    blank tag t u (inr (inr other)) = absurd (tagged tag t other.unused)

    all_of : (tag : Tag) (all : List ℕ) → info.tag ≡ Some tag → info.uptodate ≡ true → y.contents ≡ Bytes all → MayBecome x y → length all ≡ PAGE
    all_of tag all t u are (inl e) = s.whole tag all t u (ap (λ (z : PageValue). z.contents) (sym e) ∙ are)
    all_of tag all t u are (inr (inl lost)) = let bad : Lost ≡ Bytes all = ap (λ (z : PageValue). z.contents) (sym lost.value) ∙ are in absurd cc
    all_of tag all t u are (inr (inr other)) = absurd (tagged tag t other.unused)

    bytes : (tag : Tag) → info.tag ≡ Some tag → info.uptodate ≡ true → info.dirty ≡ false → y.changed ≡ false → MayBecome x y → is_lost y.contents ≡ false → y.contents ≡ Bytes (backing cache d tag)
    bytes tag t u clean unchanged (inl e) there =
        ap (λ (z : PageValue). z.contents) e ∙ s.same tag t u clean (ap (λ (z : PageValue). z.changed) (sym e) ∙ unchanged) (ap (λ (z : PageValue). is_lost z.contents) (sym e) ∙ there)
    bytes tag t u clean unchanged (inr (inl lost)) there = let bad : true ≡ false = ap (λ (z : PageValue). is_lost z.contents) (sym lost.value) ∙ there in absurd cc
    bytes tag t u clean unchanged (inr (inr other)) there = absurd (tagged tag t other.unused)

-- a tag's block depends on the files and the swap slots
pub backing_of-same : (old new : CacheView) (tag : Tag) → new.files ≡ old.files → new.swap ≡ old.swap → backing_of new tag ≡ backing_of old tag
backing_of-same old new (File file index) files swap = ap (λ (f : List ℕ). Some (pages_before f file + index)) files
backing_of-same old new (Anon slot index) files swap = λ i. swap_block (files i) (position (holds_page slot index) (swap i))

-- what backs a tag depends on its block, too, and on the blocks' bytes
pub backing-same : (old new : CacheView) (d e : DiskView) (tag : Tag) → new.files ≡ old.files → new.swap ≡ old.swap → e.blocks ≡ d.blocks → backing new e tag ≡ backing old d tag
backing-same old new d e tag files swap blocks = ap (λ o. backed e.blocks o) (backing_of-same old new tag files swap) ∙ ap (λ o. backed o (backing_of old tag)) blocks

pub PageFits-same : (old new : CacheView) (d e : DiskView) (info : PageInfo) (x : PageValue) → new.files ≡ old.files → new.swap ≡ old.swap → e.blocks ≡ d.blocks → PageFits old d info x
    → PageFits new e info x
PageFits-same old new d e info x files swap blocks s = record {
  is_value = s.is_value;
  hinted = s.hinted;
  volatile = s.volatile;
  unused = s.unused;
  not_blank = s.not_blank;
  whole = s.whole;
  same = λ tag t u clean unchanged there. s.same tag t u clean unchanged there ∙ ap (λ b. Bytes b) (sym (backing-same old new d e tag files swap blocks));
  written = λ slot index t some. dirty_or_slotted-same old new info slot index swap (s.written slot index t some);
}

-- a free page
pub PageFits-free : (cache : CacheView) (d : DiskView) (x : PageValue) → x.usage ≡ U → x.changed ≡ false → StandsWith x.contents U false → PageFits cache d free_info x
PageFits-free cache d x usage changed stands = record {
  is_value = rw (usage, changed) stands;
  hinted = usage ∙ sym hint-free;
  volatile = λ v. changed;
  unused = λ v. changed;
  not_blank = λ tag t u. absurd cc;
  whole = λ tag all t u are. absurd cc;
  same = λ tag t u clean unchanged there. absurd cc;
  written = λ slot index t some. absurd cc;
}

-- fit of each page
pub record EachPageFits (parts : Parts) (v : StorageView) (d : DiskView) : Type 0 where
  pub size : length parts.pages.infos ≡ v.pages
  pub each : (page : ℕ) → page < v.pages → PageFits parts.cache d (info_at parts.pages page) (v.values page)

pub EachPageFits-from : (parts : Parts) (v : StorageView) (d : DiskView) → length parts.pages.infos ≡ v.pages → TagsFit parts v → HintsFit parts v → ContentsFit parts v d → EachPageFits parts v d
EachPageFits-from parts v d size tags hints contents = record {
  size = size;
  each = λ page below. record {
    is_value = hints.values page below;
    hinted = hints.hints page below;
    volatile = hints.volatile page below;
    unused = hints.unused page below;
    not_blank = λ tag t u. contents.not_blank page tag below t u;
    whole = λ tag all t u are. contents.whole page tag all below t u are;
    same = λ tag t u clean unchanged there. contents.same page tag below t u clean unchanged there;
    written = λ slot index t some. tags.written page slot index below t some;
  };
}

pub HintsFit-from : (parts : Parts) (v : StorageView) (d : DiskView) → v.held ≡ None → EachPageFits parts v d → HintsFit parts v
HintsFit-from parts v d none fits = record {
  none_held = none;
  values = λ page below. (fits.each page below).is_value;
  hints = λ page below. (fits.each page below).hinted;
  volatile = λ page below. (fits.each page below).volatile;
  unused = λ page below. (fits.each page below).unused;
}

pub ContentsFit-from : (parts : Parts) (v : StorageView) (d : DiskView) → v.tells ≡ true → (blocks : List (List ℕ)) → d.blocks ≡ Some blocks → AreBlocks d.count d.blocks → EachPageFits parts v d
    → ContentsFit parts v d
ContentsFit-from parts v d tells blocks told are fits = record {
  tells = tells;
  told = (blocks, told);
  blocks = are;
  not_blank = λ page tag below t u. (fits.each page below).not_blank tag t u;
  whole = λ page tag all below t u are. (fits.each page below).whole tag all t u are;
  same = λ page tag below t u clean unchanged there. (fits.each page below).same tag t u clean unchanged there;
}

-- a page with a tag is one of the guest's
pub tagged-below : (pages : PagesView) (page : ℕ) (tag : Tag) → (info_at pages page).tag ≡ Some tag → page < length pages.infos
tagged-below pages page tag tagged = elim (cases_lt page (length pages.infos)) [
  | inl below ↦ below
  | inr past ↦ let bad : None ≡ Some tag = ap (λ (i : PageInfo). i.tag) (sym (get_or_past pages.infos page free_info past)) ∙ tagged in absurd cc
]
