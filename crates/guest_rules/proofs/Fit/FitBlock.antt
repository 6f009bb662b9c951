-- Fit after a block was written: with the bytes that the page of its tag has.
use Rattle.std.proofs.Common.{◌≡◌, ◌≢◌, ◌<◌, ℕ, true, List, [], length, set, Option, None, Some, refl, ap, sym, ◌∙◌, inl, inr, subst, arith, length-set, get_or-set_same, get_or-set_other}
use Rattle.std.proofs.lemmas.List.Elements.{All-set}
use Rattle.cmm_types.specs.declared.page.TheConstants.{PAGE}
use Rattle.cmm_types.specs.declared.page.Tag.{Tag}
use Rattle.cmm_io.specs.DiskView.{DiskView, AreBlocks, with_block}
use Rattle.cmm_flat.specs.State.{FlatState}
use Rattle.essa_state.specs.PageValue.{Bytes}
use Rattle.cmm_storage.specs.StorageView.{StorageView}
use Rattle.guest_pages.specs.PagesView.{info_at}
use Rattle.guest_cache.specs.CacheView.{CacheView, IsTag, page_of, backing_of}
use Rattle.guest_cache.specs.Laws.CacheLaws.{block_exact, backing_of-below}
use Rattle.guest_rules.specs.GuestState.{GuestState}
use Rattle.guest_rules.specs.Fit.{FitAt, backing, backed, block_bytes, current, current_at, current_bytes}
use Rattle.guest_rules.proofs.Kept.Changes.{cases_tag}
use Rattle.guest_rules.proofs.Kept.FlatTags.{flat_tag-is}
use Rattle.guest_rules.proofs.Kept.PageFits.{tagged-below}
use Rattle.guest_rules.proofs.Fit.FitMay.{infos-pages}
use Rattle.guest_rules.proofs.Ready.ReadyCalls.{blocks-most}

-- the block of a tag was written
record IsWritten (cache : CacheView) (d e : DiskView) (tag : Tag) (block : ℕ) (bytes : List ℕ) : Type 0 where
  is : IsTag cache tag
  backs : backing_of cache tag ≡ Some block
  blocks : List (List ℕ)
  told : d.blocks ≡ Some blocks
  within : block < length blocks
  now : e.blocks ≡ Some (set blocks block bytes)

backing-here : (cache : CacheView) (d e : DiskView) (tag : Tag) (block : ℕ) (bytes : List ℕ) → IsWritten cache d e tag block bytes → backing cache e tag ≡ bytes
backing-here cache d e tag block bytes k = ap (backed e.blocks) k.backs ∙ ap (λ o. block_bytes o block) k.now ∙ get_or-set_same k.blocks block bytes [] k.within

-- no other tag has the block
backing-elsewhere : (cache : CacheView) (d e : DiskView) (tag : Tag) (block : ℕ) (bytes : List ℕ) (t : Tag) → IsWritten cache d e tag block bytes → IsTag cache t → t ≢ tag
    → backing cache e t ≡ backing cache d t
backing-elsewhere cache d e tag block bytes t k is other = of (backing_of cache t) refl
  where
    of : (o : Option ℕ) → backing_of cache t ≡ o → backed e.blocks o ≡ backed d.blocks o
    of None none = refl
    of (Some b) at =
        ap (λ o. block_bytes o b) k.now
        ∙ get_or-set_other k.blocks block b bytes [] (λ z. other (block_exact cache t tag block is k.is (at ∙ ap Some z) k.backs))
        ∙ ap (λ o. block_bytes o b) (sym k.told)

-- a block was written with the bytes of its tag's page, which is up to date
pub record WritesBytes (g : GuestState) (v : StorageView) (d e : DiskView) (page : ℕ) (tag : Tag) (block : ℕ) (bytes : List ℕ) : Type 0 where
  pub tagged : (info_at g.parts.pages page).tag ≡ Some tag
  pub uptodate : (info_at g.parts.pages page).uptodate ≡ true
  pub are : (v.values page).contents ≡ Bytes bytes
  pub backs : backing_of g.parts.cache tag ≡ Some block
  pub count : e.count ≡ d.count
  pub blocks : e.blocks ≡ with_block d.blocks block bytes

is_written : (state : FlatState) (g : GuestState) (v : StorageView) (d e : DiskView) (page : ℕ) (tag : Tag) (block : ℕ) (bytes : List ℕ) → FitAt state g v d → WritesBytes g v d e page tag block bytes
    → IsWritten g.parts.cache d e tag block bytes
is_written state g v d e page tag block bytes f k =
    let is = (f.pages.indexed page tag k.tagged).0 in
    let are : AreBlocks d.count (Some f.contents.told.0) = rw f.contents.told.1 at f.contents.blocks in
    record {
      is = is;
      backs = k.backs;
      blocks = f.contents.told.0;
      told = f.contents.told.1;
      within = omega (arith, are.0, backing_of-below g.parts.cache tag block is k.backs, blocks-most g v d f.sizes);
      now = k.blocks ∙ ap (λ o. with_block o block bytes) f.contents.told.1;
    }

-- what backs the tag from now on
pub backing-written : (state : FlatState) (g : GuestState) (v : StorageView) (d e : DiskView) (page : ℕ) (tag : Tag) (block : ℕ) (bytes : List ℕ) → FitAt state g v d
    → WritesBytes g v d e page tag block bytes
    → backing g.parts.cache e tag ≡ bytes
backing-written state g v d e page tag block bytes f k = backing-here g.parts.cache d e tag block bytes (is_written state g v d e page tag block bytes f k)

pub FitAt-block : (state : FlatState) (g : GuestState) (v : StorageView) (d e : DiskView) (page : ℕ) (tag : Tag) (block : ℕ) (bytes : List ℕ) → FitAt state g v d
    → WritesBytes g v d e page tag block bytes → FitAt state g v e
FitAt-block state g v d e page tag block bytes f k = record {
  sizes = record {
    range = f.sizes.range;
    infos = f.sizes.infos;
    pages = f.sizes.pages;
    processors = f.sizes.processors;
    files = f.sizes.files;
    swap = f.sizes.swap;
    slots = f.sizes.slots;
    index = f.sizes.index;
    blocks = k.count ∙ f.sizes.blocks;
  };
  pages = f.pages;
  slots = f.slots;
  entries = f.entries;
  pins = f.pins;
  tags = f.tags;
  locks = f.locks;
  teardowns = f.teardowns;
  hints = f.hints;
  contents = record {
    tells = f.contents.tells;
    told = (set written.blocks block bytes, written.now);
    blocks = subst (λ n. AreBlocks n e.blocks) (sym k.count)
        (subst (λ o. AreBlocks d.count o) (sym written.now) (length-set written.blocks block bytes ∙ are.0, All-set (λ b. length b ≡ PAGE) written.blocks block bytes whole are.1));
    not_blank = f.contents.not_blank;
    whole = f.contents.whole;
    same = λ i t below tagged fresh clean unchanged there. elim (cases_tag t tag) [
      | inl z ↦
          let here : page_of g.parts.cache tag ≡ Some i = ap (page_of g.parts.cache) (sym z) ∙ (f.pages.indexed i t tagged).1 in
          let both : Some i ≡ Some page = sym here ∙ (f.pages.indexed page tag k.tagged).1 in
          let same : i ≡ page = cc in
          ap (λ n. (v.values n).contents) same ∙ k.are ∙ ap (λ b. Bytes b) (sym (ap (backing g.parts.cache e) z ∙ backing-here g.parts.cache d e tag block bytes written))
      | inr n ↦
          f.contents.same i t below tagged fresh clean unchanged there ∙ ap (λ b. Bytes b) (sym (backing-elsewhere g.parts.cache d e tag block bytes t written (f.pages.indexed i t tagged).0 n))
    ];
  };
  flat = record { lengths = f.flat.lengths; sound = f.flat.sound; pages = λ t is. f.flat.pages t is ∙ sym (current-same t (flat_tag-is state g v d f.sizes f.slots t is)) };
  journal = f.journal;
  faults = f.faults;
}
  where
    written : IsWritten g.parts.cache d e tag block bytes
    written = is_written state g v d e page tag block bytes f k

    are : AreBlocks d.count (Some written.blocks)
    are = rw written.told at f.contents.blocks

    whole : length bytes ≡ PAGE
    whole = f.contents.whole page tag bytes (rw (infos-pages g v d f.sizes) at (tagged-below g.parts.pages page tag k.tagged)) k.tagged k.uptodate k.are

    -- the page's bytes count, whatever backs them
    here : (y : DiskView) → current g.parts v y tag ≡ bytes
    here y =
        ap (λ o. current_at g.parts v o (backing g.parts.cache y tag)) (f.pages.indexed page tag k.tagged).1
        ∙ ap (λ u. current_bytes u (v.values page).contents (backing g.parts.cache y tag)) k.uptodate
        ∙ ap (λ c. current_bytes true c (backing g.parts.cache y tag)) k.are

    current-same : (t : Tag) → IsTag g.parts.cache t → current g.parts v e t ≡ current g.parts v d t
    current-same t is = elim (cases_tag t tag) [
      | inl z ↦ ap (current g.parts v e) z ∙ here e ∙ sym (ap (current g.parts v d) z ∙ here d)
      | inr n ↦ ap (current_at g.parts v (page_of g.parts.cache t)) (backing-elsewhere g.parts.cache d e tag block bytes t written is n)
    ]
