-- Laws of the places of tags, for the crates that keep an index of them.
use Rattle.std.proofs.Common.{◌≡◌, ◌≢◌, ℕ, ◌+◌, ◌*◌, ◌<◌, ◌≤◌, ◌==◌, true, false, List, length, take, sum, get_or}
use Rattle.std.proofs.Common.{slice_set, slice_index_or, Option, None, Some, refl, ap, sym, ◌∙◌, subst, ⊎_elim, arith}
use Rattle.std.proofs.lemmas.List.{length-replicate, get_or-set_same, get_or-set_other, get_or-replicate, take-take}
use Rattle.std.proofs.lemmas.List.Sums.{sum_by_more, sum_by-take-le}
use Rattle.std.proofs.lemmas.List.Quantifiers.{position-Some}
use Rattle.std.proofs.lemmas.Bool.{cases_order, and_parts, eqb-true}
use Rattle.std.proofs.lemmas.Bool.Decides.{nat_tests}
use Rattle.std.proofs.lemmas.Option.{same_Some}
use Rattle.cmm_types.specs.declared.command.TheConstants.{MAX_MAPPING_PAGES}
use Rattle.cmm_types.specs.declared.page.Tag.{Tag}
use Rattle.cmm_types.specs.declared.page.Tag.TheVariants.{File, Anon}
use Rattle.guest_cache.specs.CacheView.{CacheView, pages_before, IsTag, index_place, page_of, opening_cache, with_page}
use Rattle.guest_cache.specs.CacheView.{without_page, holds_page, swap_slot, swap_block, assigned, unassigned, backing_of}

-- every tag has its place in the index
pub record IsCache (cache : CacheView) : Type 0 where
  pub whole : length cache.index ≡ sum cache.files + cache.slots * MAX_MAPPING_PAGES

-- ---- the places of a file's pages

-- a file's pages end where the next one's begin
pub before_next : (files : List ℕ) (file index : ℕ) → file < length files → index < get_or files file 0 → pages_before files file + index < pages_before files (file + 1)
before_next files file index some within = omega (arith, sum_by_more (λ x. x) files file 0 some)

pub pages_before-le : (files : List ℕ) (file later : ℕ) → file ≤ later → pages_before files file ≤ pages_before files later
pages_before-le files file later upto = omega (arith, ap sum (take-take file later files upto), sum_by-take-le (λ x. x) (take later files) file)

pub before_all : (files : List ℕ) (file index : ℕ) → file < length files → index < get_or files file 0 → pages_before files file + index < sum files
before_all files file index some within = omega (arith, before_next files file index some within, sum_by-take-le (λ x. x) files (file + 1))

pub place_of-below : (cache : CacheView) (tag : Tag) → IsCache cache → IsTag cache tag → index_place cache tag < length cache.index
place_of-below cache (File file index) sound is = omega (arith, sound.whole, before_all cache.files file index is.0 is.1)
place_of-below cache (Anon slot index) sound is = omega (arith, sound.whole)

-- ---- two tags have two places

file_exact : (files : List ℕ) (f g i j : ℕ) → f < length files → g < length files → i < get_or files f 0 → j < get_or files g 0 → pages_before files f + i ≡ pages_before files g + j
    → (f ≡ g) × (i ≡ j)
file_exact files f g i j some_f some_g within_i within_j same =
    ⊎_elim
    (λ one. (one, omega (arith, ap (pages_before files) one)))
    (⊎_elim
    (λ below. absurd (omega (arith, before_next files f i some_f within_i, pages_before-le files (f + 1) g (omega arith))))
    (λ above. absurd (omega (arith, before_next files g j some_g within_j, pages_before-le files (g + 1) f (omega arith)))))
    (cases_order f g)

pub slot_exact : (base s t i j : ℕ) → i < MAX_MAPPING_PAGES → j < MAX_MAPPING_PAGES → base + s * MAX_MAPPING_PAGES + i ≡ base + t * MAX_MAPPING_PAGES + j → (s ≡ t) × (i ≡ j)
slot_exact base s t i j within_i within_j same = (omega arith, omega arith)

pub place_exact : (cache : CacheView) (t u : Tag) → IsTag cache t → IsTag cache u → index_place cache t ≡ index_place cache u → t ≡ u
place_exact cache (File f i) (File g j) is_t is_u same =
    let one = file_exact cache.files f g i j is_t.0 is_u.0 is_t.1 is_u.1 same in
    ap (λ (n : ℕ). File n i) one.0 ∙ ap (File g) one.1
place_exact cache (File f i) (Anon s j) is_t is_u same = absurd (omega (arith, before_all cache.files f i is_t.0 is_t.1))
place_exact cache (Anon s i) (File g j) is_t is_u same = absurd (omega (arith, before_all cache.files g j is_u.0 is_u.1))
place_exact cache (Anon s i) (Anon t j) is_t is_u same =
    let one = slot_exact (sum cache.files) s t i j is_t.1 is_u.1 same in
    ap (λ (n : ℕ). Anon n i) one.0 ∙ ap (Anon t) one.1

pub places_differ : (cache : CacheView) (t u : Tag) → IsTag cache t → IsTag cache u → t ≢ u → index_place cache t ≢ index_place cache u
places_differ cache t u is_t is_u apart same = apart (place_exact cache t u is_t is_u same)

-- ---- a cache in which a page has a tag

pub page_of-with_page_same : (cache : CacheView) (tag : Tag) (page : ℕ) → IsCache cache → IsTag cache tag → page_of (with_page cache tag page) tag ≡ Some page
unfolding with_page
page_of-with_page_same cache (File file index) page sound is = get_or-set_same cache.index _ (Some page) None (place_of-below cache (File file index) sound is)
page_of-with_page_same cache (Anon slot index) page sound is = get_or-set_same cache.index _ (Some page) None (place_of-below cache (Anon slot index) sound is)

place_of-with_page : (cache : CacheView) (tag other : Tag) (page : ℕ) → index_place (with_page cache tag page) other ≡ index_place cache other
unfolding with_page
place_of-with_page cache tag (File file index) page = refl
place_of-with_page cache tag (Anon slot index) page = refl

pub page_of-with_page_other : (cache : CacheView) (tag other : Tag) (page : ℕ) → IsTag cache tag → IsTag cache other → other ≢ tag → page_of (with_page cache tag page) other ≡ page_of cache other
unfolding with_page
page_of-with_page_other cache tag other page is is_other apart =
    ap (λ place. slice_index_or (slice_set cache.index (index_place cache tag) (Some page)) place None) (place_of-with_page cache tag other page)
    ∙ get_or-set_other cache.index (index_place cache tag) (index_place cache other) (Some page) None (places_differ cache other tag is_other is apart)

-- ---- a cache in which no page has a tag

pub page_of-without_page_same : (cache : CacheView) (tag : Tag) → IsCache cache → IsTag cache tag → page_of (without_page cache tag) tag ≡ None
unfolding without_page
page_of-without_page_same cache (File file index) sound is = get_or-set_same cache.index _ None None (place_of-below cache (File file index) sound is)
page_of-without_page_same cache (Anon slot index) sound is = get_or-set_same cache.index _ None None (place_of-below cache (Anon slot index) sound is)

place_of-without_page : (cache : CacheView) (tag other : Tag) → index_place (without_page cache tag) other ≡ index_place cache other
unfolding without_page
place_of-without_page cache tag (File file index) = refl
place_of-without_page cache tag (Anon slot index) = refl

pub page_of-without_page_other : (cache : CacheView) (tag other : Tag) → IsTag cache tag → IsTag cache other → other ≢ tag → page_of (without_page cache tag) other ≡ page_of cache other
unfolding without_page
page_of-without_page_other cache tag other is is_other apart =
    ap (λ place. slice_index_or (slice_set cache.index (index_place cache tag) None) place None) (place_of-without_page cache tag other)
    ∙ get_or-set_other cache.index (index_place cache tag) (index_place cache other) None None (places_differ cache other tag is_other is apart)

-- ---- a cache at opening, and the blocks of the disk

pub IsCache-opening : (files : List ℕ) (swap slots : ℕ) → IsCache (opening_cache files swap slots)
IsCache-opening files swap slots = record { whole = length-replicate (sum files + slots * MAX_MAPPING_PAGES) None }

pub page_of-opening : (files : List ℕ) (swap slots : ℕ) (tag : Tag) → IsTag (opening_cache files swap slots) tag → page_of (opening_cache files swap slots) tag ≡ None
page_of-opening files swap slots tag is =
    get_or-replicate (sum files + slots * MAX_MAPPING_PAGES) (index_place (opening_cache files swap slots) tag) None None
    (subst (λ n. index_place (opening_cache files swap slots) tag < n) (length-replicate (sum files + slots * MAX_MAPPING_PAGES) None)
    (place_of-below (opening_cache files swap slots) tag (IsCache-opening files swap slots) is))

-- each file's page has a block of its own, below the number of file pages, and each swap slot one behind these
pub backing_of-below : (cache : CacheView) (tag : Tag) (block : ℕ) → IsTag cache tag → backing_of cache tag ≡ Some block → block < sum cache.files + length cache.swap
backing_of-below cache (File file index) block is at = omega (arith, before_all cache.files file index is.0 is.1, same_Some _ _ at)
backing_of-below cache (Anon slot index) block is at = of (swap_slot cache (Anon slot index)) refl at
  where
    of : (found : Option ℕ) → swap_slot cache (Anon slot index) ≡ found → swap_block cache.files found ≡ Some block → block < sum cache.files + length cache.swap
    of None none at = let bad : None ≡ Some block = at in absurd cc
    of (Some number) found at = omega (arith, (position-Some (holds_page slot index) cache.swap number None found).0, same_Some _ _ at)

-- a swap slot that is assigned to a page is assigned to no other
pub holds-itself : (slot index : ℕ) → holds_page slot index (Some (Anon slot index)) ≡ true
holds-itself slot index = grind (arith, nat_tests)

pub holds-exact : (s t i j : ℕ) (o : Option Tag) → holds_page s i o ≡ true → holds_page t j o ≡ true → (s ≡ t) × (i ≡ j)
holds-exact s t i j None one two = let bad : false ≡ true = one in absurd cc
holds-exact s t i j (Some (File file at)) one two = let bad : false ≡ true = one in absurd cc
holds-exact s t i j (Some (Anon slot at)) one two =
    let first = and_parts (s == slot) (i == at) one in
    let second = and_parts (t == slot) (j == at) two in
    (eqb-true s slot first.0 ∙ sym (eqb-true t slot second.0), eqb-true i at first.1 ∙ sym (eqb-true j at second.1))

swap_block-exact : (files : List ℕ) (number : Option ℕ) (block : ℕ) → swap_block files number ≡ Some block → (n : ℕ) × (number ≡ Some n) × (sum files + n ≡ block)
swap_block-exact files None block at = let bad : None ≡ Some block = at in absurd cc
swap_block-exact files (Some n) block at = (n, refl, same_Some _ _ at)

-- two tags have two blocks
pub block_exact : (cache : CacheView) (t u : Tag) (block : ℕ) → IsTag cache t → IsTag cache u → backing_of cache t ≡ Some block → backing_of cache u ≡ Some block → t ≡ u
block_exact cache (File f i) (File g j) block is_t is_u at_t at_u = place_exact cache (File f i) (File g j) is_t is_u (same_Some _ _ at_t ∙ sym (same_Some _ _ at_u))
block_exact cache (File f i) (Anon s j) block is_t is_u at_t at_u =
    let k = swap_block-exact cache.files (swap_slot cache (Anon s j)) block at_u in
    absurd (omega (arith, before_all cache.files f i is_t.0 is_t.1, same_Some _ _ at_t, k.2))
block_exact cache (Anon s i) (File g j) block is_t is_u at_t at_u =
    let k = swap_block-exact cache.files (swap_slot cache (Anon s i)) block at_t in
    absurd (omega (arith, before_all cache.files g j is_u.0 is_u.1, same_Some _ _ at_u, k.2))
block_exact cache (Anon s i) (Anon t j) block is_t is_u at_t at_u =
    let k = swap_block-exact cache.files (swap_slot cache (Anon s i)) block at_t in
    let m = swap_block-exact cache.files (swap_slot cache (Anon t j)) block at_u in
    let same : m.0 ≡ k.0 = omega (arith, k.2, m.2) in
    let one = (position-Some (holds_page s i) cache.swap k.0 None k.1).1 in
    let two = (position-Some (holds_page t j) cache.swap k.0 None (m.1 ∙ ap Some same)).1 in
    let both = holds-exact s t i j (get_or cache.swap k.0 None) one two in
    ap (λ (n : ℕ). Anon n i) both.0 ∙ ap (Anon t) both.1

-- ---- a cache in which a swap slot is assigned, or isn't any more

pub is_tag_assigned : (cache : CacheView) (tag other : Tag) (number : Option ℕ) → IsTag cache other → IsTag (assigned cache tag number) other
is_tag_assigned cache tag (File file index) None is = is
is_tag_assigned cache tag (File file index) (Some number) is = is
is_tag_assigned cache tag (Anon slot index) None is = is
is_tag_assigned cache tag (Anon slot index) (Some number) is = is

pub slots_assigned : (cache : CacheView) (tag : Tag) (number : Option ℕ) → (assigned cache tag number).slots ≡ cache.slots
slots_assigned cache tag None = refl
slots_assigned cache tag (Some number) = refl

pub slots_unassigned : (cache : CacheView) (number : Option ℕ) → (unassigned cache number).slots ≡ cache.slots
slots_unassigned cache None = refl
slots_unassigned cache (Some number) = refl
