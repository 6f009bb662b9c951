-- Laws of what is shown: each live mapping shows what there is, at the opening and after each change.
use Rattle.std.proofs.Common.{◌≡◌, ◌<◌, ◌&&◌, nat_lt, nat_le, replicate, refl, arith, ℕ, List, Bool, true, false, cond, subst, sym, ap, ◌∙◌, Option, Some, None, IfSome, length, ◌+◌, ◌*◌, ◌≤◌}
use Rattle.std.proofs.lemmas.List.{length-set, length-replicate}
use Rattle.std.specs.Ordering.{eq_by_cmp}
use Rattle.std.specs.FinMap.{FinMap, get, empty, insert, remove, get-empty, get-insert, get-remove}
use Rattle.cmm_types.specs.declared.page.TheConstants.{PAGE}
use Rattle.cmm_flat.specs.declared.mapping.Mapping.{Mapping}
use Rattle.cmm_flat.specs.Mapping.{key_cmp, HasRoom, written, with_pin}
use Rattle.cmm_flat.specs.State.{ShowsPages, Shows, IsSound, key_of, file_at}
use Rattle.cmm_types.specs.Bytes.{zeros}
use Rattle.cmm_flat.specs.Flat.{in_file}
use borrow.Author.Tests.{ltb-true, leb-true}
use Rattle.cmm_flat.specs.declared.mapping.Shown.TheVariants.{OfFile, Anonymous}
use Rattle.cmm_flat.specs.declared.mapping.Shown.{Shown}
use Rattle.cmm_flat.specs.Laws.BytesLaws.{length-with_bytes}
use Rattle.cmm_types.specs.declared.command.TheConstants.{MAX_MAPPING_PAGES}
use Rattle.cmm_flat.specs.Laws.KeyLaws.{keys_total}

pub sound_without : (files : List (List ℕ)) (m : FinMap key_cmp Mapping) → m ≡ empty → IsSound (record { files = files; mappings = m })
sound_without files m e p n = subst (λ o. IfSome o (Shows files)) (sym (ap (λ (m : FinMap key_cmp Mapping). get m (key_of p n)) e ∙ get-empty key_cmp (key_of p n))) tt

either : {X : Type 0} (P : X → Type 0) (b : Bool) (x : X) (o : Option X) → P x → IfSome o P → IfSome (cond b (Some x) o) P
either P true x o new old = new
either P false x o new old = old

fewer : {X : Type 0} (P : X → Type 0) (b : Bool) (o : Option X) → IfSome o P → IfSome (cond b None o) P
fewer P true o old = tt
fewer P false o old = old

pub sound_inserted : (files : List (List ℕ)) (m m' : FinMap key_cmp Mapping) (p n : ℕ) (v : Mapping) → m' ≡ insert m (key_of p n) v → Shows files v
    → IsSound (record { files = files; mappings = m }) → IsSound (record { files = files; mappings = m' })
sound_inserted files m m' p n v e shows sound q k =
    subst (λ o. IfSome o (Shows files)) (sym (ap (λ (m : FinMap key_cmp Mapping). get m (key_of q k)) e ∙ get-insert keys_total m (key_of p n) v (key_of q k)))
    (either (Shows files) (eq_by_cmp key_cmp (key_of q k) (key_of p n)) v (get m (key_of q k)) shows (sound q k))

pub sound_removed : (files : List (List ℕ)) (m m' : FinMap key_cmp Mapping) (p n : ℕ) → m' ≡ remove m (key_of p n) → IsSound (record { files = files; mappings = m })
    → IsSound (record { files = files; mappings = m' })
sound_removed files m m' p n e sound q k =
    subst (λ o. IfSome o (Shows files)) (sym (ap (λ (m : FinMap key_cmp Mapping). get m (key_of q k)) e ∙ get-remove keys_total m (key_of p n) (key_of q k)))
    (fewer (Shows files) (eq_by_cmp key_cmp (key_of q k) (key_of p n)) (get m (key_of q k)) (sound q k))

pub shows_pinned : (files : List (List ℕ)) (m : Mapping) (page : ℕ) (pin : Bool) → Shows files m → Shows files (with_pin m page pin)
shows_pinned files m page pin shows = subst (λ n. (n ≤ MAX_MAPPING_PAGES) × ShowsPages files m.shown n) (sym (length-set m.pins page pin)) shows

own_written : (files : List (List ℕ)) (shown : Shown) (pins : List Bool) (off : ℕ) (bytes : List ℕ) → HasRoom shown off (length bytes) → ShowsPages files shown (length pins)
    → ShowsPages files (written (record { shown = shown; pins = pins }) off bytes).shown (length pins)
own_written files (OfFile file first writable) pins off bytes room shows = shows
own_written files (Anonymous own) pins off bytes room shows = length-with_bytes own off bytes room ∙ shows

pub shows_written : (files : List (List ℕ)) (m : Mapping) (off : ℕ) (bytes : List ℕ) → HasRoom m.shown off (length bytes) → Shows files m → Shows files (written m off bytes)
shows_written files m off bytes room shows = (shows.0, own_written files m.shown m.pins off bytes room shows.1)

pub has_room : (files : List (List ℕ)) (shown : Shown) (count off len : ℕ) → ShowsPages files shown count → off + len ≤ PAGE * count → HasRoom shown off len
has_room files (OfFile file first writable) count off len shows within = tt
has_room files (Anonymous own) count off len shows within = subst (λ n. off + len ≤ n) (sym shows) within

pub shows_zeros : (files : List (List ℕ)) (bytes : List ℕ) (pins : List Bool) (count : ℕ) → bytes ≡ zeros (PAGE * count) → pins ≡ replicate count false → count ≤ MAX_MAPPING_PAGES
    → Shows files (record { shown = Anonymous bytes; pins = pins })
unfolding zeros
shows_zeros files bytes pins count own none few =
    let pages : length pins ≡ count = ap length none ∙ length-replicate {A = Bool} count false in
    let all : length bytes ≡ PAGE * count = ap length own ∙ length-replicate {A = ℕ} _ 0 in
    (subst (λ n. n ≤ MAX_MAPPING_PAGES) (sym pages) few, all ∙ ap (λ n. PAGE * n) (sym pages))

both : (a b : Bool) → (a && b) ≡ true → (a ≡ true) × (b ≡ true)
both true b e = (refl, e)
both false b e = cc

pub within_file : (files : List (List ℕ)) (file off len : ℕ) → in_file files file off len ≡ true → (file < length files) × (off + len ≤ length (file_at files file))
within_file files file off len e =
    let parts = both (nat_lt file (length files)) (nat_le (off + len) (length (file_at files file))) e in
    (ltb-true _ _ parts.0, leb-true _ _ parts.1)

pub shows_file : (files : List (List ℕ)) (file first count : ℕ) (writable : Bool) (pins : List Bool) → in_file files file (PAGE * first) (PAGE * count) ≡ true → pins ≡ replicate count false
    → count ≤ MAX_MAPPING_PAGES → Shows files (record { shown = OfFile file first writable; pins = pins })
shows_file files file first count writable pins within none few =
    let pages : length pins ≡ count = ap length none ∙ length-replicate {A = Bool} count false in
    let there = within_file files file (PAGE * first) (PAGE * count) within in
    (subst (λ n. n ≤ MAX_MAPPING_PAGES) (sym pages) few, (there.0, omega (arith, there.1, pages)))
