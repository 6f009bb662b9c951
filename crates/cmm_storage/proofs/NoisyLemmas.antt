-- What calls make of the pages of a noisy storage.
use Rattle.std.specs.Prelude.{◌≡◌, refl, ◌<◌, ℕ, List, length, true, false, Some, replicate, slice_index_or, slice_set}
use Rattle.std.proofs.Common.{arith, ap, subst, inl, inr, ◌∙◌, get_or-set_other, get_or-set_same}
use Rattle.std.proofs.Math.ListN.{length-set}
use Rattle.std.proofs.lemmas.Bool.{cases_eq}
use Rattle.cmm_types.specs.declared.page.TheConstants.{PAGE}
use Rattle.cmm_types.specs.declared.page.Content.TheVariants.{Zero, Resident}
use Rattle.essa_state.specs.declared.fields.Fields.{Fields}
use Rattle.essa_state.specs.declared.orders.Order.{Order}
use Rattle.essa_state.specs.declared.orders.Order.TheVariants.{SetUnused}
use Rattle.essa_state.specs.PageValue.{PageValue, Contents, Bytes, IsValue, is_lost, opening_value}
use Rattle.cmm_storage.specs.StorageView.{content_after, has_bytes, touched_contents}
use Rattle.cmm_types.specs.Bytes.{zero_page}
use Rattle.cmm_storage.specs.NoisyState.{NoisyState, IsNoisyState, noisy_content, noisy_value}

pub filled_value : (w w' : Fields) (bytes bytes' : List ℕ) → w.content ≡ Zero → is_lost (noisy_value w bytes).contents ≡ false →
    w' ≡ record w { content = Resident } → bytes' ≡ zero_page →
    noisy_value w' bytes' ≡ record (noisy_value w bytes) { contents = touched_contents true (noisy_value w bytes).contents }
filled_value w w' bytes bytes' zero kept word filled = grind arith

-- a page that is never preserved stays where it is
pub content_after-noisy : (code : Order) (contents : Contents) → content_after code (noisy_content contents) ≡ noisy_content contents
content_after-noisy SetUnused (Bytes bytes) = refl
content_after-noisy SetUnused contents = refl
content_after-noisy code contents = refl

pub noisy_content-same : (a b : Contents) → has_bytes a ≡ has_bytes b → noisy_content a ≡ noisy_content b
noisy_content-same (Bytes bytes) b same = grind arith
noisy_content-same a b same = grind arith

pub zeros_filled : (bytes : List ℕ) (count : ℕ) → bytes ≡ replicate count 0 → count ≡ PAGE → bytes ≡ zero_page
unfolding zero_page
zeros_filled bytes count filled whole = filled ∙ ap (λ n. replicate n 0) whole

-- a noisy storage with another value of one page, which has its bytes or not as before
pub set_sound : (s : NoisyState) (page : ℕ) (new : PageValue) → IsNoisyState s → page < length s.pages → IsValue new →
    has_bytes new.contents ≡ has_bytes (slice_index_or s.pages page opening_value).contents →
    IsNoisyState (record s { pages = slice_set s.pages page new })
set_sound s page new sound below value same = record {
  few = simp length-set sound.few;
  below = λ k held. simp length-set (sound.below k held);
  bytes = λ k held touched. elim (cases_eq k page) [
    | inl e ↦ rw (e, get_or-set_same s.pages page new opening_value below, same) (subst (λ (i : ℕ). has_bytes (slice_index_or s.pages i opening_value).contents ≡ true) e (sound.bytes k held touched))
    | inr other ↦ rw get_or-set_other (sound.bytes k held touched)
  ];
  values = λ k. elim (cases_eq k page) [
    | inl e ↦ rw (e, get_or-set_same s.pages page new opening_value below) value
    | inr other ↦ rw get_or-set_other (sound.values k)
  ];
}

-- a noisy storage whose page was taken, with the value that it was found with
pub taken_sound : (s : NoisyState) (page : ℕ) (new : PageValue) → IsNoisyState s → page < length s.pages → IsValue new →
    IsNoisyState (record s { pages = slice_set s.pages page new; held = Some page; touched = false })
taken_sound s page new sound there value = record {
  few = simp length-set sound.few;
  below = λ k held. let same : page ≡ k = cc in simp length-set (subst (λ (i : ℕ). i < length s.pages) same there);
  bytes = λ k held touched. absurd cc;
  values = λ k. elim (cases_eq k page) [
    | inl e ↦ rw (e, get_or-set_same s.pages page new opening_value there) value
    | inr other ↦ rw get_or-set_other (sound.values k)
  ];
}
