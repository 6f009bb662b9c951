-- The pages of a noisy storage, as contracts see them.
use Rattle.std.specs.Prelude.{◌≡◌, ◌<◌, ◌^◌, ℕ, List, [], length, Bool, true, false, Option, Some, None, replicate, slice_index_or}
use Rattle.cmm_types.specs.declared.page.Content.{Content}
use Rattle.cmm_types.specs.declared.page.Content.TheVariants.{Resident, Zero}
use Rattle.essa_state.specs.declared.fields.Fields.{Fields}
use Rattle.essa_state.specs.PageValue.{PageValue, opening_value, Contents, Bytes, Blank, Lost, IsValue}
use Rattle.essa_state.specs.PageBody.{actual}
use Rattle.cmm_storage.specs.StorageView.{StorageView, has_bytes}

-- a page has a frame of its own, whatever its word says
abbrev pub noisy_value : Fields → List ℕ → PageValue
noisy_value word bytes = actual word (record { frame = Some bytes; block = [] })

pub record NoisyState : Type 0 where
  pub pages : List PageValue
  pub held : Option ℕ
  pub touched : Bool
  pub faults : ℕ
  pub misses : ℕ

abbrev pub noisy_opening : ℕ → NoisyState
noisy_opening count = record { pages = replicate count opening_value; held = None; touched = false; faults = 0; misses = 0 }

-- a page with bytes is in its frame
abbrev pub noisy_content : Contents → Content
noisy_content (Bytes bytes) = Resident
noisy_content Blank = Zero
noisy_content Lost = Zero

-- where the held page is
abbrev pub noisy_held_content : List PageValue → Option ℕ → Content
noisy_held_content pages None = Zero
noisy_held_content pages (Some page) = noisy_content (slice_index_or pages page opening_value).contents

abbrev pub noisy_view : NoisyState → StorageView
noisy_view s = record {
  pages = length s.pages;
  values = λ page. slice_index_or s.pages page opening_value;
  held = s.held;
  touched = s.touched;
  faults = s.faults;
  misses = s.misses;
  quiet = false;
  tells = true;
  content = noisy_held_content s.pages s.held;
}

-- the held page is one of the pages, and has its bytes while it is touched; every page's value is one
pub record IsNoisyState (s : NoisyState) : Type 0 where
  pub few : length s.pages < 2 ^ 32
  pub below : (page : ℕ) → s.held ≡ Some page → page < length s.pages
  pub bytes : (page : ℕ) → s.held ≡ Some page → s.touched ≡ true → has_bytes (slice_index_or s.pages page opening_value).contents ≡ true
  pub values : (page : ℕ) → IsValue (slice_index_or s.pages page opening_value)
