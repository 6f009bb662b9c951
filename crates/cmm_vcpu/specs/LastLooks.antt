-- Loads of a guest's words by the guest's seat, between two turns.
use Rattle.std.specs.Prelude.{◌≡◌, ◌≤◌, ℕ, ◌+◌, ◌++◌, List, [], ◌∷◌, length}
use Rattle.std.specs.List.{sum_by}
use Rattle.essa_state.specs.declared.fields.Fields.{Fields}
use Rattle.state_words.specs.SeatView.{SeatStep, Looked}
use Rattle.state_words.specs.Steps.{looked_view}
use Rattle.host_shared.specs.Binding.{StorageState}
use Rattle.cmm_vcpu.specs.KernelState.{KernelState, IsKernel, words_of, own_words, pool_of}

-- one load more in the record of the guest's seat, and nothing else
abbrev pub looked_storage : StorageState → (page : ℕ) → Fields → StorageState
looked_storage s page word = record s { seat = record s.seat { view = looked_view s.seat.view page word } }

abbrev pub looked_kernel : KernelState → (page : ℕ) → Fields → KernelState
looked_kernel k page word = record k { storage = looked_storage k.storage page word }

-- a load of each page from this one on, in their order, which found these words
abbrev pub looks_from : ℕ → List Fields → List SeatStep
looks_from page [] = []
looks_from page (word ∷ words) = Looked page word ∷ looks_from (page + 1) words

-- the last steps in the record of the guest's seat are a load of each page, in the pages' order, and these are the words found
pub record AreLastLooks (k : KernelState) (words : List Fields) : Type 0 where
  pub one_each : length words ≡ k.guest.plan.pages
  pub before : List SeatStep
  pub steps : k.storage.seat.view.steps ≡ before ++ looks_from 0 words

-- how many discards the words count
abbrev pub discards_in : List Fields → ℕ
discards_in words = sum_by (λ (word : Fields). word.count) words

-- the guest handled at most as many discarded pages as its words count discards
abbrev pub FaultsFew : KernelState → List Fields → Type 0
FaultsFew k words = k.guest.parts.faults ≤ discards_in words

-- the kernel after a load of each page
pub record HasLooked (k l : KernelState) : Type 0 where
  pub kernel : IsKernel l
  pub guest : l.guest ≡ k.guest
  pub words : words_of l ≡ words_of k
  pub own : own_words l ≡ own_words k
  pub pool : pool_of l ≡ pool_of k
  pub looks : AreLastLooks l l.looked
  pub faults : FaultsFew l l.looked
