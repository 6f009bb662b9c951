-- A load changes nothing that a guest sees.
use Rattle.std.specs.Prelude.{◌≡◌, ◌<◌, ℕ, [], ◌∷◌, Option, Some, None}
use Rattle.std.proofs.Common.{refl, sym, arith, subst}
use Rattle.std.proofs.lemmas.List.Sums.{sum_by-append}
use Rattle.essa_state.specs.declared.fields.Fields.{Fields}
use Rattle.cmm_storage.specs.StorageView.{StorageView}
use Rattle.state_words.specs.SeatView.{Looked}
use Rattle.host_shared.specs.Holding.{HeldState}
use Rattle.host_shared.specs.Binding.{StorageState, storage_view, missed_at, held_page}
use Rattle.cmm_vcpu.specs.KernelState.{KernelState, IsKernel, Fits, disk_seen}
use Rattle.cmm_vcpu.specs.LastLooks.{looked_storage, looked_kernel}

-- the misses as they were
misses_same : (s : StorageState) (page : ℕ) (word : Fields) → (storage_view (looked_storage s page word)).misses ≡ (storage_view s).misses
misses_same s page word = let more = sum_by-append missed_at s.seat.view.steps (Looked page word ∷ []) in omega (arith, more)

pub view_same : (s : StorageState) (page : ℕ) (word : Fields) → storage_view (looked_storage s page word) ≡ storage_view s
view_same s page word = λ i. record (storage_view s) { misses = misses_same s page word i }

-- no page is held between two turns
none_in : (held : Option HeldState) → held_page held ≡ None → held ≡ None
none_in None none = refl
none_in (Some h) none = let bad : Some h.page ≡ None = none in absurd cc

pub none_held : (k : KernelState) → IsKernel k → k.storage.held ≡ None
none_held k kernel = none_in k.storage.held kernel.fits.fit.hints.none_held

-- the storage has a word for each page of the plan
pub has_page : (k : KernelState) (page : ℕ) → IsKernel k → page < k.guest.plan.pages → page < k.storage.seat.words.pages
has_page k page kernel below = let pages = kernel.fits.fit.sizes.pages in omega (arith, below, pages)

pub kernel_looked : (k : KernelState) (page : ℕ) (word : Fields) → IsKernel k → IsKernel (looked_kernel k page word)
kernel_looked k page word kernel = record {
  fits = subst (λ (v : StorageView). Fits k.guest v (disk_seen k) k.storage.pager k.disk.failures) (sym (view_same k.storage page word)) kernel.fits;
  bound = record { can = kernel.bound.can; guest = kernel.bound.guest; few = kernel.bound.few };
  looked_few = kernel.looked_few;
}
