-- A kernel before its first turn is one.
use Rattle.std.specs.Prelude.{◌≡◌, ◌<◌, ℕ}
use Rattle.std.proofs.Common.{refl, sym, ap, arith, subst, ◌∙◌}
use Rattle.std.proofs.lemmas.List.{get_or-replicate}
use Rattle.cmm_types.specs.declared.plan.GuestPlan.{GuestPlan}
use Rattle.cmm_types.specs.InRange.{GuestInRange}
use Rattle.cmm_io.specs.FailurePlan.{FailurePlan}
use Rattle.cmm_io.specs.Counted.{IsCounted}
use Rattle.cmm_io.specs.DiskState.{opened, disk_view}
use Rattle.cmm_io.proofs.DiskBlocks.{length-disk_of}
use Rattle.cmm_io.proofs.Counted.{counted-opening}
use Rattle.essa_state.specs.PageValue.{opening_value}
use Rattle.state_words.specs.SeatView.{SeatView, value_at, guest_values}
use Rattle.host_shared.specs.Binding.{StorageState, storage_view, value_in, held_page}
use Rattle.guest_rules.specs.Fresh.{AreFresh}
use Rattle.guest_rules.proofs.Opening.Opening.{Fit-opening}
use Rattle.cmm_vcpu.specs.KernelState.{IsKernel, IsOpening, opening_kernel}

-- each page has the value that all pages begin with
fresh_values : (plan : GuestPlan) (s : StorageState) (page : ℕ) → IsOpening plan s → page < plan.pages → (storage_view s).values page ≡ opening_value
fresh_values plan s page opening below =
    ap (λ held. value_in held (guest_values s.seat.view.role) page) opening.none_held
    ∙ ap (λ (v : SeatView). value_at (guest_values v.role) page) opening.view
    ∙ get_or-replicate plan.pages page opening_value opening_value below

fresh : (plan : GuestPlan) (s : StorageState) → IsOpening plan s → AreFresh plan (storage_view s) (disk_view (opened plan.files plan.swap plan.disk_fail))
fresh plan s opening = record {
  pages = opening.pages;
  values = λ page lt. fresh_values plan s page opening (rw opening.pages at lt);
  none_held = ap held_page opening.none_held;
  tells = refl;
  count = length-disk_of plan.files plan.swap;
  blocks = refl;
}

pub opening_fits : (plan : GuestPlan) (s : StorageState) → GuestInRange plan → IsOpening plan s → IsKernel (opening_kernel plan s)
opening_fits plan s range opening = record {
  fits = record {
    fit = Fit-opening plan _ _ range (fresh plan s opening);
    failures = record { disk = omega arith; paging = omega arith };
    disk_calls = counted-opening plan.disk_fail;
    pager_calls = subst (λ (p : FailurePlan). IsCounted plan.pager_fail p) (sym opening.pager) (counted-opening plan.pager_fail);
  };
  bound = opening.bound;
  looked_few = omega arith;
}
