use Rattle.std.proofs.Common.{◌≡◌, ap, refl, ◌∙◌}
use Rattle.cmm_io.specs.Faults.{raised}
use Rattle.guest_rules.specs.declared.parts.Parts.{Parts}
use Rattle.guest_rules.specs.Rows.{freed, handled, handler}
use Rattle.guest_hint.proofs.held.run_discard_handler.Goals as goal

pub returns-clause-row : goal.returns-clause-row
unfolding handler handled freed
returns-clause-row g c =
    let counted : c.saturating_add-parts.result ≡ raised c.args.parts.now.faults =
    c.saturating_add-parts.ensures ∙ ap (λ (parts : Parts). raised parts.faults) c.forget.ensures.row
    in (
      _,
      _,
      c.order.ensures.step,
      (
        ap (λ (parts : Parts). record parts { faults = c.saturating_add-parts.result }) c.forget.ensures.row
            ∙ ap (λ faults. record (freed c.args.parts.now c.args.page) { faults = faults }) counted,
        refl,
        refl,
      ),
    )
