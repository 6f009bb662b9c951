use Rattle.std.proofs.Common.{◌≡◌, ◌<◌, ◌^◌, inl, inr, sym, subst, arith}
use Rattle.std.proofs.lemmas.Bool.{cases_lt}
use Rattle.cmm2_cli.specs.Running.{looked_discards}
use Rattle.cmm2_cli.proofs.run.read_machine_discards.Goals as goal

pub loop-guest-preserved : goal.loop-guest-preserved
loop-guest-preserved c = λ guest below.
    elim (cases_lt guest c.loop-guest.guest) [
      | inl earlier ↦ c.loop-guest.invariant guest earlier
      | inr last ↦
          let same : guest ≡ c.loop-guest.guest = omega (arith, below, last) in
          let here : looked_discards c.args.machine.now c.loop-guest.guest < 2 ^ 64 = omega (arith, c.machine_discards.ensures.sum, c.machine_discards.ensures.most) in
          subst (λ q. looked_discards c.args.machine.now q < 2 ^ 64) (sym same) here
    ]
