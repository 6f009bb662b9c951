use Rattle.std.proofs.Common.{◌≡◌, ◌<◌, ◌^◌, inl, inr, sym, subst, arith}
use Rattle.std.proofs.lemmas.Bool.{cases_lt}
use Rattle.cmm_world.specs.WorldView.{discards_of}
use Rattle.cmm2_cli.proofs.numbers.read_discards.Goals as goal

pub loop-guest-preserved : goal.loop-guest-preserved
loop-guest-preserved c = λ guest below.
    elim (cases_lt guest c.loop-guest.guest) [
      | inl earlier ↦ c.loop-guest.invariant guest earlier
      | inr last ↦
          let same : guest ≡ c.loop-guest.guest = omega (arith, below, last) in
          let here : discards_of c.args.world.now.state c.loop-guest.guest < 2 ^ 64 = omega (arith, c.discards.ensures.sum, c.discards.ensures.most) in
          subst (λ q. discards_of c.args.world.now.state q < 2 ^ 64) (sym same) here
    ]
