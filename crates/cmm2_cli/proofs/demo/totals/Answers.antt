use Rattle.std.proofs.Common.{◌≡◌, ◌<◌, ◌≤◌, ◌*◌, ◌^◌, ◌+◌, ◌∙◌, List, length, ap, sym, subst, arith}
use Rattle.cmm_types.specs.declared.command.Entry.{Entry}
use Rattle.cmm_types.specs.declared.plan.TheConstants.{MAX_GUEST_PAGES}
use Rattle.guest_rules.specs.GuestState.{GuestState}
use Rattle.cmm_world.specs.WorldState.{guest_at}
use Rattle.cmm_world.specs.WorldView.{discards_of}
use Rattle.cmm2_cli.proofs.Sums.{AreSums, few, sums_next}
use Rattle.cmm2_cli.proofs.demo.totals.Goals as goal

pub loop-guest-preserved : goal.loop-guest-preserved
loop-guest-preserved c =
    let w = c.args.world.now.state in
    let guest = c.loop-guest.guest in
    let below : guest < length w.guests = omega (arith, c.loop-guest-test.true, c.guests-guest-end.ensures) in
    let its : c.guest-its.result.now ≡ guest_at w guest = c.guest-its.ensures in
    let entries : length c.journal.result.now ≡ length (guest_at w guest).journal = ap (λ (xs : List Entry). length xs) (c.journal.ensures ∙ ap (λ (g : GuestState). g.journal) its) in
    let discards : c.discards-discarded.result ≡ discards_of w guest = c.discards-discarded.ensures.sum in
    let most : discards_of w guest ≤ MAX_GUEST_PAGES * 2 ^ 32 = subst (λ n. n ≤ MAX_GUEST_PAGES * 2 ^ 32) discards c.discards-discarded.ensures.most in
    let faults : c.faults-faults.result ≡ (guest_at w guest).parts.faults = c.faults-faults.ensures ∙ ap (λ (g : GuestState). g.parts.faults) its in
    let few_here = few c.args.plan.now c.args.world.now guest c.requires.in_range c.requires.played below in
    let next = sums_next w guest c.loop-guest.entries c.loop-guest.discarded c.loop-guest.faults c.loop-guest.invariant few_here most in
    subst (λ n. AreSums w (guest + 1) (c.loop-guest.entries + n) (c.loop-guest.discarded + c.discards-discarded.result) (c.loop-guest.faults + c.faults-faults.result)) (sym entries)
    (subst (λ n. AreSums w (guest + 1) (c.loop-guest.entries + length (guest_at w guest).journal) (c.loop-guest.discarded + n) (c.loop-guest.faults + c.faults-faults.result)) (sym discards)
    (subst (λ n. AreSums w (guest + 1) (c.loop-guest.entries + length (guest_at w guest).journal) (c.loop-guest.discarded + discards_of w guest) (c.loop-guest.faults + n)) (sym faults) next))
