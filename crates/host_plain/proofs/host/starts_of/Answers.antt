use Rattle.std.proofs.Common.{◌≡◌, ◌+◌, ap, ◌∙◌, arith, length, map, sum, take}
use Rattle.std.specs.List.{range_with_len}
use Rattle.host_plain.proofs.Starts.{one_start, next_start}
use Rattle.host_plain.proofs.host.starts_of.Goals as goal

pub loop-count-preserved : goal.loop-count-preserved
loop-count-preserved c = record {
  made = c.in_ok-push.ensures.items ∙ one_start c.args.pages.now c.loop-count.count-index c.loop-count.starts.items c.loop-count.start c.loop-count.invariant.made c.loop-count.invariant.start;
  start = next_start c.args.pages.now c.loop-count.count-index c.loop-count.start c.loop-count-test.true c.loop-count.invariant.start;
}

pub returns : goal.returns
returns c =
    let all : c.loop-count.count-index ≡ length c.args.pages.now = omega (arith, c.loop-count-test.false, c.loop-count.auto.count-index-end) in
    c.in_ok-push-2.ensures.items ∙ one_start c.args.pages.now c.loop-count.count-index c.loop-count.starts.items c.loop-count.start c.loop-count.invariant.made c.loop-count.invariant.start
    ∙ ap (λ n. map (λ guest. sum (take guest c.args.pages.now)) (range_with_len 0 (n + 1))) all
