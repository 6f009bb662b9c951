use Rattle.std.proofs.Common.{◌≡◌, map, sum, take}
use Rattle.std.specs.List.{range_with_len}
use Rattle.host_plain.proofs.host.starts_of.Given as goal

abbrev pub invariant-loop-count : goal.invariant-loop-count
invariant-loop-count l = record {
  made : l.starts.items ≡ map (λ guest. sum (take guest l.pages)) (range_with_len 0 l.count-index);
  start : l.start ≡ sum (take l.count-index l.pages);
}
