use Rattle.std.proofs.Common.{◌≡◌, ◌≤◌, ◌*◌, ◌^◌, take, sum_by}
use Rattle.essa_state.specs.declared.fields.Fields.{Fields}
use Rattle.cmm2_cli.proofs.run_report.machine_discards.Given as goal

-- the counts of the words so far, each below 2 ^ 32
abbrev pub invariant-loop-word : goal.invariant-loop-word
invariant-loop-word l = record {
  sum : l.discards ≡ sum_by (λ (word : Fields). word.count) (take l.word-index l.word-items);
  most : l.discards ≤ l.word-index * 2 ^ 32;
}
