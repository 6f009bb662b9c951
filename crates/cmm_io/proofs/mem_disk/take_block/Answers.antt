use Rattle.std.proofs.Common.{rules, ◌≡◌, ◌∙◌, sym, arith, ◌++◌, ◌∷◌, []}
use Rattle.cmm_io.proofs.Zeros.{padded_nothing, zeros_last}
use Rattle.cmm_io.proofs.mem_disk.take_block.Goals as goal

pub returns-else-head-gt0-clause-block : goal.returns-else-head-gt0-clause-block
returns-else-head-gt0-clause-block c =
    let block = c.unwrap-block.result in
    let popped : c.args.spare.now.items ≡ c.pop.new.self.items ++ block ∷ [] = search rules in
    zeros_last _ _ block popped c.requires.zeros ∙ sym (padded_nothing c.args.head.now (omega (arith, c.if-head-gt0.false)))
