use Rattle.std.proofs.Common.{◌∙◌, sym}
use Rattle.cmm_check.proofs.EntryLaws.{no_entry, entry_of-read}
use Rattle.cmm_check.proofs.entries.read_entry.Goals as goal

pub returns-in_err-cpu-clause-none : goal.returns-in_err-cpu-clause-none
returns-in_err-cpu-clause-none c = rw c.from_residual.ensures (no_entry c.args.line.now (sym c.entry_of.ensures ∙ c.in_err-cpu.was))

pub returns-clause-some : goal.returns-clause-some
returns-clause-some c = entry_of-read c.args.line.now _ (sym c.entry_of.ensures ∙ c.in_ok-cpu.was)
