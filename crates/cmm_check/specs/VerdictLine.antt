-- The line that tells a verdict.
use Rattle.std.specs.Prelude.{ℕ, List, ◌++◌, codes, decimal}
use Rattle.cmm_report.specs.Lines.{line}
use Rattle.cmm_check.specs.declared.verdict.Verdict.{Verdict}
use Rattle.cmm_check.specs.declared.verdict.Verdict.TheVariants.{Accepted, Rejected}

abbrev pub verdict_line : Verdict → List ℕ
verdict_line Accepted = line (codes "accepted")
verdict_line (Rejected number) = line (codes "rejected " ++ decimal number)
