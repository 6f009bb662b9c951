-- Calls keep the count of planned failures, whatever numbers are planned.
use Rattle.std.specs.Prelude.{◌≡◌, ◌<◌, ℕ, ◌^◌, List, All, Ok, Err}
use Rattle.std.proofs.Common.{sym, subst}
use Rattle.cmm_io.specs.DiskCall.{DiskCall, Read, Write}
use Rattle.cmm_io.specs.DiskState.{DiskState, DiskStep}
use Rattle.cmm_io.specs.FailurePlan.{FailurePlan, after_next}
use Rattle.cmm_io.specs.Counted.{IsCounted}
use Rattle.cmm_io.proofs.Counted.{counted-next}

abbrev pub KeepsCount : FailurePlan → FailurePlan → Type 0
KeepsCount before after = (numbers : List ℕ) → All (λ n. n < 2 ^ 32) numbers → IsCounted numbers before → IsCounted numbers after

pub count_same : (before after : FailurePlan) → after ≡ before → KeepsCount before after
count_same before after same numbers few counted = subst (IsCounted numbers) (sym same) counted

pub count_then : (before between after : FailurePlan) → KeepsCount before between → KeepsCount between after → KeepsCount before after
count_then before between after first second numbers few counted = second numbers few (first numbers few counted)

pub count_next : (plan : FailurePlan) → KeepsCount plan (after_next plan)
count_next plan numbers few counted = counted-next numbers plan few counted

pub count_disk : (d : DiskState) (call : DiskCall) (e : DiskState) → DiskStep d call e → KeepsCount d.failures e.failures
count_disk d (Read block (Ok read) bytes) e step = count_then d.failures _ e.failures (count_next d.failures) (count_same _ e.failures (λ i. (step.2 i).failures))
count_disk d (Read block (Err failed) bytes) e step = count_then d.failures _ e.failures (count_next d.failures) (count_same _ e.failures (λ i. (step.1 i).failures))
count_disk d (Write block bytes (Ok done)) e step = count_then d.failures _ e.failures (count_next d.failures) (count_same _ e.failures (λ i. (step.1 i).failures))
count_disk d (Write block bytes (Err failed)) e step = count_then d.failures _ e.failures (count_next d.failures) (count_same _ e.failures (λ i. (step.1 i).failures))
