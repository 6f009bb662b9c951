-- The disk in memory, and what each call does to it. Nothing is left free but the bytes of a read that failed.
use Rattle.std.specs.Prelude.{◌≡◌, ℕ, List, [], length, Some, Ok, Err, true, false, slice_index_or, slice_set}
use Rattle.cmm_types.specs.declared.plan.FilePlan.{FilePlan}
use Rattle.cmm_types.specs.declared.plan.GuestPlan.{GuestPlan}
use Rattle.cmm_io.specs.FailurePlan.{FailurePlan, failure_plan_of, fails_next, after_next}
use Rattle.cmm_io.specs.DiskCall.{DiskCall, Read, Write}
use Rattle.cmm_io.specs.DiskView.{DiskView}
use Rattle.cmm_io.specs.DiskOf.{disk_of}

-- the bytes of each block, and which calls fail: reads and writes are numbered together
pub record DiskState : Type 0 where
  pub blocks : List (List ℕ)
  pub failures : FailurePlan

-- the disk of these files and swap slots before its first call
abbrev pub opened : List FilePlan → ℕ → List ℕ → DiskState
opened files swap fails = record { blocks = disk_of files swap; failures = failure_plan_of fails }

-- a guest's disk before its first call: its files and swap slots, with the calls that are planned to fail
abbrev pub opening_disk : GuestPlan → DiskState
opening_disk plan = opened plan.files plan.swap plan.disk_fail

-- the same blocks after one more call
abbrev pub next_call : DiskState → DiskState
next_call d = record { blocks = d.blocks; failures = after_next d.failures }

-- the same calls with one block replaced
abbrev pub replaced : DiskState → ℕ → List ℕ → DiskState
replaced d block bytes = record { blocks = slice_set d.blocks block bytes; failures = d.failures }

-- each call is counted; a good read gives the block's bytes, a good write replaces them, and nothing else changes
abbrev pub DiskStep : DiskState → DiskCall → DiskState → Type 0
DiskStep d (Read block (Ok done) bytes) e = (fails_next d.failures ≡ false) × (bytes ≡ slice_index_or d.blocks block []) × (e ≡ next_call d)
DiskStep d (Read block (Err failed) bytes) e = (fails_next d.failures ≡ true) × (e ≡ next_call d)
DiskStep d (Write block bytes (Ok done)) e = (fails_next d.failures ≡ false) × (e ≡ replaced (next_call d) block bytes)
DiskStep d (Write block bytes (Err failed)) e = (fails_next d.failures ≡ true) × (e ≡ next_call d)

abbrev pub disk_view : DiskState → DiskView
disk_view d = record { count = length d.blocks; blocks = Some d.blocks; faults = d.failures.faults }
