-- How many commands of a journal failed for each cause.
use Rattle.std.specs.Prelude.{ℕ, List, count_by, Bool, true, false}
use Rattle.cmm_types.specs.declared.command.Entry.{Entry}
use Rattle.cmm_types.specs.declared.command.Reply.{Reply}
use Rattle.cmm_types.specs.declared.command.Reply.TheVariants.{Done, Bytes, Refused, Fail}
use Rattle.cmm_types.specs.declared.command.Cause.TheVariants.{Disk, Paging, NoPage}

-- the reply `fail disk`
abbrev pub is_disk_failure : Reply → Bool
is_disk_failure Done = false
is_disk_failure (Bytes bytes) = false
is_disk_failure (Refused refusal) = false
is_disk_failure (Fail Disk) = true
is_disk_failure (Fail Paging) = false
is_disk_failure (Fail (NoPage pinned unslotted)) = false

-- the reply `fail paging`
abbrev pub is_paging_failure : Reply → Bool
is_paging_failure Done = false
is_paging_failure (Bytes bytes) = false
is_paging_failure (Refused refusal) = false
is_paging_failure (Fail Disk) = false
is_paging_failure (Fail Paging) = true
is_paging_failure (Fail (NoPage pinned unslotted)) = false

-- how many entries of a journal have a reply of this kind
abbrev pub replies_of : (Reply → Bool) → List Entry → ℕ
replies_of kind journal = count_by (λ entry. kind entry.reply) journal

abbrev pub disk_failures : List Entry → ℕ
disk_failures journal = replies_of is_disk_failure journal

abbrev pub paging_failures : List Entry → ℕ
paging_failures journal = replies_of is_paging_failure journal
