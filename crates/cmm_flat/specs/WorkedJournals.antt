-- Worked journals with the guests that they are of: a file read twice, anonymous bytes without a swap slot, an unmap before a load.
use Rattle.std.specs.Prelude.{ℕ, List, [], ◌∷◌}
use Rattle.cmm_types.specs.declared.plan.FilePlan.{FilePlan}
use Rattle.cmm_types.specs.declared.plan.CpuPlan.{CpuPlan}
use Rattle.cmm_types.specs.declared.plan.GuestPlan.{GuestPlan}
use Rattle.cmm_types.specs.declared.command.Entry.{Entry}
use Rattle.cmm_types.specs.declared.command.Op.{Op}
use Rattle.cmm_types.specs.declared.command.Op.TheVariants.{Read, MapAnon, Unmap, Load, Store}
use Rattle.cmm_types.specs.declared.command.Reply.{Reply}
use Rattle.cmm_types.specs.declared.command.Reply.TheVariants.{Done, Bytes, Refused, Fail}
use Rattle.cmm_types.specs.declared.command.Cause.TheVariants.{NoPage}
use Rattle.cmm_types.specs.declared.command.FlatRefusal.TheVariants.{NoMapping}

abbrev pub guest : ℕ → List FilePlan → List CpuPlan → GuestPlan
guest pages files cpus = record { pages = pages; swap = 0; files = files; disk_fail = []; pager_fail = []; cpus = cpus }

abbrev pub cpu_with : List Op → CpuPlan
cpu_with commands = record { process = 0; commands = commands }

abbrev pub entry : ℕ → ℕ → Op → Reply → Entry
entry cpu k op reply = record { cpu = cpu; k = k; op = op; reply = reply }

abbrev pub hello : List ℕ
hello = 0x68 ∷ 0x65 ∷ 0x6c ∷ 0x6c ∷ 0x6f ∷ []

abbrev pub hellp : List ℕ
hellp = 0x68 ∷ 0x65 ∷ 0x6c ∷ 0x6c ∷ 0x70 ∷ []

-- a guest that reads the file's head twice
abbrev pub reads_twice : GuestPlan
reads_twice = guest 4 (record { pages = 1; head = hello } ∷ []) (cpu_with (Read 0 0 5 ∷ Read 0 0 5 ∷ []) ∷ [])

-- its journal, with the second entry's number and bytes
abbrev pub read_twice : ℕ → List ℕ → List Entry
read_twice k bytes = entry 0 0 (Read 0 0 5) (Bytes hello) ∷ entry 0 k (Read 0 0 5) (Bytes bytes) ∷ []

-- a guest of two pages that needs a third, without a swap slot
abbrev pub stores_twice : GuestPlan
stores_twice = guest 2 [] (cpu_with (MapAnon 0 3 ∷ Store 0 0 (0x61 ∷ []) ∷ Store 0 4096 (0x62 ∷ []) ∷ Load 0 8192 1 ∷ []) ∷ [])

-- its journal, with how many pages the failure says are pinned and without a slot
abbrev pub stored_twice : ℕ → ℕ → List Entry
stored_twice pinned unslotted =
    entry 0 0 (MapAnon 0 3) Done ∷ entry 0 1 (Store 0 0 (0x61 ∷ [])) Done ∷ entry 0 2 (Store 0 4096 (0x62 ∷ [])) Done
    ∷ entry 0 3 (Load 0 8192 1) (Fail (NoPage pinned unslotted)) ∷ []

-- a guest with a processor that unmaps what the other one loads
abbrev pub unmaps_and_loads : GuestPlan
unmaps_and_loads = guest 4 [] (cpu_with (MapAnon 0 1 ∷ Load 0 0 1 ∷ []) ∷ cpu_with (Unmap 0 ∷ []) ∷ [])

-- the load comes after the unmap, and is refused
abbrev pub unmapped_first : List Entry
unmapped_first = entry 0 0 (MapAnon 0 1) Done ∷ entry 1 0 (Unmap 0) Done ∷ entry 0 1 (Load 0 0 1) (Refused NoMapping) ∷ []

-- the same entries in another order
abbrev pub loaded_first : List Entry
loaded_first = entry 0 0 (MapAnon 0 1) Done ∷ entry 0 1 (Load 0 0 1) (Refused NoMapping) ∷ entry 1 0 (Unmap 0) Done ∷ []
