use Rattle.std.proofs.Common.{◌≡◌, ◌+◌, length, take}
use Rattle.std.specs.List.{flat_map}
use Rattle.cmm_io.specs.DiskOf.{AreZeros, file_blocks}
use Rattle.cmm_types.specs.InRange.{file_pages_of}
use Rattle.cmm_io.proofs.mem_disk.first_blocks.Given as goal

abbrev pub invariant-loop-file : goal.invariant-loop-file
invariant-loop-file l =
    (l.blocks.items ≡ flat_map file_blocks (take l.file-index l.files))
    × AreZeros l.spare.items
    × (length l.spare.items + file_pages_of (take l.file-index l.files) ≡ file_pages_of l.files + l.swap)
