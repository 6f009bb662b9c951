use Rattle.std.proofs.Common.{◌≡◌, ◌+◌, ◌++◌, map, length}
use Rattle.std.specs.List.{range_with_len}
use Rattle.cmm_io.specs.DiskOf.{AreZeros, page_at, file_bytes}
use Rattle.cmm_io.proofs.mem_disk.add_file.Given as goal

abbrev pub invariant-loop-index : goal.invariant-loop-index
invariant-loop-index l =
    (l.blocks.items ≡ l.fn.blocks.items ++ map (page_at (file_bytes l.file)) (range_with_len 0 l.index))
    × AreZeros l.spare.items
    × (length l.spare.items + l.index ≡ length l.fn.spare.items)
