use Rattle.std.proofs.Common.{◌≡◌, ◌<◌, ap, subst, sym, length, arith, All}
use Rattle.cmm_types.specs.declared.page.TheConstants.{PAGE}
use Rattle.cmm_io.proofs.DiskBlocks.{whole_disk, length-disk_of}
use Rattle.cmm_io.proofs.mem_disk.MemDisk.open.Goals as goal

pub invariant_of-result : goal.invariant_of-result
invariant_of-result c =
    let blocks = c.in_ok-blocks.ensures in
    let size : length c.in_ok-blocks.blocks.items < 4294967296 = omega (arith, ap length blocks, length-disk_of c.args.files.now c.args.swap, c.requires.count) in
    (size, subst (λ bs. All (λ bytes. length bytes ≡ PAGE) bs) (sym blocks) (whole_disk c.args.files.now c.args.swap c.requires.ranges))
