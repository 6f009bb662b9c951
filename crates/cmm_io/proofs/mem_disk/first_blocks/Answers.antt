use Rattle.std.proofs.Common.{◌≡◌, ◌∙◌, ◌+◌, ◌++◌, ap, subst, length, replicate, arith}
use Rattle.std.specs.List.{flat_map}
use Rattle.std.proofs.lemmas.List.{take_all}
use Rattle.cmm_types.specs.InRange.{file_pages_of}
use Rattle.cmm_types.specs.Bytes.{zero_page}
use Rattle.cmm_io.specs.DiskOf.{file_blocks}
use Rattle.cmm_io.proofs.Zeros.{zeros_made}
use Rattle.cmm_io.proofs.mem_disk.first_blocks.Goals as goal

pub loop-file-init : goal.loop-file-init
loop-file-init c =
    let made = zeros_made c.in_ok-spare.spare.items (c.file_pages.result + c.args.swap) c.in_ok-spare.ensures in
    (c.in_ok-blocks.ensures.items, made.0, omega (arith, made.1, c.file_pages.ensures))

pub returns : goal.returns
returns c =
    let all = take_all c.loop-file.file-index c.args.files.now c.loop-file-test.false in
    let size : length c.loop-file.spare.items + file_pages_of c.args.files.now ≡ file_pages_of c.args.files.now + c.args.swap =
    subst (λ files. length c.loop-file.spare.items + file_pages_of files ≡ file_pages_of c.args.files.now + c.args.swap) all c.loop-file.invariant.2 in
    let swap : length c.loop-file.spare.items ≡ c.args.swap = omega (arith, size) in
    c.in_ok-append.ensures.items
    ∙ ap (λ blocks. blocks ++ c.loop-file.spare.items) (c.loop-file.invariant.0 ∙ ap (flat_map file_blocks) all)
    ∙ ap (λ blocks. flat_map file_blocks c.args.files.now ++ blocks) (c.loop-file.invariant.1 ∙ ap (λ n. replicate n zero_page) swap)
