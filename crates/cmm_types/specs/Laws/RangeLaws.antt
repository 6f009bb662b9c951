-- Bounds on the sums of plans within their ranges.
use Rattle.std.specs.Prelude.{◌^◌, ◌≤◌, List, length, All}
use Rattle.std.proofs.Common.{arith}
use Rattle.std.proofs.lemmas.List.Sums.{sum_by-le}
use Rattle.cmm_types.specs.declared.plan.TheConstants.{MAX_FILE_PAGES, MAX_GUESTS, MAX_GUEST_PAGES}
use Rattle.cmm_types.specs.declared.plan.FilePlan.{FilePlan}
use Rattle.cmm_types.specs.declared.plan.GuestPlan.{GuestPlan}
use Rattle.cmm_types.specs.InRange.{FilesInRange, GuestInRange, file_pages_of, blocks_of, guest_pages_of, guest_blocks_of}

-- 64 files of at most 1,024 pages
pub file_pages_bound : (files : List FilePlan) → FilesInRange files → file_pages_of files ≤ 2 ^ 16
file_pages_bound files range =
    let each : All (λ file. file.pages ≤ MAX_FILE_PAGES) files = λ k d h. (range.each k d h).most in
    omega (arith, sum_by-le (λ file. file.pages) MAX_FILE_PAGES files each, range.few)

pub blocks_bound : (guest : GuestPlan) → GuestInRange guest → blocks_of guest ≤ 2 ^ 17
blocks_bound guest range = omega (arith, file_pages_bound guest.files range.files, range.swap)

-- 16 guests of at most 4,096 pages
pub guest_pages_bound : (guests : List GuestPlan) → length guests ≤ MAX_GUESTS → All GuestInRange guests → guest_pages_of guests ≤ 2 ^ 16
guest_pages_bound guests few each =
    let pages : All (λ guest. guest.pages ≤ MAX_GUEST_PAGES) guests = λ k d h. (each k d h).pages in
    omega (arith, sum_by-le (λ guest. guest.pages) MAX_GUEST_PAGES guests pages, few)

pub guest_blocks_bound : (guests : List GuestPlan) → length guests ≤ MAX_GUESTS → All GuestInRange guests → guest_blocks_of guests ≤ 2 ^ 21
guest_blocks_bound guests few each =
    let blocks : All (λ guest. blocks_of guest ≤ 2 ^ 17) guests = λ k d h. blocks_bound _ (each k d h) in
    omega (arith, sum_by-le blocks_of (2 ^ 17) guests blocks, few)
