-- The disk's blocks at opening are the pages of the flat machine's files.
use Rattle.std.proofs.Common.{◌≡◌, ◌<◌, ◌+◌, ◌-◌, ◌*◌, ℕ, List, [], ◌∷◌, map, length, take, get_or, replicate, sum, All, slice_index_or, refl, ap, sym, ◌∙◌, arith}
use Rattle.std.specs.List.{flat_map, sum_by}
use Rattle.std.proofs.lemmas.List.{get_or-map, get_or_append_left, length-map, length-append, length-replicate, take-map}
use Rattle.std.proofs.lemmas.List.Concat.{get_or-flat_map, length-flat_map}
use Rattle.std.proofs.lemmas.List.Elements.{All-head, All-tail}
use Rattle.std.proofs.lemmas.List.FromFn.{length-map-range_with_len, get_or-map-range_with_len}
use Rattle.std.proofs.lemmas.List.Sums.{sum-map, sum_by_more_le}
use mathlib.Core.Path.{fun_ext}
use Rattle.cmm_types.specs.declared.page.TheConstants.{PAGE}
use Rattle.cmm_types.specs.declared.plan.FilePlan.{FilePlan}
use Rattle.cmm_types.specs.InRange.{FileInRange}
use Rattle.cmm_io.specs.DiskOf.{page_at, file_bytes, file_blocks, disk_of}
use Rattle.cmm_types.specs.Bytes.{zeros, bytes_at}
use Rattle.cmm_flat.specs.State.{opening_file, file_at}
use Rattle.guest_cache.specs.CacheView.{pages_before}

-- the pages of each file
abbrev pub planned_pages : List FilePlan → List ℕ
planned_pages files = map (λ file. file.pages) files

no_file : FilePlan
no_file = record { pages = 0; head = [] }

-- the flat machine opens with the bytes that the disk opens with
opening-bytes : (file : FilePlan) → opening_file file ≡ file_bytes file
unfolding zeros
opening-bytes file = refl

length-file_blocks : (file : FilePlan) → length (file_blocks file) ≡ file.pages
length-file_blocks file = length-map-range_with_len (page_at (file_bytes file)) 0 file.pages

-- the blocks of the files before one
blocks-before : (files : List FilePlan) (file : ℕ) → length (flat_map file_blocks (take file files)) ≡ pages_before (planned_pages files) file
blocks-before files file =
    length-flat_map file_blocks (take file files)
    ∙ ap (λ f. sum_by f (take file files)) (fun_ext length-file_blocks)
    ∙ sym (sum-map (λ (f : FilePlan). f.pages) (take file files))
    ∙ ap sum (sym (take-map (λ (f : FilePlan). f.pages) file files))

-- a block of the disk, by its file and the page's index
disk-block : (files : List FilePlan) (swap file index : ℕ) → file < length files → index < (get_or files file no_file).pages
    → slice_index_or (disk_of files swap) (pages_before (planned_pages files) file + index) [] ≡ page_at (file_bytes (get_or files file no_file)) index
disk-block files swap file index there below =
    let its = get_or files file no_file in
    let within : index < length (file_blocks its) = rw (length-file_blocks its) below in
    let inside : pages_before (planned_pages files) file + index < length (flat_map file_blocks files) =
    omega (
      arith,
      sym (blocks-before files file),
      length-flat_map file_blocks (take file files),
      sum_by_more_le (λ f. length (file_blocks f)) files file no_file there,
      length-flat_map file_blocks files,
      within,
    ) in
    get_or_append_left (flat_map file_blocks files) (replicate swap _) [] (pages_before (planned_pages files) file + index) inside
    ∙ ap (λ n. get_or (flat_map file_blocks files) (n + index) []) (sym (blocks-before files file))
    ∙ get_or-flat_map file_blocks files file index no_file [] there within
    ∙ get_or-map-range_with_len (page_at (file_bytes its)) 0 its.pages index index [] below (omega arith)

-- a page of a file of the flat machine is the block behind it
pub opening-page : (files : List FilePlan) (swap file index : ℕ) → file < length (planned_pages files) → index < get_or (planned_pages files) file 0
    → bytes_at (file_at (map opening_file files) file) (PAGE * index) PAGE ≡ slice_index_or (disk_of files swap) (pages_before (planned_pages files) file + index) []
opening-page files swap file index there below =
    let within : file < length files = rw length-map at there in
    let its = get_or files file no_file in
    let pages : get_or (planned_pages files) file 0 ≡ its.pages = get_or-map (λ (f : FilePlan). f.pages) files file no_file 0 within in
    ap (λ bytes. bytes_at bytes (PAGE * index) PAGE) (get_or-map opening_file files file no_file [] within ∙ opening-bytes its) ∙ sym (disk-block files swap file index within (rw pages at below))

length-opening_file : (file : FilePlan) → FileInRange file → length (opening_file file) ≡ PAGE * file.pages
unfolding zeros
length-opening_file file r =
    let rest : List ℕ = replicate (PAGE * file.pages - length file.head) 0 in
    let size : length rest ≡ PAGE * file.pages - length file.head = length-replicate {A = ℕ} _ _ in
    omega (arith, length-append file.head rest, r.head)

-- each file has its planned size
pub opening-lengths : (files : List FilePlan) → All FileInRange files → map length (map opening_file files) ≡ map (λ file. PAGE * file.pages) files
opening-lengths [] r = refl
opening-lengths (file ∷ files) r =
    let first = length-opening_file file (All-head FileInRange file files r) in
    let rest = opening-lengths files (All-tail FileInRange file files r) in
    (λ i. first i ∷ rest i)
