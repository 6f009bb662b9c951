-- The blocks of a guest's disk: the pages of each file in order, and behind them the swap slots, which are zeros.
use Rattle.std.specs.Prelude.{◌≡◌, ℕ, ◌-◌, ◌*◌, List, ◌++◌, length, map, take, drop, replicate}
use Rattle.std.specs.List.{flat_map, range_with_len}
use Rattle.cmm_types.specs.Bytes.{zero_page}
use Rattle.cmm_types.specs.declared.page.TheConstants.{PAGE}
use Rattle.cmm_types.specs.declared.plan.FilePlan.{FilePlan}

-- a file's bytes: its head, and zeros behind it up to the end of its last page
abbrev pub file_bytes : FilePlan → List ℕ
file_bytes file = file.head ++ replicate (PAGE * file.pages - length file.head) 0

-- the bytes of the page with this index
abbrev pub page_at : List ℕ → ℕ → List ℕ
page_at bytes index = take PAGE (drop (PAGE * index) bytes)

abbrev pub file_blocks : FilePlan → List (List ℕ)
file_blocks file = map (page_at (file_bytes file)) (range_with_len 0 file.pages)

abbrev pub disk_of : List FilePlan → ℕ → List (List ℕ)
disk_of files swap = flat_map file_blocks files ++ replicate swap zero_page

-- blocks of zeros
abbrev pub AreZeros : List (List ℕ) → Type 0
AreZeros blocks = blocks ≡ replicate (length blocks) zero_page
