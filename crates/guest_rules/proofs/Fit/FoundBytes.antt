-- The bytes that are found in a page are those that the flat machine has of its tag's page.
use Rattle.std.proofs.Common.{◌≡◌, ◌≤◌, ◌+◌, ◌*◌, ◌/◌, ◌%◌, ℕ, true, List, take, drop, Some, ap, sym, ◌∙◌, arith}
use Rattle.cmm_types.specs.declared.page.TheConstants.{PAGE}
use Rattle.cmm_types.specs.declared.page.Tag.{Tag}
use Rattle.cmm_io.specs.DiskView.{DiskView}
use Rattle.cmm_types.specs.Bytes.{bytes_at}
use Rattle.cmm_flat.specs.Laws.RangeLaws.{bytes_at-bytes_at}
use Rattle.cmm_flat.specs.State.{FlatState}
use Rattle.essa_state.specs.PageValue.{PageValue, Bytes, MayBecome}
use Rattle.cmm_storage.specs.StorageView.{StorageView}
use Rattle.guest_pages.specs.PagesView.{info_at}
use Rattle.guest_rules.specs.GuestState.{GuestState}
use Rattle.guest_rules.specs.Fit.{FitAt, IsFlatTag, flat_page, backing, current, current_at, current_bytes}
use Rattle.guest_rules.proofs.Kept.PageFits.{PageFits, EachPageFits-from, tagged-below}
use Rattle.guest_rules.proofs.Kept.Currents.{current_bytes-may}
use Rattle.guest_rules.proofs.Fit.FitMay.{infos-pages}

-- a page that is up to date, and what was found in it after the host's moves
pub record IsFound (g : GuestState) (v : StorageView) (page : ℕ) (tag : Tag) (found : PageValue) (all : List ℕ) : Type 0 where
  pub tagged : (info_at g.parts.pages page).tag ≡ Some tag
  pub uptodate : (info_at g.parts.pages page).uptodate ≡ true
  pub may : MayBecome (v.values page) found
  pub are : found.contents ≡ Bytes all

pub found-fits : (state : FlatState) (g : GuestState) (v : StorageView) (d : DiskView) (page : ℕ) (tag : Tag) → FitAt state g v d → (info_at g.parts.pages page).tag ≡ Some tag
    → PageFits g.parts.cache d (info_at g.parts.pages page) (v.values page)
found-fits state g v d page tag f tagged =
    (EachPageFits-from g.parts v d (infos-pages g v d f.sizes) f.tags f.hints f.contents).each page (rw (infos-pages g v d f.sizes) at (tagged-below g.parts.pages page tag tagged))

pub found-current : (state : FlatState) (g : GuestState) (v : StorageView) (d : DiskView) (page : ℕ) (tag : Tag) (found : PageValue) (all : List ℕ) → FitAt state g v d
    → IsFound g v page tag found all → current g.parts v d tag ≡ all
found-current state g v d page tag found all f k =
    let behind = backing g.parts.cache d tag in
    ap (λ o. current_at g.parts v o behind) (f.pages.indexed page tag k.tagged).1
    ∙ sym (current_bytes-may g.parts.cache d (info_at g.parts.pages page) (v.values page) found tag (found-fits state g v d page tag f k.tagged) k.tagged k.may)
    ∙ ap (λ u. current_bytes u found.contents behind) k.uptodate
    ∙ ap (λ c. current_bytes true c behind) k.are

pub found-bytes : (state : FlatState) (g : GuestState) (v : StorageView) (d : DiskView) (page : ℕ) (tag : Tag) (found : PageValue) (all : List ℕ) → FitAt state g v d
    → IsFlatTag g.parts tag → IsFound g v page tag found all → flat_page state g.parts.maps tag ≡ all
found-bytes state g v d page tag found all f is k = f.flat.pages tag is ∙ found-current state g v d page tag found all f k

-- bytes of a page are the file's, where its pages from one on are counted from 0
pub bytes-in_page : (all : List ℕ) (first off len : ℕ) → off % PAGE + len ≤ PAGE
    → take len (drop (off % PAGE) (bytes_at all (PAGE * (first + off / PAGE)) PAGE)) ≡ bytes_at all (PAGE * first + off) len
bytes-in_page all first off len within = bytes_at-bytes_at all (PAGE * (first + off / PAGE)) PAGE (off % PAGE) len within ∙ ap (λ n. bytes_at all n len) (omega arith)
