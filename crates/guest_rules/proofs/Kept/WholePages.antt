-- A page that is up to date and has bytes has a whole page of them, so that what is written to it stands in it.
use Rattle.std.specs.Prelude.{◌≡◌, ◌≤◌, ℕ, ◌+◌, List, length, true, Some}
use Rattle.std.proofs.Common.{arith, ap, sym, ◌∙◌}
use Rattle.cmm_types.specs.declared.page.TheConstants.{PAGE}
use Rattle.cmm_types.specs.declared.page.Tag.{Tag}
use Rattle.cmm_types.specs.Bytes.{bytes_at, with_bytes}
use Rattle.cmm_flat.specs.Laws.RangeLaws.{bytes_at-with_bytes}
use Rattle.cmm_flat.specs.State.{FlatState}
use Rattle.cmm_io.specs.DiskView.{DiskView}
use Rattle.essa_state.specs.PageValue.{PageValue, Bytes, MayBecome, is_lost}
use Rattle.cmm_storage.specs.StorageView.{StorageView}
use Rattle.guest_pages.specs.PagesView.{info_at}
use Rattle.guest_rules.specs.GuestState.{GuestState}
use Rattle.guest_rules.specs.Fit.{FitAt}
use Rattle.guest_rules.proofs.Cases.TurnCases.{ShowsPage}
use Rattle.guest_rules.proofs.Kept.PageFits.{tagged-below}
use Rattle.guest_rules.proofs.Fit.FitMay.{infos-pages}
use Rattle.guest_rules.proofs.Rows.Values.{may_used}
use Rattle.guest_rules.proofs.Ready.Ready.{can_be_shown}

pub whole_page : (state : FlatState) (g : GuestState) (v : StorageView) (d : DiskView) (page : ℕ) (tag : Tag) (bytes : List ℕ) → FitAt state g v d
    → (info_at g.parts.pages page).tag ≡ Some tag → (info_at g.parts.pages page).uptodate ≡ true → (v.values page).contents ≡ Bytes bytes → length bytes ≡ PAGE
whole_page state g v d page tag bytes f tagged fresh are =
    f.contents.whole page tag bytes (rw (infos-pages g v d f.sizes) at (tagged-below g.parts.pages page tag tagged)) tagged fresh are

-- bytes that were written to a whole page stand in it
fits_in : (all bytes : List ℕ) (off : ℕ) → length all ≡ PAGE → off + length bytes ≤ PAGE → off + length bytes ≤ length all
fits_in all bytes off whole within = omega (arith, whole, within)

pub written_there : (state : FlatState) (g : GuestState) (v : StorageView) (d : DiskView) (page off : ℕ) (tag : Tag) (found : PageValue) (all bytes : List ℕ) → FitAt state g v d
    → ShowsPage g tag page → MayBecome (v.values page) found → found.contents ≡ Bytes all → off + length bytes ≤ PAGE → bytes_at (with_bytes all off bytes) off (length bytes) ≡ bytes
written_there state g v d page off tag found all bytes f shows may are within =
    let same : found ≡ v.values page = may_used (v.values page) found (can_be_shown state g v d page tag f shows).usage may (ap is_lost are) in
    let whole : length all ≡ PAGE = whole_page state g v d page tag all f shows.tagged shows.uptodate (ap (λ q. q.contents) (sym same) ∙ are) in
    bytes_at-with_bytes all off bytes (fits_in all bytes off whole within)
