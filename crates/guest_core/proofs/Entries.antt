-- What the entry that a load or a store finds gives the calls of its turn.
use Rattle.std.proofs.Common.{◌≡◌, ◌≤◌, ◌/◌, ℕ, List, Bool, true, false, Some, nat_eq, if◌then◌else◌, refl, ap, sym, subst, ◌∙◌, arith}
use Rattle.std.proofs.lemmas.Bool.Decides.{nat_tests}
use Rattle.cmm_types.specs.declared.page.TheConstants.{PAGE}
use Rattle.cmm_types.specs.declared.page.Tag.{Tag}
use Rattle.cmm_types.specs.declared.page.Usage.{Usage}
use Rattle.cmm_types.specs.declared.page.Usage.TheVariants.{S, U, P, V}
use Rattle.cmm_types.specs.declared.command.Op.{Op}
use Rattle.cmm_types.specs.declared.command.Op.TheVariants.{Store}
use Rattle.cmm_io.specs.DiskView.{DiskView}
use Rattle.essa_state.specs.StateWord.{is_unused}
use Rattle.cmm_storage.specs.StorageView.{StorageView, can_store}
use Rattle.cmm_flat.specs.Legal.{flat_of}
use Rattle.guest_pages.specs.declared.info.PageInfo.{PageInfo}
use Rattle.guest_pages.specs.PagesView.{info_at}
use Rattle.guest_maps.specs.MapsView.{entry_at}
use Rattle.guest_rules.specs.Hint.{can_be_fetched_again, hint}
use Rattle.guest_rules.specs.GuestState.{GuestState}
use Rattle.guest_rules.specs.Calls.{CanTake, CanLoad, CanStore}
use Rattle.guest_rules.specs.Fit.{Fit}
use Rattle.guest_rules.proofs.Cases.TurnCases.{ShowsPage, Maps}
use Rattle.guest_rules.proofs.Rows.ValueLaws.{hint-tagged}
use Rattle.guest_rules.proofs.Kept.EntryLaws.{some_writer}
use Rattle.guest_rules.proofs.Cases.Reached.{entry_page}
use Rattle.guest_rules.proofs.Ready.ReadyCalls.{entry-takes}
use Rattle.guest_core.specs.Between.{Hits}

hit-takes : (g : GuestState) (v : StorageView) (d : DiskView) (cpu : ℕ) (op : Op) (page : ℕ) → Fit g v d → Hits g cpu op page → CanTake g.parts v page
hit-takes g v d cpu op page f hits = entry-takes g v d cpu op hits.writes hits.slot hits.off (record { page = page; writable = hits.writable }) f hits.reaches hits.entry

hit-page : (g : GuestState) (v : StorageView) (d : DiskView) (cpu : ℕ) (op : Op) (page : ℕ) → Fit g v d → (hits : Hits g cpu op page) → ShowsPage g hits.reaches.tag page
hit-page g v d cpu op page f hits = entry_page (flat_of g.plan g.journal) g v d cpu op hits.writes hits.slot hits.off (record { page = page; writable = hits.writable }) f hits.reaches hits.entry

-- the usage of a page that has a tag
used_unless : (u : Usage) → (u ≡ U → ⊥) → is_unused u ≡ false
used_unless S n = refl
used_unless U n = absurd (n refl)
used_unless P n = refl
used_unless V n = refl

stored_to : (info : PageInfo) (tag : Tag) → info.tag ≡ Some tag → 1 ≤ info.writers → can_store (hint info) ≡ true
unfolding hint
stored_to info tag tagged some = rw tagged (of (can_be_fetched_again info) (nat_eq info.writers 0) some_not_none)
  where
    some_not_none : nat_eq info.writers 0 ≡ false
    some_not_none = grind (arith, nat_tests, some)

    of : (clean none : Bool) → none ≡ false → can_store (if clean then (if none then V else P) else S) ≡ true
    of true true e = let bad : true ≡ false = e in absurd cc
    of true false e = refl
    of false none e = refl

-- the page isn't unused
hit-used : (g : GuestState) (v : StorageView) (d : DiskView) (cpu : ℕ) (op : Op) (page : ℕ) → Fit g v d → Hits g cpu op page → is_unused (v.values page).usage ≡ false
hit-used g v d cpu op page f hits =
    let has = hit-page g v d cpu op page f hits in
    let below = (hit-takes g v d cpu op page f hits).there in
    used_unless (v.values page).usage (λ bad. hint-tagged (info_at g.parts.pages page) hits.reaches.tag has.tagged (sym (f.hints.hints page below) ∙ bad))

-- so the page can be loaded from through the entry
pub hit-loads : (g : GuestState) (v : StorageView) (d : DiskView) (cpu : ℕ) (op : Op) (page : ℕ) → Fit g v d → Hits g cpu op page → CanLoad g.parts v page
hit-loads g v d cpu op page f hits = record { takes = hit-takes g v d cpu op page f hits; used = hit-used g v d cpu op page f hits }

-- and it may be stored to, where a store goes through the entry
hit-writable : (g : GuestState) (v : StorageView) (d : DiskView) (cpu : ℕ) (op : Op) (page number off : ℕ) (bytes : List ℕ) → Fit g v d → Hits g cpu op page → op ≡ Store number off bytes
    → can_store (v.values page).usage ≡ true
hit-writable g v d cpu op page number off bytes f hits is =
    let has = hit-page g v d cpu op page f hits in
    let below = (hit-takes g v d cpu op page f hits).there in
    let maps : Maps g cpu (Store number off bytes) hits.writes hits.slot hits.off = subst (λ q. Maps g cpu q hits.writes hits.slot hits.off) is hits.reaches.maps in
    let writable : hits.writable ≡ true = hits.serves maps.0 in
    let entry : entry_at g.parts.maps hits.slot (hits.off / PAGE) ≡ Some (record { page = page; writable = true }) = hits.entry ∙ ap (λ w. Some (record { page = page; writable = w })) writable in
    let some : 1 ≤ (info_at g.parts.pages page).writers = omega (arith, f.entries.writers page, some_writer g.parts.maps hits.slot (hits.off / PAGE) page entry) in
    ap can_store (f.hints.hints page below) ∙ stored_to (info_at g.parts.pages page) hits.reaches.tag has.tagged some

pub hit-stores : (g : GuestState) (v : StorageView) (d : DiskView) (cpu : ℕ) (op : Op) (page number off : ℕ) (bytes : List ℕ) → Fit g v d → Hits g cpu op page → op ≡ Store number off bytes
    → CanStore g.parts v page
hit-stores g v d cpu op page number off bytes f hits is =
    record { takes = hit-takes g v d cpu op page f hits; writable = hit-writable g v d cpu op page number off bytes f hits is }
