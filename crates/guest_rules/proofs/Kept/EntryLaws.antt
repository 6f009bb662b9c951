-- Laws of one entry that is left, or set: what it shows, and how many can be stored through.
use Rattle.std.proofs.Common.{◌≡◌, ◌≢◌, ◌<◌, ◌≤◌, ◌+◌, ◌&&◌, ℕ, Bool, true, false, cond, nat_lt, length, Option, Some, None, nat_eq, refl, ap, sym, ◌∙◌, arith, length-set, get_or-set_same}
use Rattle.std.specs.Prelude.{◌==◌}
use Rattle.std.proofs.lemmas.Bool.{eqb-true, eqb-false, false_from_ne_true}
use Rattle.std.proofs.lemmas.Bool.Decides.{nat_tests}
use Rattle.std.proofs.lemmas.List.{length-map}
use Rattle.cmm_types.specs.declared.page.Tag.{Tag}
use Rattle.cmm_types.specs.Sums.{one_if}
use Rattle.guest_maps.specs.declared.slot.Pte.{Pte}
use Rattle.guest_maps.specs.declared.slot.Slot.{Slot}
use Rattle.guest_maps.specs.MapsView.{MapsView, slot_at, place_at, entry_at, slot_has_page, tag_of, tag_in, tag_at}
use Rattle.guest_maps.specs.MapsView.{IsPlace, shows, stores_to, writers_showing, unless_shows, with_entry, without_entries_of}
use Rattle.guest_maps.specs.Laws.MapsLaws.{entry_at-without_entries_of}
use Rattle.guest_maps.specs.EntryCounts.{count_by-set, count_by-positive}
use Rattle.guest_rules.proofs.Cases.TurnCases.{CanBeSet}

-- a place with a tag is one
pub place-tagged : (maps : MapsView) (slot index : ℕ) (tag : Tag) → tag_at maps slot index ≡ Some tag → IsPlace maps slot index
place-tagged maps slot index tag e = of (slot_at maps slot) e
  where
    test : (b : Bool) (t : Tag) → cond b (Some t) None ≡ Some tag → b ≡ true
    test true t x = refl
    test false t x = let bad : None ≡ Some tag = x in absurd cc

    of : (o : Option Slot) → tag_in o slot index ≡ Some tag → slot_has_page o index ≡ true
    of None z = let bad : None ≡ Some tag = z in absurd cc
    of (Some mapping) z = test (nat_lt index mapping.count) (tag_of mapping.shown slot index) z

-- ---- the entries of a page are gone

kept_by : (b : Bool) (o : Option Pte) (pte : Pte) → cond b None o ≡ Some pte → (b ≡ false) × (o ≡ Some pte)
kept_by true o pte e = let bad : None ≡ Some pte = e in absurd cc
kept_by false o pte e = (refl, e)

-- an entry that is left was there, and shows another page
pub record IsLeft (maps : MapsView) (page slot index : ℕ) (pte : Pte) : Type 0 where
  pub was : entry_at maps slot index ≡ Some pte
  pub other : pte.page ≢ page

pub entry-without : (maps : MapsView) (page slot index : ℕ) (pte : Pte) → entry_at (without_entries_of maps page) slot index ≡ Some pte → IsLeft maps page slot index pte
entry-without maps page slot index pte e =
    let k = kept_by (shows page (entry_at maps slot index)) (entry_at maps slot index) pte (sym (entry_at-without_entries_of maps page slot index) ∙ e) in
    record { was = k.1; other = eqb-false pte.page page (ap (shows page) (sym k.1) ∙ k.0) }

pub length-without : (maps : MapsView) (page : ℕ) → length (without_entries_of maps page).entries ≡ length maps.entries
unfolding without_entries_of
length-without maps page = length-map maps.entries (unless_shows page)

-- ---- an entry is set

pub length-with_entry : (maps : MapsView) (slot index : ℕ) (pte : Option Pte) → length (with_entry maps slot index pte).entries ≡ length maps.entries
unfolding with_entry
length-with_entry maps slot index pte = length-set maps.entries (place_at slot index) pte

pub entry_at-set : (maps : MapsView) (slot index : ℕ) (pte : Option Pte) → place_at slot index < length maps.entries → entry_at (with_entry maps slot index pte) slot index ≡ pte
unfolding with_entry
entry_at-set maps slot index pte below = get_or-set_same maps.entries (place_at slot index) pte None below

same_number : (n : ℕ) → nat_eq n n ≡ true
same_number n = grind (arith, nat_tests)

and_false : (b : Bool) → (b && false) ≡ false
and_false true = refl
and_false false = refl

old_stores : (writes : Bool) (i : ℕ) (o : Option Pte) → CanBeSet o writes → stores_to i o ≡ false
old_stores writes i None can = refl
old_stores writes i (Some pte) can = ap (λ b. b && (pte.page == i)) can.1

stores_here : (page : ℕ) (writes : Bool) → one_if (stores_to page (Some (record { page = page; writable = writes }))) ≡ one_if writes
stores_here page true = ap one_if (same_number page)
stores_here page false = refl

stores_elsewhere : (page i : ℕ) (writes : Bool) → i ≢ page → stores_to i (Some (record { page = page; writable = writes })) ≡ false
stores_elsewhere page i writes n = ap (λ q. writes && q) (false_from_ne_true (page == i) (λ t. n (sym (eqb-true page i t)))) ∙ and_false writes

-- maps the mappings, slot the slot of a mapping, index a page of it
module _ (maps : MapsView) (slot index : ℕ) where
  -- the page that the entry shows has one writer more where the entry allows stores
  pub writers-with_entry_same : (page : ℕ) (writes : Bool) → place_at slot index < length maps.entries → CanBeSet (entry_at maps slot index) writes
      → writers_showing (with_entry maps slot index (Some (record { page = page; writable = writes }))) page ≡ writers_showing maps page + one_if writes
  unfolding with_entry
  writers-with_entry_same page writes below can =
      let moved = count_by-set (stores_to page) maps.entries (place_at slot index) (Some (record { page = page; writable = writes })) below in
      let old : one_if (stores_to page (entry_at maps slot index)) ≡ 0 = ap one_if (old_stores writes page (entry_at maps slot index) can) in
      omega (arith, moved, old, stores_here page writes)

  pub writers-with_entry_other : (page i : ℕ) (writes : Bool) → place_at slot index < length maps.entries → CanBeSet (entry_at maps slot index) writes → i ≢ page
      → writers_showing (with_entry maps slot index (Some (record { page = page; writable = writes }))) i ≡ writers_showing maps i
  unfolding with_entry
  writers-with_entry_other page i writes below can n =
      let moved = count_by-set (stores_to i) maps.entries (place_at slot index) (Some (record { page = page; writable = writes })) below in
      let old : one_if (stores_to i (entry_at maps slot index)) ≡ 0 = ap one_if (old_stores writes i (entry_at maps slot index) can) in
      let new : one_if (stores_to i (Some (record { page = page; writable = writes }))) ≡ 0 = ap one_if (stores_elsewhere page i writes n) in
      omega (arith, moved, old, new)

  -- a page that an entry allows stores to has a writer
  pub some_writer : (page : ℕ) → entry_at maps slot index ≡ Some (record { page = page; writable = true }) → 1 ≤ writers_showing maps page
  some_writer page e = count_by-positive (stores_to page) maps.entries (place_at slot index) refl (ap (stores_to page) e ∙ same_number page)

  -- ---- an entry is cleared

  -- the page that it showed has one writer less where it allowed stores
  pub writers-cleared_same : (pte : Pte) → place_at slot index < length maps.entries → entry_at maps slot index ≡ Some pte
      → writers_showing (with_entry maps slot index None) pte.page + one_if pte.writable ≡ writers_showing maps pte.page
  unfolding with_entry
  writers-cleared_same pte below e =
      let moved = count_by-set (stores_to pte.page) maps.entries (place_at slot index) None below in
      let old : one_if (stores_to pte.page (entry_at maps slot index)) ≡ one_if pte.writable = ap (λ o. one_if (stores_to pte.page o)) e ∙ stores_here pte.page pte.writable in
      omega (arith, moved, old)

  pub writers-cleared_other : (i : ℕ) (pte : Pte) → place_at slot index < length maps.entries → entry_at maps slot index ≡ Some pte → i ≢ pte.page
      → writers_showing (with_entry maps slot index None) i ≡ writers_showing maps i
  unfolding with_entry
  writers-cleared_other i pte below e n =
      let moved = count_by-set (stores_to i) maps.entries (place_at slot index) None below in
      let old : one_if (stores_to i (entry_at maps slot index)) ≡ 0 = ap (λ o. one_if (stores_to i o)) e ∙ ap one_if (stores_elsewhere pte.page i pte.writable n) in
      omega (arith, moved, old)
