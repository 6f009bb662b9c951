-- What a page that was taken is found to be, and how it is given back.
use Rattle.std.specs.Prelude.{◌≡◌, ◌≢◌, ◌≤◌, ℕ, List, true, false, None, Ok}
use Rattle.std.proofs.Common.{arith, sym, ap, ◌∙◌}
use Rattle.cmm_types.specs.declared.page.Usage.TheVariants.{S, U}
use Rattle.cmm_io.specs.Faults.{HasRisen}
use Rattle.cmm_io.specs.DiskView.{DiskView}
use Rattle.essa_state.specs.PageValue.{PageValue, Bytes, IsMadeUnused, MayBecome, is_lost, is_blank}
use Rattle.cmm_storage.specs.StorageView.{StorageView, Follows, Keeps, Misses, touched_contents}
use Rattle.cmm_storage.specs.StorageCall.{Touch}
use Rattle.cmm_storage.specs.Program.{done, put_page, bind}
use Rattle.cmm_storage.specs.Views.{Seen, Keeps-trans, Keeps-may}
use Rattle.guest_rules.specs.declared.parts.Parts.{Parts}
use Rattle.guest_rules.specs.Rows.{handled, rehint, with_change}
use Rattle.guest_rules.proofs.Cases.TurnCases.{GivenBack, AllMay, IsRehinted}
use Rattle.guest_rules.proofs.Rows.Values.{filled_may, touched_same}
use Rattle.guest_rules.proofs.Rows.Held.{Stabled, IsHandled, IsUsed, rehinted_value, seen_settle}

-- one page was held and given back, and may have changed as the host may change it
pub all_may : (page : ℕ) (v w : StorageView) (d e : DiskView) → Keeps v page w → w.held ≡ None → MayBecome (v.values page) (w.values page) → e ≡ d → AllMay v d w e
all_may page v w d e keeps held may disk = record {
  pages = keeps.pages;
  tells = keeps.tells;
  held = held;
  values = λ i below. Keeps-may v w page i keeps may;
  count = ap (λ q. q.count) disk;
  blocks = ap (λ q. q.blocks) disk;
}

pub given_back : (page : ℕ) (v w : StorageView) (d e : DiskView) → Keeps v page w → w.held ≡ None → e ≡ d → GivenBack page v d w e
given_back page v w d e keeps held disk = record { keeps = keeps; held = held; count = ap (λ q. q.count) disk; blocks = ap (λ q. q.blocks) disk }

-- a count that rose between two moments has risen around them
pub risen_around : (a b c d : ℕ) → a ≤ b → HasRisen b c → c ≤ d → HasRisen a d
risen_around a b c d before risen after = omega (arith, before, risen, after)

pub misses_around : (v m n w : StorageView) (page : ℕ) → Keeps v page m → Misses m n → Keeps n page w → Misses v w
misses_around v m n w page before misses after = record {
  not_quiet = sym before.quiet ∙ misses.not_quiet;
  risen = risen_around v.misses m.misses n.misses w.misses before.misses misses.risen after.misses;
}

-- a page that a command can use: it was filled, and has a tag
pub record CanBeUsed (parts : Parts) (page : ℕ) (v : StorageView) : Type 0 where
  pub tells : v.tells ≡ true
  pub hinted : IsUsed parts page
  pub usage : (v.values page).usage ≢ U
  pub filled : is_blank (v.values page).contents ≡ false

-- the page was taken, and has the value found
pub record WasTaken (page : ℕ) (v m : StorageView) : Type 0 where
  pub keeps : Keeps v page m
  pub may : MayBecome (v.values page) (m.values page)
  pub quiet : v.quiet ≡ true → m.values page ≡ v.values page

-- the page has still the value that it was taken with
pub taken_same : (page : ℕ) (v m n : StorageView) → WasTaken page v m → Keeps m page n → n.values page ≡ m.values page → WasTaken page v n
taken_same page v m n taken keeps same = record { keeps = Keeps-trans v m n page taken.keeps keeps; may = rw same taken.may; quiet = λ q. same ∙ taken.quiet q }

-- the page had been discarded, and was handled and given back
pub record FoundDiscarded (parts : Parts) (page : ℕ) (v : StorageView) (d : DiskView) (a : Parts) (w : StorageView) (e : DiskView) : Type 0 where
  pub tables : a ≡ handled parts page
  pub back : GivenBack page v d w e
  pub found : PageValue
  pub may : MayBecome (v.values page) found
  pub lost : is_lost found.contents ≡ true
  pub unused : IsMadeUnused found (w.values page)
  pub quiet : v.quiet ≡ true → found ≡ v.values page

pub seen_gone : {R : Type 0} (parts after : Parts) (r : R) (page : ℕ) (v m n : StorageView) (d y : DiskView) (a : Parts × R) (w : StorageView) (e : DiskView)
    → WasTaken page v m → is_lost (m.values page).contents ≡ true → IsHandled parts page m d after n y → Seen {A = Parts × R} (put_page page (done (after, r))) n y a w e
    → (a.1 ≡ r) × FoundDiscarded parts page v d a.0 w e
seen_gone parts after r page v m n d y a w e taken lost gone (o, (keeps, nothing, still, held, value), (ea, em, ed)) = (
  ap (λ q. q.1) ea,
  record {
    tables = ap (λ q. q.0) ea ∙ gone.tables;
    back = given_back page v w d e (rw em (Keeps-trans v m o page taken.keeps (Keeps-trans m n o page gone.stays.keeps keeps))) (rw em held) (ed ∙ gone.stays.disk);
    found = m.values page;
    may = taken.may;
    lost = lost;
    unused = rw (em, value) gone.unused;
    quiet = taken.quiet;
  },
)

-- the page was taken and made stable
pub record IsStable (page : ℕ) (found : PageValue) (v n : StorageView) : Type 0 where
  pub keeps : Keeps v page n
  pub may : MayBecome (v.values page) found
  pub there : is_lost found.contents ≡ false
  pub filled : is_blank found.contents ≡ false
  pub value : n.values page ≡ record found { usage = S }

pub stable_taken : (parts : Parts) (page : ℕ) (v m n : StorageView) (d y : DiskView) (after : Parts) → CanBeUsed parts page v → WasTaken page v m
    → Stabled parts page m d after (Ok tt) n y → IsStable page (m.values page) v n
stable_taken parts page v m n d y after can taken (stays, tables, there, value) = record {
  keeps = Keeps-trans v m n page taken.keeps stays.keeps;
  may = taken.may;
  there = there;
  filled = filled_may (v.values page) (m.values page) can.usage taken.may can.filled;
  value = value;
}

-- the same after a call that left the page's value
pub stable_same : (page : ℕ) (found : PageValue) (v n m : StorageView) → IsStable page found v n → Keeps n page m → m.values page ≡ n.values page → IsStable page found v m
stable_same page found v n m x keeps same = record { keeps = Keeps-trans v n m page x.keeps keeps; may = x.may; there = x.there; filled = x.filled; value = same ∙ x.value }

-- a stable page that was touched has its bytes
pub record IsTouched (page : ℕ) (found : PageValue) (v m : StorageView) : Type 0 where
  pub stable : IsStable page found v m
  pub all : List ℕ
  pub are : found.contents ≡ Bytes all
  pub here : (m.values page).contents ≡ Bytes all

pub touched_stable : (page : ℕ) (found : PageValue) (v n m : StorageView) → v.tells ≡ true → IsStable page found v n → Follows n (Touch page (Ok tt)) m → IsTouched page found v m
touched_stable page found v n m tells x (keeps, nothing, holds, there, value, whole, _, _) =
    let contents : touched_contents n.tells (n.values page).contents ≡ (n.values page).contents =
    touched_same n.tells (n.values page).contents (ap (λ q. is_blank q.contents) x.value ∙ x.filled) there in
    let same : m.values page ≡ n.values page = value ∙ ap (λ q. record (n.values page) { contents = q }) contents in
    let all = whole (x.keeps.tells ∙ tells) in
    record {
      stable = stable_same page found v n m x keeps same;
      all = all.all;
      are = ap (λ q. q.contents) (sym x.value) ∙ ap (λ q. q.contents) (sym same) ∙ all.are;
      here = all.are;
    }

-- the page was there, its hint was told again, and it was given back
pub record WasThere (parts : Parts) (page : ℕ) (found : PageValue) (v : StorageView) (d : DiskView) (a : Parts) (w : StorageView) (e : DiskView) : Type 0 where
  pub may : MayBecome (v.values page) found
  pub back : GivenBack page v d w e
  pub rehinted : IsRehinted parts page found a (w.values page)
  pub disk : e ≡ d

-- the same with the answer, and what it keeps of the moment before
pub record IsDone {R : Type 0} (parts : Parts) (r : R) (page : ℕ) (found : PageValue) (v n : StorageView) (d : DiskView) (a : Parts × R) (w : StorageView) (e : DiskView) : Type 0 where
  pub answer : a.1 ≡ r
  pub is : WasThere parts page found v d a.0 w e
  pub keeps : Keeps n page w

pub settle : {R : Type 0} (parts : Parts) (r : R) (page : ℕ) (found : PageValue) (v n : StorageView) (d : DiskView) (a : Parts × R) (w : StorageView) (e : DiskView)
    → IsUsed parts page → IsStable page found v n → Seen {A = Parts × R} (bind (rehint parts page) (λ after. put_page page (done (after, r)))) n d a w e
    → IsDone parts r page found v n d a w e
settle parts r page found v n d a w e used x run =
    let s = seen_settle parts r page n d a w e used (ap (λ q. q.usage) x.value) (ap (λ q. is_blank q.contents) x.value ∙ x.filled) run in
    record {
      answer = s.answer;
      is = record {
        may = x.may;
        back = given_back page v w d e (Keeps-trans v n w page x.keeps s.keeps) s.held s.disk;
        rehinted = record { there = x.there; tables = s.tables ∙ ap (λ (q : PageValue). with_change parts page q.changed) x.value; value = s.value ∙ ap (λ q. rehinted_value a.0 page q) x.value };
        disk = s.disk;
      };
      keeps = s.keeps;
    }
