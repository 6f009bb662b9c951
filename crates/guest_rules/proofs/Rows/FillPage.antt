-- What the filling of a locked page does, seen from its views.
use Rattle.std.specs.Prelude.{◌≡◌, ℕ, List, Bool, true, false, Option, Some, None, Result, Ok, Err, length, refl}
use Rattle.std.proofs.Common.{sym, ap, inl, ◌∙◌}
use Rattle.cmm_types.specs.declared.page.TheConstants.{PAGE}
use Rattle.cmm_types.specs.declared.page.Usage.{Usage}
use Rattle.cmm_types.specs.declared.page.Usage.TheVariants.{S, V}
use Rattle.cmm_types.specs.declared.command.Cause.{Cause}
use Rattle.cmm_types.specs.declared.command.Cause.TheVariants.{Disk, Paging as PagingCause}
use Rattle.cmm_types.specs.declared.turn.Why.TheVariants.{Busy as WasBusy, NoFrame as HadNoFrame}
use Rattle.cmm_io.specs.DiskView.{DiskView, DiskFollows}
use Rattle.cmm_io.specs.DiskCall.{Read}
use Rattle.cmm_io.specs.declared.failed.Failed.{Failed}
use Rattle.essa_state.specs.PageValue.{PageValue, Bytes, IsValue, IsMadeUnused, is_lost, is_blank, made_stable}
use Rattle.cmm_storage.specs.declared.storage.Trap.{Trap}
use Rattle.cmm_storage.specs.declared.storage.Trap.TheVariants.{Discarded, Paging, NoFrame}
use Rattle.cmm_storage.specs.StorageCall.{Touch}
use Rattle.cmm_storage.specs.StorageView.{StorageView, Follows, Keeps, Misses, IsWhole, bytes_of, told}
use Rattle.cmm_types.specs.Bytes.{with_bytes, zero_page}
use Rattle.cmm_types.specs.Laws.BytesLaws.{length-zero_page}
use Rattle.cmm_storage.specs.Program.{block_read}
use Rattle.cmm_storage.specs.Views.{Seen, Keeps-trans}
use Rattle.guest_pages.specs.PagesView.{info_at}
use Rattle.guest_rules.specs.declared.parts.Parts.{Parts}
use Rattle.guest_rules.specs.declared.outcome.Filled.{Filled}
use Rattle.guest_rules.specs.declared.outcome.Filled.TheVariants.{Done, Again, Fail}
use Rattle.guest_rules.specs.Hint.{hint}
use Rattle.guest_rules.specs.Rows.{filled, freed, with_change, fill, fill_with, fill_read, fill_from, fill_touched, give_up, backing_at}
use Rattle.guest_rules.specs.Fit.{backed}
use Rattle.guest_rules.specs.Answers.{FailCause}
use Rattle.guest_rules.proofs.Cases.TurnCases.{GivenBack, AllMay}
use Rattle.guest_rules.proofs.Rows.Values.{may_stable, stable_there, made_stable-same, whole_write}
use Rattle.guest_rules.proofs.Rows.Held.{IsUsed, seen_settle}
use Rattle.guest_rules.proofs.Rows.Taken.{all_may, misses_around, risen_around}

-- a page that can be filled: it is stable, and volatile once it is filled
pub record CanBeFilled (parts : Parts) (page : ℕ) (v : StorageView) (d : DiskView) : Type 0 where
  pub tells : v.tells ≡ true
  pub told : (blocks : List (List ℕ)) × (d.blocks ≡ Some blocks)
  pub usage : (v.values page).usage ≡ S
  pub value : IsValue (v.values page)
  pub used : IsUsed (filled parts page) page
  pub hinted : hint (info_at (filled parts page).pages page) ≡ V

abbrev pub filled_value : Parts → ℕ → DiskView → PageValue → PageValue
filled_value parts page d old = record { usage = V; changed = false; contents = Bytes (backed d.blocks (backing_at parts page)); count = old.count }

abbrev pub FillOutcome : Parts → ℕ → StorageView → DiskView → Parts → Filled → StorageView → DiskView → Type 0
FillOutcome parts page v d a Done w e = (a ≡ filled parts page) × GivenBack page v d w e × (w.values page ≡ filled_value parts page d (v.values page))
FillOutcome parts page v d a (Again why) w e = (a ≡ parts) × AllMay v d w e × Misses v w × (e ≡ d)
FillOutcome parts page v d a (Fail cause) w e = (a ≡ freed parts page) × GivenBack page v d w e × IsMadeUnused (v.values page) (w.values page) × FailCause cause v d w e

-- the page is held with the value that it had, and was made stable as it was
record IsFillable (parts : Parts) (page : ℕ) (v : StorageView) (d : DiskView) (n : StorageView) : Type 0 where
  can : CanBeFilled parts page v d
  keeps : Keeps v page n
  there : is_lost (v.values page).contents ≡ false
  value : n.values page ≡ v.values page

-- the stable page was touched
record IsTouched (page : ℕ) (v m : StorageView) : Type 0 where
  whole : IsWhole (m.values page).contents
  usage : (m.values page).usage ≡ S
  count : (m.values page).count ≡ (v.values page).count

-- the disk has the blocks that it had
record SameBlocks (d x : DiskView) : Type 0 where
  count : x.count ≡ d.count
  blocks : x.blocks ≡ d.blocks

given_up : (parts : Parts) (page : ℕ) (cause : Cause) (v m : StorageView) (d x : DiskView) (a : Parts) (r : Filled) (w : StorageView) (e : DiskView)
    → Keeps v page m → (m.values page).count ≡ (v.values page).count → SameBlocks d x → ((w : StorageView) → Keeps m page w → FailCause cause v d w x)
    → Seen (give_up parts page cause) m x (a, r) w e → FillOutcome parts page v d a r w e
given_up parts page cause v m d x a r w e keeps same blocks why
    (old, n, (keeps', nothing, still, holds, is_old, (was_done, unused), _, _), (o, (keeps'', nothing', still', held, value), (ea, em, ed))) =
    let er : r ≡ Fail cause = ap (λ q. q.1) ea in
    let after = Keeps-trans m n o page keeps' keeps'' in
    let unused' : IsMadeUnused (v.values page) (w.values page) = rw (em, value) (record { usage = unused.usage; changed = unused.changed; stands = unused.stands; count = unused.count ∙ same }) in
    let cause_is : FailCause cause v d w e = rw (em, ed) (why o after) in
    rw er (
      ap (λ q. q.0) ea,
      record { keeps = rw em (Keeps-trans v m o page keeps after); held = rw em held; count = rw ed blocks.count; blocks = rw ed blocks.blocks },
      unused',
      cause_is,
    )

-- all bytes of a touched page are stored
stored : (tells : Bool) (value : PageValue) (all bytes : List ℕ) → tells ≡ true → value.contents ≡ Bytes all → length all ≡ length bytes
    → Bytes (told tells (with_bytes (bytes_of value.contents) 0 bytes)) ≡ Bytes bytes
stored tells value all bytes is_told are same = rw (is_told, are) (ap Bytes (whole_write all bytes same))

filled_with : (parts : Parts) (page : ℕ) (bytes : List ℕ) (v n m : StorageView) (d x : DiskView) (a : Parts) (r : Filled) (w : StorageView) (e : DiskView)
    → IsFillable parts page v d n → Keeps n page m → IsTouched page v m
    → SameBlocks d x → length bytes ≡ PAGE → bytes ≡ backed d.blocks (backing_at parts page)
    → Seen (fill_with parts page bytes) m x (a, r) w e → FillOutcome parts page v d a r w e
filled_with parts page bytes v n m d x a r w e f keeps is blocks size are (o, (keeps', nothing, still, holds, value, _), (changed, q, (keeps'', nothing', still', holds', was, value', _), run)) =
    let tells : m.tells ≡ true = keeps.tells ∙ f.keeps.tells ∙ f.can.tells in
    let contents : (o.values page).contents ≡ Bytes bytes = ap (λ y. y.contents) value ∙ stored m.tells (m.values page) is.whole.all bytes tells is.whole.are (is.whole.size ∙ sym size) in
    let contents' : (q.values page).contents ≡ Bytes bytes = ap (λ y. y.contents) value' ∙ contents in
    let count' : (q.values page).count ≡ (v.values page).count = ap (λ y. y.count) value' ∙ ap (λ y. y.count) value ∙ is.count in
    let usage : (q.values page).usage ≡ S = ap (λ y. y.usage) value' ∙ ap (λ y. y.usage) value ∙ is.usage in
    let s = seen_settle (filled parts page) Done page q x (a, r) w e f.can.used usage (ap is_blank contents') run in
    let tables : a ≡ filled parts page = s.tables ∙ ap (λ y. with_change (filled parts page) page y) (ap (λ y. y.changed) value') in
    let hinted : hint (info_at a.pages page) ≡ V = ap (λ y. hint (info_at y.pages page)) tables ∙ f.can.hinted in
    let all = Keeps-trans v n w page f.keeps (Keeps-trans n m w page keeps (Keeps-trans m o w page keeps' (Keeps-trans o q w page keeps'' s.keeps))) in
    rw s.answer (
      tables,
      record { keeps = all; held = s.held; count = ap (λ y. y.count) s.disk ∙ blocks.count; blocks = ap (λ y. y.blocks) s.disk ∙ blocks.blocks },
      s.value ∙ of_fields (hint (info_at a.pages page)) (q.values page) (v.values page) (backed d.blocks (backing_at parts page)) hinted (contents' ∙ ap Bytes are) count',
    )
  where
    of_fields : (usage : Usage) (y old : PageValue) (those : List ℕ) → usage ≡ V → y.contents ≡ Bytes those → y.count ≡ old.count
        → record y { usage = usage; changed = false } ≡ record { usage = V; changed = false; contents = Bytes those; count = old.count }
    of_fields usage y old those u b n = rw (u, b, n) refl

-- parts the guest's tables, page the page, v and w its storage before and after, d and e its disk before and after, a the tables after, r the answer
module _ (parts : Parts) (page : ℕ) (v : StorageView) (d : DiskView) (a : Parts) (r : Filled) (w : StorageView) (e : DiskView) where
  -- what a read of a block gave
  filled_read : (block : ℕ) (n m : StorageView) (x : DiskView) (was : Result Unit Failed) (bytes : List ℕ) → IsFillable parts page v d n → Keeps n page m → IsTouched page v m
      → backing_at parts page ≡ Some block → DiskFollows d (Read block was bytes) x → Seen (fill_read parts page (block_read was bytes)) m x (a, r) w e → FillOutcome parts page v d a r w e
  filled_read block n m x (Ok u) bytes f keeps is at_block (disk, size, holds, blocks) run =
      let are : bytes ≡ backed d.blocks (backing_at parts page) = rw (at_block, f.can.told.1) (rw f.can.told.1 at holds) in
      filled_with parts page bytes v n m d x a r w e f keeps is (record { count = disk.count; blocks = blocks }) size are run
  filled_read block n m x (Err failed) bytes f keeps is at_block (disk, size, was) run =
      given_up parts page Disk v m d x a r w e (Keeps-trans v n m page f.keeps keeps) is.count (record { count = disk.count; blocks = was.blocks }) (λ w k. was.risen) run

  filled_from : (block : Option ℕ) (n m : StorageView) → IsFillable parts page v d n → Keeps n page m → IsTouched page v m → backing_at parts page ≡ block
      → Seen (fill_from parts page block) m d (a, r) w e → FillOutcome parts page v d a r w e
  filled_from (Some block) n m f keeps is at_block (was, bytes, x, follows, run) = filled_read block n m x was bytes f keeps is at_block follows run
  filled_from None n m f keeps is at_block run = filled_with parts page zero_page v n m d d a r w e f keeps is (record { count = refl; blocks = refl }) length-zero_page (rw at_block refl) run

  filled_touched : (n m : StorageView) (trap : Result Unit Trap) → IsFillable parts page v d n → Follows n (Touch page trap) m → Seen (fill_touched parts page trap) m d (a, r) w e
      → FillOutcome parts page v d a r w e
  filled_touched n m (Ok u) f (keeps, nothing, holds, there, value, whole, _, _) run =
      let is : IsTouched page v m = record {
        whole = whole (f.keeps.tells ∙ f.can.tells);
        usage = ap (λ q. q.usage) value ∙ ap (λ q. q.usage) f.value ∙ f.can.usage;
        count = ap (λ q. q.count) value ∙ ap (λ q. q.count) f.value;
      } in
      filled_from (backing_at parts page) n m f keeps is refl run
  filled_touched n m (Err Discarded) f (keeps, nothing, still, same, lost, _) run =
      let bad : true ≡ false = sym lost ∙ ap (λ q. is_lost q.contents) f.value ∙ f.there in absurd cc
  filled_touched n m (Err Paging) f (keeps, nothing, same, there, fresh, risen, _, _) run =
      let count : (m.values page).count ≡ (v.values page).count = ap (λ q. q.count) (same.1 ∙ f.value) in
      given_up parts page PagingCause v m d d a r w e (Keeps-trans v n m page f.keeps keeps) count (record { count = refl; blocks = refl })
      (λ w k. risen_around v.faults n.faults m.faults w.faults f.keeps.faults risen k.faults) run
  filled_touched n m (Err (NoFrame looks)) f (keeps, misses, same, there, fresh, _, _) (o, (keeps', nothing, still, held, value), (ea, em, ed)) =
      let er : r ≡ Again (HadNoFrame looks) = ap (λ q. q.1) ea in
      let all = Keeps-trans v n o page f.keeps (Keeps-trans n m o page keeps keeps') in
      let unmoved : w.values page ≡ v.values page = rw em (value ∙ same.1 ∙ f.value) in
      rw er (ap (λ q. q.0) ea, all_may page v w d e (rw em all) (rw em held) (inl unmoved) ed, rw em (misses_around v n m o page f.keeps misses keeps'), ed)

  pub seen_fill : CanBeFilled parts page v d → Seen (fill parts page) v d (a, r) w e → FillOutcome parts page v d a r w e
  unfolding fill
  seen_fill can (Err busy, m, (keeps, misses, is_busy, held, may), (ea, em, ed)) =
      let er : r ≡ Again (WasBusy page busy.word) = ap (λ q. q.1) ea in
      rw er (ap (λ q. q.0) ea, all_may page v w d e (rw em keeps) (rw em held) (rw em may) ed, rw em misses, ed)
  seen_fill can (
    Ok u,
    m,
    (keeps, nothing, still, holds, may, is_value, quiet, _),
    (old, n, (keeps', nothing', still', holds', is_old, (was_done, value), _, _), (trap, o, follows, run)),
  ) =
      let same : m.values page ≡ v.values page = may_stable (v.values page) (m.values page) can.usage may in
      let there = stable_there (v.values page) can.usage can.value in
      let f : IsFillable parts page v d n = record {
        can = can;
        keeps = Keeps-trans v m n page keeps keeps';
        there = there;
        value = value ∙ ap made_stable same ∙ made_stable-same (v.values page) can.usage there;
      } in
      filled_touched n o trap f follows run
