-- What the writing back of a locked page does, seen from its views.
use Rattle.std.specs.Prelude.{◌≡◌, ℕ, List, true, false, Option, Some, None, Result, Ok, Err, length, take, drop, refl}
use Rattle.std.proofs.Common.{arith, sym, ap, inl, ◌∙◌}
use Rattle.std.proofs.lemmas.Grind.{common_steps}
use Rattle.cmm_types.specs.declared.page.TheConstants.{PAGE}
use Rattle.cmm_types.specs.declared.page.Tag.{Tag}
use Rattle.cmm_types.specs.declared.page.Usage.TheVariants.{S}
use Rattle.cmm_types.specs.declared.command.Cause.{Cause}
use Rattle.cmm_types.specs.declared.command.Cause.TheVariants.{Disk, Paging as PagingCause}
use Rattle.cmm_types.specs.declared.turn.Why.TheVariants.{Busy as WasBusy, NoFrame as HadNoFrame}
use Rattle.cmm_io.specs.DiskView.{DiskView, DiskFollows}
use Rattle.cmm_io.specs.DiskCall.{Write}
use Rattle.cmm_io.specs.declared.failed.Failed.{Failed}
use Rattle.essa_state.specs.PageValue.{PageValue, Bytes, IsValue, is_lost, is_blank}
use Rattle.cmm_storage.specs.declared.storage.Trap.{Trap}
use Rattle.cmm_storage.specs.declared.storage.Trap.TheVariants.{Discarded, Paging, NoFrame}
use Rattle.cmm_storage.specs.StorageCall.{Touch}
use Rattle.cmm_storage.specs.StorageView.{StorageView, Follows, Keeps, Misses, bytes_of, touched_contents}
use Rattle.cmm_storage.specs.Program.{done, put_page, bind}
use Rattle.cmm_storage.specs.Views.{Seen, Keeps-trans}
use Rattle.guest_cache.specs.CacheView.{backing_of}
use Rattle.guest_rules.specs.declared.parts.Parts.{Parts}
use Rattle.guest_rules.specs.declared.outcome.Filled.{Filled}
use Rattle.guest_rules.specs.declared.outcome.Filled.TheVariants.{Done, Again, Fail}
use Rattle.guest_rules.specs.Rows.{rehint, with_change, backing_at}
use Rattle.guest_rules.specs.Syncs.{unlocked, cleaned, write_back, back_touched, back_fetched, back_written, stay_dirty}
use Rattle.guest_rules.specs.Answers.{FailCause}
use Rattle.guest_rules.proofs.Cases.TurnCases.{GivenBack, AllMay, IsRehinted, WrittenBack}
use Rattle.guest_rules.proofs.Rows.Values.{may_stable, stable_there, touched_same}
use Rattle.guest_rules.proofs.Rows.Held.{IsUsed, seen_settle, rehinted_value}
use Rattle.guest_rules.proofs.Rows.Taken.{all_may, misses_around, risen_around}

-- a page that can be written back: it is stable and has bytes, and its tag has a block
pub record CanBeWritten (parts : Parts) (page : ℕ) (tag : Tag) (v : StorageView) : Type 0 where
  pub tells : v.tells ≡ true
  pub usage : (v.values page).usage ≡ S
  pub value : IsValue (v.values page)
  pub filled : is_blank (v.values page).contents ≡ false
  pub backed_at : backing_at parts page ≡ backing_of parts.cache tag
  pub block : ℕ
  pub backs : backing_of parts.cache tag ≡ Some block
  pub used_clean : IsUsed (cleaned parts page) page
  pub used_dirty : IsUsed (unlocked parts page) page

abbrev pub BackOutcome : Parts → ℕ → Tag → StorageView → DiskView → Parts → Filled → StorageView → DiskView → Type 0
BackOutcome parts page tag v d a Done w e =
    (bytes : List ℕ) × ((v.values page).contents ≡ Bytes bytes) × WrittenBack page tag parts.cache bytes v d w e × IsRehinted (cleaned parts page) page (v.values page) a (w.values page)
BackOutcome parts page tag v d a (Again why) w e = (a ≡ parts) × AllMay v d w e × Misses v w × (e ≡ d)
BackOutcome parts page tag v d a (Fail cause) w e = GivenBack page v d w e × IsRehinted (unlocked parts page) page (v.values page) a (w.values page) × FailCause cause v d w e

-- the page is held with the value that it had
record IsHeldSame (page : ℕ) (v n : StorageView) : Type 0 where
  keeps : Keeps v page n
  value : n.values page ≡ v.values page

held_after : (page : ℕ) (v n m : StorageView) → IsHeldSame page v n → Keeps n page m → m.values page ≡ n.values page → IsHeldSame page v m
held_after page v n m x keeps same = record { keeps = Keeps-trans v n m page x.keeps keeps; value = same ∙ x.value }

-- the hint of the page was told again with these tables, and it was given back
record WasTold (parts : Parts) (answer : Filled) (page : ℕ) (v m : StorageView) (x : DiskView) (a : Parts) (r : Filled) (w : StorageView) (e : DiskView) : Type 0 where
  answered : r ≡ answer
  rehinted : IsRehinted parts page (v.values page) a (w.values page)
  keeps : Keeps v page w
  later : Keeps m page w
  held : w.held ≡ None
  disk : e ≡ x

told_back : (parts : Parts) (answer : Filled) (page : ℕ) (v m : StorageView) (x : DiskView) (a : Parts) (r : Filled) (w : StorageView) (e : DiskView)
    → IsUsed parts page → (v.values page).usage ≡ S → IsValue (v.values page) → is_blank (v.values page).contents ≡ false → IsHeldSame page v m
    → Seen {A = Parts × Filled} (bind (rehint parts page) (λ after. put_page page (done (after, answer)))) m x (a, r) w e → WasTold parts answer page v m x a r w e
told_back parts answer page v m x a r w e used usage value filled same run =
    let s = seen_settle parts answer page m x (a, r) w e used (ap (λ q. q.usage) same.value ∙ usage) (ap (λ q. is_blank q.contents) same.value ∙ filled) run in
    record {
      answered = s.answer;
      rehinted = record {
        there = stable_there (v.values page) usage value;
        tables = s.tables ∙ ap (λ (q : PageValue). with_change parts page q.changed) same.value;
        value = s.value ∙ ap (λ q. rehinted_value a page q) same.value;
      };
      keeps = Keeps-trans v m w page same.keeps s.keeps;
      later = s.keeps;
      held = s.held;
      disk = s.disk;
    }

-- a page that stays dirty
stayed : (parts : Parts) (page : ℕ) (tag : Tag) (cause : Cause) (v m : StorageView) (d x : DiskView) (a : Parts) (r : Filled) (w : StorageView) (e : DiskView)
    → CanBeWritten parts page tag v → IsHeldSame page v m → x.count ≡ d.count → x.blocks ≡ d.blocks → ((w : StorageView) → Keeps m page w → FailCause cause v d w x)
    → Seen (stay_dirty parts page cause) m x (a, r) w e → BackOutcome parts page tag v d a r w e
stayed parts page tag cause v m d x a r w e can same count blocks why run =
    let s = told_back (unlocked parts page) (Fail cause) page v m x a r w e can.used_dirty can.usage can.value can.filled same run in
    let cause_is : FailCause cause v d w e = rw s.disk (why w s.later) in
    rw s.answered (record { keeps = s.keeps; held = s.held; count = rw s.disk count; blocks = rw s.disk blocks }, s.rehinted, cause_is)

-- a page's bytes were fetched whole
whole_fetch : (all bytes : List ℕ) (size : ℕ) → length bytes ≡ size → length all ≡ size → bytes ≡ take (length bytes) (drop 0 all) → bytes ≡ all
whole_fetch all bytes size is whole are = grind (arith, common_steps)

-- parts the guest's tables, page the page, tag its tag, v and w its storage before and after, d and e its disk before and after, a the tables after, r the answer
module _ (parts : Parts) (page : ℕ) (tag : Tag) (v : StorageView) (d : DiskView) (a : Parts) (r : Filled) (w : StorageView) (e : DiskView) where
  -- what a write of the block answered
  written : (block : ℕ) (bytes : List ℕ) (m : StorageView) (x : DiskView) (was : Result Unit Failed) → CanBeWritten parts page tag v → IsHeldSame page v m → backing_of parts.cache tag ≡ Some block
      → (v.values page).contents ≡ Bytes bytes → DiskFollows d (Write block bytes was) x → Seen (back_written parts page was) m x (a, r) w e → BackOutcome parts page tag v d a r w e
  written block bytes m x (Ok u) can same backs contents (disk, blocks) run =
      let s = told_back (cleaned parts page) Done page v m x a r w e can.used_clean can.usage can.value can.filled same run in
      rw s.answered (
        bytes,
        contents,
        record { block = block; backs = backs; keeps = s.keeps; held = s.held; count = rw s.disk disk.count; blocks = rw s.disk blocks },
        s.rehinted,
      )
  written block bytes m x (Err failed) can same backs contents (disk, was) run = stayed parts page tag Disk v m d x a r w e can same disk.count was.blocks (λ w k. was.risen) run

  -- the bytes were fetched
  fetched : (block : Option ℕ) (bytes : List ℕ) (m : StorageView) → CanBeWritten parts page tag v → IsHeldSame page v m → backing_of parts.cache tag ≡ block → (v.values page).contents ≡ Bytes bytes
      → Seen (back_fetched parts page block bytes) m d (a, r) w e → BackOutcome parts page tag v d a r w e
  fetched (Some block) bytes m can same backs contents (was, x, follows, run) = written block bytes m x was can same backs contents follows run
  fetched None bytes m can same backs contents run = let bad : None ≡ Some can.block = sym backs ∙ can.backs in absurd cc

  touched : (n m : StorageView) (trap : Result Unit Trap) → CanBeWritten parts page tag v → IsHeldSame page v n → Follows n (Touch page trap) m → Seen (back_touched parts page trap) m d (a, r) w e
      → BackOutcome parts page tag v d a r w e
  touched n m (Ok u) can x (keeps, nothing, holds, there, value, whole, _, _) (bytes, o, size, (keeps', nothing', still', held', bytes_are, _), run) =
      let contents : touched_contents n.tells (n.values page).contents ≡ (n.values page).contents =
      touched_same n.tells (n.values page).contents (ap (λ q. is_blank q.contents) x.value ∙ can.filled) there in
      let same : m.values page ≡ n.values page = value ∙ ap (λ q. record (n.values page) { contents = q }) contents in
      let tells : n.tells ≡ true = x.keeps.tells ∙ can.tells in
      let all = whole tells in
      let here = held_after page v n m x keeps same in
      let bytes_all : bytes ≡ all.all = whole_fetch all.all bytes PAGE size all.size (bytes_are (keeps.tells ∙ tells) ∙ ap (λ q. take (length bytes) (drop 0 (bytes_of q))) all.are) in
      let has : (v.values page).contents ≡ Bytes bytes = ap (λ (q : PageValue). q.contents) (sym here.value) ∙ all.are ∙ ap Bytes (sym bytes_all) in
      fetched (backing_at parts page) bytes o can (held_after page v m o here keeps' held'.1) (sym can.backed_at) has run
  touched n m (Err Discarded) can x (keeps, nothing, still, same, lost, _) run =
      let bad : true ≡ false = sym lost ∙ ap (λ q. is_lost q.contents) x.value ∙ stable_there (v.values page) can.usage can.value in absurd cc
  touched n m (Err Paging) can x (keeps, nothing, same, there, fresh, risen, _, _) run =
      stayed parts page tag PagingCause v m d d a r w e can (held_after page v n m x keeps same.1) refl refl
      (λ w k. risen_around v.faults n.faults m.faults w.faults x.keeps.faults risen k.faults) run
  touched n m (Err (NoFrame looks)) can x (keeps, misses, same, there, fresh, _, _) (o, (keeps', nothing, still, held, value), (ea, em, ed)) =
      let er : r ≡ Again (HadNoFrame looks) = ap (λ q. q.1) ea in
      let last = held_after page v m o (held_after page v n m x keeps same.1) keeps' value in
      let unmoved : w.values page ≡ v.values page = rw em last.value in
      rw er (ap (λ q. q.0) ea, all_may page v w d e (rw em last.keeps) (rw em held) (inl unmoved) ed, rw em (misses_around v n m o page x.keeps misses keeps'), ed)

  pub seen_write_back : CanBeWritten parts page tag v → Seen (write_back parts page) v d (a, r) w e → BackOutcome parts page tag v d a r w e
  unfolding write_back
  seen_write_back can (Err busy, m, (keeps, misses, is_busy, held, may), (ea, em, ed)) =
      let er : r ≡ Again (WasBusy page busy.word) = ap (λ q. q.1) ea in
      rw er (ap (λ q. q.0) ea, all_may page v w d e (rw em keeps) (rw em held) (rw em may) ed, rw em misses, ed)
  seen_write_back can (Ok u, m, (keeps, nothing, still, holds, may, is_value, quiet, _), (trap, o, follows, run)) =
      touched m o trap can (record { keeps = keeps; value = may_stable (v.values page) (m.values page) can.usage may }) follows run
