-- What a read of a page's bytes does, seen from its views.
use Rattle.std.specs.Prelude.{◌≡◌, ℕ, List, Result, Ok, Err, length, take, drop}
use Rattle.std.proofs.Common.{ap, subst, ◌∙◌}
use Rattle.cmm_io.specs.DiskView.{DiskView}
use Rattle.essa_state.specs.PageValue.{PageValue, Bytes}
use Rattle.cmm_storage.specs.declared.storage.Trap.{Trap}
use Rattle.cmm_storage.specs.StorageView.{StorageView, Follows, bytes_of}
use Rattle.cmm_storage.specs.StorageCall.{Touch}
use Rattle.cmm_storage.specs.Views.{Seen, unbind}
use Rattle.guest_rules.specs.declared.parts.Parts.{Parts}
use Rattle.guest_rules.specs.declared.outcome.Gone.{Gone}
use Rattle.guest_rules.specs.declared.outcome.Missed.{Missed}
use Rattle.guest_rules.specs.declared.outcome.Missed.TheVariants.{Gone as WasGone}
use Rattle.guest_rules.specs.Rows.{make_stable, read_page, read_stable, read_touched}
use Rattle.guest_rules.proofs.Rows.Held.{Stabled, seen_make_stable}
use Rattle.guest_rules.proofs.Rows.Taken.{CanBeUsed, WasTaken, IsStable, WasThere, seen_gone, stable_taken, stable_same, touched_stable, settle}
use Rattle.guest_rules.proofs.Rows.MissedPage.{MissOutcome, seen_busy, seen_untouched}

-- the bytes were read of those that the page was found with
pub record HasRead (parts : Parts) (page off len : ℕ) (v : StorageView) (d : DiskView) (a : Parts) (w : StorageView) (e : DiskView) (bytes : List ℕ) : Type 0 where
  pub found : PageValue
  pub is : WasThere parts page found v d a w e
  pub all : List ℕ
  pub are : found.contents ≡ Bytes all
  pub taken : bytes ≡ take len (drop off all)

abbrev pub ReadOutcome : Parts → ℕ → ℕ → ℕ → StorageView → DiskView → Parts → Result (List ℕ) Missed → StorageView → DiskView → Type 0
ReadOutcome parts page off len v d a (Ok bytes) w e = HasRead parts page off len v d a w e bytes
ReadOutcome parts page off len v d a (Err missed) w e = MissOutcome parts page v d a missed w e

seen_touched : (parts : Parts) (page off len : ℕ) (found : PageValue) (v n m : StorageView) (d : DiskView) (a : Parts) (r : Result (List ℕ) Missed) (w : StorageView) (e : DiskView)
    (trap : Result Unit Trap)
    → CanBeUsed parts page v → IsStable page found v n → Follows n (Touch page trap) m → Seen (read_touched page off len parts trap) m d (a, r) w e → ReadOutcome parts page off len v d a r w e
seen_touched parts page off len found v n m d a r w e (Ok u) can x follows (bytes, o, size, (keeps, nothing, still, held, bytes_are, _), run) =
    let y = touched_stable page found v n m can.tells x follows in
    let s = settle parts (Ok bytes) page found v o d (a, r) w e can.hinted (stable_same page found v m o y.stable keeps held.1) run in
    let taken : bytes ≡ take len (drop off y.all) =
    bytes_are (y.stable.keeps.tells ∙ can.tells) ∙ ap (λ q. take (length bytes) (drop off (bytes_of q))) y.here ∙ ap (λ q. take q (drop off y.all)) size in
    rw s.answer (record { found = found; is = s.is; all = y.all; are = y.are; taken = taken })
seen_touched parts page off len found v n m d a r w e (Err trap) can x follows run =
    let s = seen_untouched {R = List ℕ} parts page found v n m d trap (a, r) w e can x follows run in
    rw s.1 s.2

seen_stable : (parts : Parts) (page off len : ℕ) (v m n : StorageView) (d y : DiskView) (after : Parts) (went : Result Unit Gone) (a : Parts) (r : Result (List ℕ) Missed) (w : StorageView)
    (e : DiskView)
    → CanBeUsed parts page v → WasTaken page v m → Stabled parts page m d after went n y
    → Seen (read_stable page off len after went) n y (a, r) w e → ReadOutcome parts page off len v d a r w e
seen_stable parts page off len v m n d y after (Ok u) a r w e can taken (stays, tables, there, value) (trap, o, follows, run) =
    let x = stable_taken parts page v m n d y after can taken (stays, tables, there, value) in
    let moved : Seen (read_touched page off len parts trap) o y (a, r) w e = subst (λ q. Seen (read_touched page off len q trap) o y (a, r) w e) tables run in
    let run' : Seen (read_touched page off len parts trap) o d (a, r) w e = subst (λ q. Seen (read_touched page off len parts trap) o q (a, r) w e) stays.disk moved in
    seen_touched parts page off len (m.values page) v n o d a r w e trap can x follows run'
seen_stable parts page off len v m n d y after (Err gone) a r w e can taken (handled, lost) run =
    let s = seen_gone parts after (Err WasGone) page v m n d y (a, r) w e taken lost handled run in
    rw s.0 s.1

pub seen_read_page : (parts : Parts) (page off len : ℕ) (v : StorageView) (d : DiskView) (a : Parts) (r : Result (List ℕ) Missed) (w : StorageView) (e : DiskView)
    → CanBeUsed parts page v → Seen (read_page parts page off len) v d (a, r) w e → ReadOutcome parts page off len v d a r w e
unfolding read_page
seen_read_page parts page off len v d a r w e can (Err busy, m, follows, run) =
    let s = seen_busy {R = List ℕ} parts page v m d busy (a, r) w e follows run in
    rw s.1 s.2
seen_read_page parts page off len v d a r w e can (Ok u, m, (keeps, nothing, still, holds, may, is_value, quiet, _), run) =
    let x = unbind (make_stable parts page) (λ went. read_stable page off len went.0 went.1) m d (a, r) w e run in
    let h = seen_make_stable parts page m d x.answer.0 x.answer.1 x.storage x.disk x.first in
    seen_stable parts page off len v m x.storage d x.disk x.answer.0 x.answer.1 a r w e can (record { keeps = keeps; may = may; quiet = quiet }) h x.second
