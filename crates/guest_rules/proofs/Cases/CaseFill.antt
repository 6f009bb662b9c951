-- Every run of a turn that fills a page, or begins to, is one of the cases of a turn.
use Rattle.std.specs.Prelude.{◌≡◌, ℕ, List, ◌∷◌, Some, None, Ok, Err, refl}
use Rattle.std.proofs.Common.{ap, ◌∙◌}
use Rattle.cmm_types.specs.declared.page.Tag.{Tag}
use Rattle.cmm_types.specs.declared.command.Op.{Op}
use Rattle.cmm_types.specs.declared.command.Reply.TheVariants.{Fail}
use Rattle.cmm_types.specs.declared.turn.Turn.{Turn}
use Rattle.cmm_types.specs.declared.turn.Why.TheVariants.{Busy as WasBusy}
use Rattle.cmm_flat.specs.State.{FlatState}
use Rattle.cmm_io.specs.DiskView.{DiskView}
use Rattle.cmm_storage.specs.StorageView.{StorageView}
use Rattle.cmm_storage.specs.Views.{Seen, unbind, Keeps-trans}
use Rattle.guest_pages.specs.PagesView.{info_at}
use Rattle.guest_cache.specs.CacheView.{page_of}
use Rattle.guest_rules.specs.declared.parts.Parts.{Parts}
use Rattle.guest_rules.specs.declared.processor.Phase.TheVariants.{Start, Fill}
use Rattle.guest_rules.specs.declared.outcome.Filled.{Filled}
use Rattle.guest_rules.specs.declared.outcome.Filled.TheVariants.{Done as FilledDone, Again as FilledAgain, Fail as FilledFail}
use Rattle.guest_rules.specs.Rows.{fill, backing_at}
use Rattle.guest_rules.specs.GuestState.{GuestState, processor_at, with_parts, with_phase, entered}
use Rattle.guest_rules.specs.Turns.{fill_turn, fill_next, begin_turn}
use Rattle.guest_rules.specs.Fit.{FitAt, backed, backing}
use Rattle.guest_rules.proofs.Cases.TurnCases.{TurnCase, missed, was_begun, fill_failed, was_filled, Has}
use Rattle.guest_rules.proofs.Rows.Taken.{all_may, given_back}
use Rattle.guest_rules.proofs.Rows.FillPage.{FillOutcome, seen_fill}
use Rattle.guest_rules.proofs.Ready.Ready.{can_be_filled}
use Rattle.guest_rules.proofs.Cases.Reached.{Proceeds}

-- a phase that fills
case_fill_next : (g : GuestState) (v n w : StorageView) (d y e : DiskView) (cpu : ℕ) (op : Op) (page : ℕ) (tag : Tag) (parts : Parts) (r : Filled) (h : GuestState) (t : Turn)
    → Has g cpu op → (processor_at g cpu).phase ≡ Fill page → (info_at g.parts.pages page).tag ≡ Some tag → FillOutcome g.parts page v d parts r n y
    → Seen {A = GuestState × Turn} (fill_next g cpu op parts r) n y (h, t) w e → TurnCase g cpu v d h t w e
case_fill_next g v n w d y e cpu op page tag parts FilledDone h t has phase tagged (tables, back, value) (ea, em, ed) =
    let behind : backed d.blocks (backing_at g.parts page) ≡ backing g.parts.cache d tag = rw tagged refl in
    was_filled op page tag has phase tagged
    (ap (λ q. q.0) ea ∙ ap (λ q. with_phase (with_parts g q) cpu Start) tables) (ap (λ q. q.1) ea) (rw (em, ed) back) (rw (em, ← behind) value)
case_fill_next g v n w d y e cpu op page tag parts (FilledAgain why) h t has phase tagged (tables, may, misses, disk) (ea, em, ed) =
    missed op why has (ap (λ q. q.0) ea ∙ ap (λ q. with_parts g q) tables) (ap (λ q. q.1) ea) (rw (em, ed) may) (rw em misses) (ed ∙ disk)
case_fill_next g v n w d y e cpu op page tag parts (FilledFail cause) h t has phase tagged (tables, back, unused, why) (ea, em, ed) =
    fill_failed op page cause has phase (ap (λ q. q.0) ea ∙ ap (λ q. entered (with_parts g q) cpu op (Fail cause)) tables) (ap (λ q. q.1) ea)
    (rw (em, ed) back) (rw em unused) (rw (em, ed) why)

pub case_fill : (state : FlatState) (g : GuestState) (v w : StorageView) (d e : DiskView) (cpu : ℕ) (op : Op) (page : ℕ) (h : GuestState) (t : Turn)
    → FitAt state g v d → Has g cpu op → (processor_at g cpu).phase ≡ Fill page
    → Seen {A = GuestState × Turn} (fill_turn g cpu op page) v d (h, t) w e → TurnCase g cpu v d h t w e
unfolding fill_turn
case_fill state g v w d e cpu op page h t f has phase run =
    let k = (f.locks.filling cpu page phase).1 in
    let x = unbind (fill g.parts page) (λ went. fill_next g cpu op went.0 went.1) v d (h, t) w e run in
    let o = seen_fill g.parts page v d x.answer.0 x.answer.1 x.storage x.disk (can_be_filled state g v d cpu page f phase) x.first in
    case_fill_next g v x.storage w d x.disk e cpu op page k.tag x.answer.0 x.answer.1 h t has phase k.tagged o x.second

-- a command that finds no page
pub case_begin : (g : GuestState) (v w : StorageView) (d e : DiskView) (cpu : ℕ) (op : Op) (tag : Tag) (page : ℕ) (rest : List ℕ) (h : GuestState) (t : Turn)
    → Proceeds g cpu op tag → page_of g.parts.cache tag ≡ None → g.parts.pages.free ≡ page ∷ rest
    → Seen {A = GuestState × Turn} (begin_turn g cpu tag page) v d (h, t) w e → TurnCase g cpu v d h t w e
unfolding begin_turn
case_begin g v w d e cpu op tag page rest h t k none free (Err busy, m, (keeps, misses, is_busy, held, may), (ea, em, ed)) =
    missed op (WasBusy page busy.word) k.starts.has (ap (λ q. q.0) ea) (ap (λ q. q.1) ea) (all_may page v w d e (rw em keeps) (rw em held) (rw em may) ed) (rw em misses) ed
case_begin g v w d e cpu op tag page rest h t k none free (
  Ok u,
  m,
  (keeps, nothing, still, holds, may, is_value, quiet, _),
  (old, n, (keeps', nothing', still', holds', is_old, (was_done, stable), _, _), (o, (keeps'', nothing'', still'', held, value), (ea, em, ed))),
) =
    was_begun op tag page rest (m.values page) k.starts k.wants none free (ap (λ q. q.0) ea) (ap (λ q. q.1) ea)
    (given_back page v w d e (rw em (Keeps-trans v m o page keeps (Keeps-trans m n o page keeps' keeps''))) (rw em held) ed)
    may (rw em (value ∙ stable))
