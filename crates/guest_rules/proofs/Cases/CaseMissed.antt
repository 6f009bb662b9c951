-- A turn that doesn't reach the page of its command's tag is one of the cases of a turn.
use Rattle.std.specs.Prelude.{ℕ}
use Rattle.std.proofs.Common.{ap, inl, inr, ◌∙◌}
use Rattle.cmm_types.specs.declared.page.Tag.{Tag}
use Rattle.cmm_types.specs.declared.command.Op.{Op}
use Rattle.cmm_types.specs.declared.command.Cause.TheVariants.{Disk, Paging, NoPage}
use Rattle.cmm_types.specs.declared.turn.Turn.{Turn}
use Rattle.cmm_flat.specs.Legal.{CanNeedPage}
use Rattle.cmm_io.specs.DiskView.{DiskView}
use Rattle.cmm_storage.specs.StorageView.{StorageView}
use Rattle.cmm_storage.specs.Views.{Seen}
use Rattle.guest_rules.specs.declared.parts.Parts.{Parts}
use Rattle.guest_rules.specs.declared.outcome.Missed.{Missed}
use Rattle.guest_rules.specs.declared.outcome.Missed.TheVariants.{Gone as MissedGone, Again as MissedAgain, Fail as MissedFail}
use Rattle.guest_rules.specs.GuestState.{GuestState, with_parts}
use Rattle.guest_rules.specs.Turns.{missed_next}
use Rattle.guest_rules.proofs.Cases.TurnCases.{TurnCase, missed, missed_rehinted, was_gone, touch_failed, Starts, Wants, HasPage}
use Rattle.guest_rules.proofs.Rows.MissedPage.{MissOutcome}

pub case_missed : (g : GuestState) (v n w : StorageView) (d y e : DiskView) (cpu : ℕ) (op : Op) (tag : Tag) (page : ℕ) (parts : Parts) (miss : Missed) (h : GuestState) (t : Turn)
    → CanNeedPage op → Starts g cpu op → Wants g cpu op tag → HasPage g tag page → MissOutcome g.parts page v d parts miss n y
    → Seen {A = GuestState × Turn} (missed_next g cpu op parts miss) n y (h, t) w e → TurnCase g cpu v d h t w e
case_missed g v n w d y e cpu op tag page parts MissedGone h t needs starts wants has o (ea, em, ed) =
    was_gone op tag page o.found starts wants has (ap (λ q. q.0) ea ∙ ap (λ q. with_parts g q) o.tables) (ap (λ q. q.1) ea) (rw (em, ed) o.back) o.may o.lost (rw em o.unused) o.quiet
case_missed g v n w d y e cpu op tag page parts (MissedAgain why) h t needs starts wants has (inl (tables, may, disk), misses) (ea, em, ed) =
    missed op why starts.has (ap (λ q. q.0) ea ∙ ap (λ q. with_parts g q) tables) (ap (λ q. q.1) ea) (rw (em, ed) may) (rw em misses) (ed ∙ disk)
case_missed g v n w d y e cpu op tag page parts (MissedAgain why) h t needs starts wants has (inr (found, is), misses) (ea, em, ed) =
    missed_rehinted why op tag page found parts starts wants has (ap (λ q. q.0) ea) (ap (λ q. q.1) ea) (rw (em, ed) is.back) is.may (rw em is.rehinted) (rw em misses) (ed ∙ is.disk)
case_missed g v n w d y e cpu op tag page parts (MissedFail Paging) h t needs starts wants has ((found, is), risen) (ea, em, ed) =
    touch_failed op tag page found parts needs starts wants has (rw (em, ed) is.back) is.may (rw em is.rehinted) (ap (λ q. q.0) ea) (ap (λ q. q.1) ea) (rw em risen)
case_missed g v n w d y e cpu op tag page parts (MissedFail Disk) h t needs starts wants has o run = absurd o
case_missed g v n w d y e cpu op tag page parts (MissedFail (NoPage pinned unslotted)) h t needs starts wants has o run = absurd o
