-- No more commands of a guest fail than calls of its disk and its pager do.
use Rattle.std.specs.Prelude.{◌≡◌, ◌⊎◌, ◌<◌, ◌≤◌, ℕ, zero, suc, ◌+◌, ◌-◌, ◌^◌, ◌++◌, ◌∷◌, [], List, length, Bool}
use Rattle.std.proofs.Common.{sym, ap, subst, inl, inr, arith, ◌∙◌}
use Rattle.std.proofs.lemmas.List.Sums.{sum_by_push, count_by-le-length}
use Rattle.cmm_types.specs.declared.plan.GuestPlan.{GuestPlan}
use Rattle.cmm_types.specs.declared.command.Op.{Op}
use Rattle.cmm_types.specs.declared.command.Entry.{Entry}
use Rattle.cmm_types.specs.declared.command.Reply.{Reply}
use Rattle.cmm_types.specs.declared.command.Reply.TheVariants.{Done, Bytes, Refused, Fail}
use Rattle.cmm_types.specs.declared.command.Cause.TheVariants.{Disk, Paging, NoPage}
use Rattle.cmm_types.specs.declared.turn.Turn.{Turn}
use Rattle.cmm_types.specs.declared.turn.Turn.TheVariants.{Moved, Finished, Waits, Again, Idle}
use Rattle.cmm_types.specs.declared.turn.Alone.{Alone}
use Rattle.cmm_types.specs.Sums.{one_if}
use Rattle.cmm_io.specs.Faults.{HasRisen}
use Rattle.cmm_io.specs.DiskView.{DiskView}
use Rattle.cmm_io.specs.FailurePlan.{FailurePlan}
use Rattle.cmm_io.specs.Counted.{IsCounted, distinct}
use Rattle.cmm_io.proofs.Counted.{counted-most, distinct-none}
use Rattle.cmm_flat.specs.Legal.{Walk, Legal, LegalFrom, IsReply, after, process_of, start_of}
use Rattle.cmm_storage.specs.StorageView.{StorageView}
use Rattle.cmm_storage.specs.Program.{done}
use Rattle.cmm_storage.specs.Views.{Seen, seen-keeps, unbind}
use Rattle.guest_rules.specs.GuestState.{GuestState, opening_guest}
use Rattle.guest_rules.specs.Turns.{turn}
use Rattle.guest_rules.specs.Alone.{alone_after, alone_within}
use Rattle.guest_rules.specs.Fit.{Fit}
use Rattle.guest_rules.specs.Cause.{AnswerCause, HasFinished, HasUnmapped, HasToWait, ReplyCause}
use Rattle.guest_rules.specs.Failures.{FailuresFit, disk_failures, paging_failures, is_disk_failure, is_paging_failure, replies_of}
use Rattle.guest_rules.specs.FlatReplies.{IsFlatReply, HasFlatRepliesFrom}
use Rattle.guest_rules.specs.FailsAsPlanned.{FailsAsPlanned}
use Rattle.cmm_flat.specs.Laws.CommandLaws.{all_commands-bound, replies-cons}
use Rattle.guest_rules.proofs.Ready.ReadyCalls.{journal-most}
use Rattle.guest_rules.proofs.TurnLaws.{Fit-turn, Causes-turn, plan-turn}

-- one more entry
replies-push : (kind : Reply → Bool) (journal : List Entry) (entry : Entry) → replies_of kind (journal ++ entry ∷ []) ≡ replies_of kind journal + one_if (kind entry.reply)
replies-push kind journal entry = sum_by_push (λ (e : Entry). one_if (kind e.reply)) journal entry

-- a count that is no more than one that has risen can be one more, where it is short of the end
one_more : (n before after : ℕ) → n ≤ before → n < 2 ^ 64 - 1 → HasRisen before after → n + 1 ≤ after
one_more n before after few short risen = omega (arith, risen)

disk_more : (g : GuestState) (cpu : ℕ) (op : Op) (v w : StorageView) (d e : DiskView) (reply : Reply) (n : ℕ) → ReplyCause g cpu op v d reply w e → n ≤ d.faults → n < 2 ^ 64 - 1 → d.faults ≤ e.faults
    → n + one_if (is_disk_failure reply) ≤ e.faults
disk_more g cpu op v w d e (Fail Disk) n cause few short kept = one_more n d.faults e.faults few short cause
disk_more g cpu op v w d e reply n cause few short kept = omega (arith, few, kept)

paging_more : (g : GuestState) (cpu : ℕ) (op : Op) (v w : StorageView) (d e : DiskView) (reply : Reply) (n : ℕ) → ReplyCause g cpu op v d reply w e → n ≤ v.faults → n < 2 ^ 64 - 1
    → v.faults ≤ w.faults
    → n + one_if (is_paging_failure reply) ≤ w.faults
paging_more g cpu op v w d e (Fail Paging) n cause few short kept = one_more n v.faults w.faults few short cause
paging_more g cpu op v w d e reply n cause few short kept = omega (arith, few, kept)

-- a journal is far shorter than a count's end
short : (kind : Reply → Bool) (g : GuestState) (v : StorageView) (d : DiskView) → Fit g v d → replies_of kind g.journal < 2 ^ 64 - 1
short kind g v d f = omega (arith, count_by-le-length (λ (e : Entry). kind e.reply) g.journal, journal-most g v d f, all_commands-bound g.plan f.sizes.range)

-- g and h the guest before and after, v and w its storage before and after, d and e its disk before and after
module _ (g h : GuestState) (v w : StorageView) (d e : DiskView) where
  kept_finished : (cpu : ℕ) → Fit g v d → v.faults ≤ w.faults → d.faults ≤ e.faults → FailuresFit g v d → HasFinished g v d cpu h w e → FailuresFit h w e
  kept_finished cpu f paging disk failures k =
      let disk_one : disk_failures h.journal ≡ disk_failures g.journal + one_if (is_disk_failure k.reply) = ap (replies_of is_disk_failure) k.entry ∙ replies-push is_disk_failure g.journal _ in
      let paging_one : paging_failures h.journal ≡ paging_failures g.journal + one_if (is_paging_failure k.reply) = ap (replies_of is_paging_failure) k.entry
      ∙ replies-push is_paging_failure g.journal _ in
      record {
        disk = omega (arith, disk_one, disk_more g cpu k.op v w d e k.reply (disk_failures g.journal) k.cause failures.disk (short is_disk_failure g v d f) disk);
        paging = omega (arith, paging_one, paging_more g cpu k.op v w d e k.reply (paging_failures g.journal) k.cause failures.paging (short is_paging_failure g v d f) paging);
      }

  -- an unmap that is answered hasn't failed
  kept_unmapped : (cpu : ℕ) → v.faults ≤ w.faults → d.faults ≤ e.faults → FailuresFit g v d → HasUnmapped g cpu h → FailuresFit h w e
  kept_unmapped cpu paging disk failures k =
      let disk_same : disk_failures h.journal ≡ disk_failures g.journal + 0 = ap (replies_of is_disk_failure) k.entry ∙ replies-push is_disk_failure g.journal _ in
      let paging_same : paging_failures h.journal ≡ paging_failures g.journal + 0 = ap (replies_of is_paging_failure) k.entry ∙ replies-push is_paging_failure g.journal _ in
      record { disk = omega (arith, disk_same, failures.disk, disk); paging = omega (arith, paging_same, failures.paging, paging) }

  kept_same : v.faults ≤ w.faults → d.faults ≤ e.faults → FailuresFit g v d → h.journal ≡ g.journal → FailuresFit h w e
  kept_same paging disk failures same =
      let disk_same : disk_failures h.journal ≡ disk_failures g.journal = ap (replies_of is_disk_failure) same in
      let paging_same : paging_failures h.journal ≡ paging_failures g.journal = ap (replies_of is_paging_failure) same in
      record { disk = omega (arith, disk_same, failures.disk, disk); paging = omega (arith, paging_same, failures.paging, paging) }

  kept_moved : (cpu : ℕ) → v.faults ≤ w.faults → d.faults ≤ e.faults → FailuresFit g v d → (h.journal ≡ g.journal) ⊎ HasUnmapped g cpu h → FailuresFit h w e
  kept_moved cpu paging disk failures (inl same) = kept_same paging disk failures same
  kept_moved cpu paging disk failures (inr unmapped) = kept_unmapped cpu paging disk failures unmapped

waits_same : (g h : GuestState) (v : StorageView) (cpu : ℕ) → HasToWait g v cpu h → h.journal ≡ g.journal
waits_same g h v cpu waits = elim waits.tables [
  | inl same ↦ ap (λ (q : GuestState). q.journal) same
  | inr told ↦ ap (λ (q : GuestState). q.journal) told.1
]

kept_turn : (g h : GuestState) (v w : StorageView) (d e : DiskView) (cpu : ℕ) (t : Turn) → Fit g v d → v.faults ≤ w.faults → d.faults ≤ e.faults → FailuresFit g v d → AnswerCause g v d cpu t h w e
    → FailuresFit h w e
kept_turn g h v w d e cpu Moved f paging disk failures (moved, syncs, room, tears) = kept_moved g h v w d e cpu paging disk failures moved.journal
kept_turn g h v w d e cpu Finished f paging disk failures (inl finished) = kept_finished g h v w d e cpu f paging disk failures finished
kept_turn g h v w d e cpu Finished f paging disk failures (inr torn) = kept_same g h v w d e paging disk failures torn.journal
kept_turn g h v w d e cpu (Waits page owner) f paging disk failures (eh, ew, ee, waits) = kept_same g h v w d e paging disk failures (ap (λ (q : GuestState). q.journal) eh)
kept_turn g h v w d e cpu (Again why) f paging disk failures (waits, ee, risen) = kept_same g h v w d e paging disk failures (waits_same g h v cpu waits)
kept_turn g h v w d e cpu Idle f paging disk failures (eh, ew, ee, none) = kept_same g h v w d e paging disk failures (ap (λ (q : GuestState). q.journal) eh)

-- every turn keeps it
pub Failures-turn : (g : GuestState) (cpu : ℕ) (v : StorageView) (d : DiskView) (h : GuestState) (t : Turn) (w : StorageView) (e : DiskView)
    → Fit g v d → cpu < length g.processors → Seen {A = GuestState × Turn} (turn g cpu) v d (h, t) w e → FailuresFit g v d → FailuresFit h w e
Failures-turn g cpu v d h t w e f below run failures =
    let kept = seen-keeps (turn g cpu) v d (h, t) w e run in
    kept_turn g h v w d e cpu t f kept.faults kept.disk_faults failures (Causes-turn g cpu v d h t w e f below run).answer

-- no turn follows
stopped : (g i : GuestState) (v w : StorageView) (d e : DiskView) (a b : Alone) → FailuresFit g v d → Seen {A = GuestState × Alone} (done (g, b)) v d (i, a) w e → FailuresFit i w e
stopped g i v w d e a b kept (ea, em, ed) = rw (em, ed) (subst (λ q. FailuresFit q v d) (sym (ap (λ q. q.0) ea)) kept)

-- what follows a turn
failures_after : (fuel turns : ℕ) (cpu : ℕ) (h i : GuestState) (t : Turn) (m w : StorageView) (y e : DiskView) (a : Alone) → FailuresFit h m y
    → (Seen {A = GuestState × Alone} (alone_within fuel (turns + 1) h cpu) m y (i, a) w e → FailuresFit i w e)
    → Seen {A = GuestState × Alone} (alone_after (λ q. alone_within fuel (turns + 1) q cpu) turns h t) m y (i, a) w e → FailuresFit i w e
failures_after fuel turns cpu h i Moved m w y e a kept next rest = next rest
failures_after fuel turns cpu h i Finished m w y e a kept next rest = stopped h i m w y e a _ kept rest
failures_after fuel turns cpu h i (Waits page owner) m w y e a kept next rest = stopped h i m w y e a _ kept rest
failures_after fuel turns cpu h i (Again why) m w y e a kept next rest = stopped h i m w y e a _ kept rest
failures_after fuel turns cpu h i Idle m w y e a kept next rest = stopped h i m w y e a _ kept rest

pub failures_within : (fuel turns : ℕ) (g i : GuestState) (v w : StorageView) (d e : DiskView) (cpu : ℕ) (a : Alone) → Fit g v d → cpu < length g.processors
    → Seen {A = GuestState × Alone} (alone_within fuel turns g cpu) v d (i, a) w e → FailuresFit g v d → FailuresFit i w e
failures_within zero turns g i v w d e cpu a f below run failures = stopped g i v w d e a _ failures run
failures_within (suc fuel) turns g i v w d e cpu a f below run failures =
    let x = unbind (turn g cpu) (λ went. alone_after (λ q. alone_within fuel (turns + 1) q cpu) turns went.0 went.1) v d (i, a) w e run in
    let fits = Fit-turn g cpu v d x.answer.0 x.answer.1 x.storage x.disk f below x.first in
    let plan = plan-turn g cpu v d x.answer.0 x.answer.1 x.storage x.disk f below x.first in
    let size : length x.answer.0.processors ≡ length g.processors = fits.sizes.processors ∙ ap (λ q. length q.cpus) plan ∙ sym f.sizes.processors in
    let kept = Failures-turn g cpu v d x.answer.0 x.answer.1 x.storage x.disk f below x.first failures in
    failures_after fuel turns cpu x.answer.0 i x.answer.1 x.storage w x.disk e a kept
    (λ rest. failures_within fuel (turns + 1) x.answer.0 i x.storage w x.disk e cpu a fits (rw size below) rest kept) x.second

-- before the first turn nothing failed
pub Failures-opening : (plan : GuestPlan) (v : StorageView) (d : DiskView) → FailuresFit (opening_guest plan) v d
Failures-opening plan v d = record { disk = omega arith; paging = omega arith }

flat_reply : (plan : GuestPlan) (walk : Walk) (process : ℕ) (op : Op) (reply : Reply) → IsReply plan walk process op reply → one_if (is_disk_failure reply) ≡ 0 → one_if (is_paging_failure reply) ≡ 0
    → IsFlatReply walk.flat process op reply
flat_reply plan walk process op (Fail Disk) is no_disk no_paging = absurd (omega (arith, no_disk))
flat_reply plan walk process op (Fail Paging) is no_disk no_paging = absurd (omega (arith, no_paging))
flat_reply plan walk process op (Fail (NoPage pinned unslotted)) is no_disk no_paging = inr (tt {0})
flat_reply plan walk process op Done is no_disk no_paging = inl is
flat_reply plan walk process op (Bytes bytes) is no_disk no_paging = inl is
flat_reply plan walk process op (Refused refusal) is no_disk no_paging = inl is

-- where none failed, each reply of a legal journal is the flat machine's, or tells of the want of a page
pub flat_replies : (plan : GuestPlan) (walk : Walk) (journal : List Entry) → LegalFrom plan walk journal → disk_failures journal ≡ 0 → paging_failures journal ≡ 0
    → HasFlatRepliesFrom plan walk journal
flat_replies plan walk [] legal no_disk no_paging = tt {0}
flat_replies plan walk (entry ∷ entries) (next, rest) no_disk no_paging =
    let disk = replies-cons is_disk_failure entry entries in
    let paging = replies-cons is_paging_failure entry entries in (
      flat_reply plan walk (process_of plan entry.cpu) entry.op entry.reply next.reply (omega (arith, disk, no_disk)) (omega (arith, paging, no_paging)),
      flat_replies plan (after plan walk entry) entries rest (omega (arith, disk, no_disk)) (omega (arith, paging, no_paging)),
    )

-- where no more commands failed than calls did, and no more calls than are planned to
pub fails_as_planned : (plan : GuestPlan) (journal : List Entry) (calls pager : FailurePlan) → Legal plan journal → disk_failures journal ≤ calls.faults
    → paging_failures journal ≤ pager.faults → IsCounted plan.disk_fail calls → IsCounted plan.pager_fail pager → FailsAsPlanned plan journal
fails_as_planned plan journal calls pager legal disk paging disk_calls pager_calls = record {
  by_disk = by_disk;
  by_pager = by_pager;
  flat = λ none_disk none_pager.
      flat_replies plan (start_of plan) journal legal (omega (arith, by_disk, distinct-none plan.disk_fail none_disk)) (omega (arith, by_pager, distinct-none plan.pager_fail none_pager));
}
  where
    by_disk : disk_failures journal ≤ distinct plan.disk_fail
    by_disk = omega (arith, disk, counted-most plan.disk_fail calls disk_calls)

    by_pager : paging_failures journal ≤ distinct plan.pager_fail
    by_pager = omega (arith, paging, counted-most plan.pager_fail pager pager_calls)
