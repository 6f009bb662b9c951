-- Fit after a reply: a refusal, the bytes of a read, a failure.
use Rattle.std.proofs.Common.{◌≡◌, ◌/◌, ◌%◌, ℕ, List, take, drop, Some, ap, sym, ◌∙◌, subst}
use Rattle.cmm_types.specs.declared.page.TheConstants.{PAGE}
use Rattle.cmm_types.specs.declared.page.Tag.TheVariants.{File}
use Rattle.cmm_types.specs.declared.command.Op.{Op}
use Rattle.cmm_types.specs.declared.command.Op.TheVariants.{Read, Write, Load, Store, Pin}
use Rattle.cmm_types.specs.declared.command.Reply.{Reply}
use Rattle.cmm_types.specs.declared.command.Reply.TheVariants.{Bytes as BytesReply, Refused, Fail}
use Rattle.cmm_types.specs.declared.command.Cause.{Cause}
use Rattle.cmm_types.specs.declared.command.Cause.TheVariants.{Disk, Paging, NoPage}
use Rattle.cmm_types.specs.declared.command.FlatRefusal.{FlatRefusal}
use Rattle.cmm_io.specs.DiskView.{DiskView}
use Rattle.cmm_types.specs.Bytes.{bytes_at}
use Rattle.cmm_flat.specs.State.{FlatState, file_at}
use Rattle.cmm_flat.specs.Flat.{flat_step, refusal_of}
use Rattle.cmm_flat.specs.Laws.StepLaws.{step_done, step_refused}
use Rattle.cmm_flat.specs.Legal.{IsReply, CanFail, process_of, flat_of, flat_after, CanNeedPage}
use Rattle.cmm_flat.specs.Laws.LegalLaws.{IsReply-from_step, flat_after-from_step}
use Rattle.essa_state.specs.PageValue.{PageValue, Bytes, MayBecome}
use Rattle.cmm_storage.specs.StorageView.{StorageView}
use Rattle.guest_rules.specs.declared.parts.Parts.{Parts}
use Rattle.guest_rules.specs.declared.processor.Phase.TheVariants.{Start}
use Rattle.guest_rules.specs.GuestState.{GuestState, processor_at, with_parts, entered}
use Rattle.guest_rules.specs.Turns.{refusal_in}
use Rattle.guest_rules.specs.Fit.{FitAt, Fit}
use Rattle.guest_rules.specs.Answers.{FailCause}
use Rattle.guest_rules.proofs.Cases.TurnCases.{Has, Starts, HasPage, GivenBack, IsRehinted}
use Rattle.guest_rules.proofs.Fit.FitEntered.{walk_at, Fit-entered}
use Rattle.guest_rules.proofs.Cases.Refusals.{refusal-same, page-bytes}
use Rattle.guest_rules.proofs.Cases.WantedTags.{read-piece}
use Rattle.guest_rules.proofs.Fit.FoundBytes.{found-bytes}
use Rattle.guest_rules.proofs.Fit.StepTold.{Fit-rehinted}

-- the flat machine replies so, and the guest fits the state that this leads to
pub Fit-stepped : (g : GuestState) (v : StorageView) (d : DiskView) (cpu : ℕ) (op : Op) (reply : Reply) (later : FlatState) → FitAt later g v d → Has g cpu op → (processor_at g cpu).phase ≡ Start
    → flat_step (flat_of g.plan g.journal) (process_of g.plan cpu) op ≡ (later, reply) → Fit (entered g cpu op reply) v d
Fit-stepped g v d cpu op reply later f has start step =
    let flat = flat_of g.plan g.journal in
    let process = process_of g.plan cpu in
    let is : reply ≡ (flat_step flat process op).1 = sym (ap (λ (out : FlatState × Reply). out.1) step) in
    let leads : flat_after flat process op reply ≡ later = flat_after-from_step flat process op reply is ∙ ap (λ (out : FlatState × Reply). out.0) step in
    Fit-entered g v d cpu op reply (subst (λ (state : FlatState). FitAt state g v d) (sym leads) f) has.below start has.command (IsReply-from_step g.plan (walk_at g) process op reply is)

-- the flat machine refuses as the tables do
pub refused-same : (g : GuestState) (v : StorageView) (d : DiskView) (cpu : ℕ) (op : Op) → Fit g v d → Has g cpu op
    → refusal_of (flat_of g.plan g.journal) (process_of g.plan cpu) op ≡ refusal_in g (process_of g.plan cpu) op
refused-same g v d cpu op f has = refusal-same (flat_of g.plan g.journal) g (process_of g.plan cpu) op
    f.slots f.flat.lengths

pub Fit-refused : (g : GuestState) (v : StorageView) (d : DiskView) (cpu : ℕ) (op : Op) (refusal : FlatRefusal) → Fit g v d → Has g cpu op → (processor_at g cpu).phase ≡ Start
    → refusal_in g (process_of g.plan cpu) op ≡ Some refusal → Fit (entered g cpu op (Refused refusal)) v d
Fit-refused g v d cpu op refusal f has start refused =
    Fit-stepped g v d cpu op (Refused refusal) (flat_of g.plan g.journal) f has start
    (step_refused (flat_of g.plan g.journal) (process_of g.plan cpu) op refusal (refused-same g v d cpu op f has ∙ refused))

-- the bytes of the page that has the tag
pub Fit-read : (g : GuestState) (v : StorageView) (d : DiskView) (w : StorageView) (e : DiskView) (cpu file off len page : ℕ) (found : PageValue) (all : List ℕ) (after : Parts) → Fit g v d
    → Starts g cpu (Read file off len)
    → HasPage g (File file (off / PAGE)) page → GivenBack page v d w e → MayBecome (v.values page) found → found.contents ≡ Bytes all → IsRehinted g.parts page found after (w.values page)
    → Fit (entered (with_parts g after) cpu (Read file off len) (BytesReply (take len (drop (off % PAGE) all)))) w e
Fit-read g v d w e cpu file off len page found all after f starts has back may are told =
    Fit-stepped (with_parts g after) w e cpu (Read file off len) (BytesReply (take len (drop (off % PAGE) all))) flat
    (Fit-rehinted flat g v d w e page (File file (off / PAGE)) found after f has back may told)
    (record { below = starts.has.below; command = starts.has.command }) starts.start
    (step_done flat (process_of g.plan cpu) (Read file off len) (refused-same g v d cpu (Read file off len) f starts.has ∙ starts.accepted)
    ∙ ap (λ b. let out : FlatState × Reply = (flat, BytesReply b) in out) (sym same))
  where
    flat : FlatState
    flat = flat_of g.plan g.journal

    same : take len (drop (off % PAGE) all) ≡ bytes_at (file_at flat.files file) off len
    same =
        ap (λ b. take len (drop (off % PAGE) b))
        (sym (found-bytes flat g v d page (File file (off / PAGE)) found all f (f.pages.indexed page (File file (off / PAGE)) has.tagged).0
        (record { tagged = has.tagged; uptodate = f.locks.stale page (File file (off / PAGE)) has.tagged has.unlocked; may = may; are = are })))
        ∙ page-bytes (file_at flat.files file) off len (read-piece g v d cpu file off len f.sizes starts.has).within_page

-- a command that needs a page may fail by the disk or the pager
needs-fails : (op : Op) → CanNeedPage op → CanFail op
needs-fails (Read file off len) needs = tt
needs-fails (Write file off bytes) needs = tt
needs-fails (Load number off len) needs = tt
needs-fails (Store number off bytes) needs = tt
needs-fails (Pin number index) needs = tt
needs-fails op needs = absurd needs

failing : (g : GuestState) (cpu : ℕ) (op : Op) (v : StorageView) (d : DiskView) (w : StorageView) (e : DiskView) (cause : Cause) → CanFail op → FailCause cause v d w e
    → IsReply g.plan (walk_at g) (process_of g.plan cpu) op (Fail cause)
failing g cpu op v d w e Disk can h = can
failing g cpu op v d w e Paging can h = can
failing g cpu op v d w e (NoPage pinned unslotted) can h = absurd h

pub Fit-fails : (g : GuestState) (v : StorageView) (d : DiskView) (w : StorageView) (e : DiskView) (x : StorageView) (y : DiskView) (cpu : ℕ) (op : Op) (cause : Cause) → Fit g w e → Has g cpu op
    → CanFail op
    → (processor_at g cpu).phase ≡ Start → FailCause cause v d x y → Fit (entered g cpu op (Fail cause)) w e
Fit-fails g v d w e x y cpu op cause f has can start risen = Fit-entered g w e cpu op (Fail cause) f has.below start has.command (failing g cpu op v d x y cause can risen)

pub Fit-failed : (g : GuestState) (v : StorageView) (d : DiskView) (w : StorageView) (e : DiskView) (x : StorageView) (y : DiskView) (cpu : ℕ) (op : Op) (cause : Cause) → Fit g w e → Has g cpu op
    → CanNeedPage op
    → (processor_at g cpu).phase ≡ Start → FailCause cause v d x y → Fit (entered g cpu op (Fail cause)) w e
Fit-failed g v d w e x y cpu op cause f has needs start risen = Fit-fails g v d w e x y cpu op cause f has (needs-fails op needs) start risen
