-- What a guest's turn on the plain host does to the world.
use Rattle.std.specs.Prelude.{◌≡◌, ◌⊎◌, ◌<◌, ◌++◌, ℕ, List, [], ◌∷◌, length, drop, slice_set, true, false, Bool, Some}
use Rattle.std.proofs.Common.{refl, sym, ap, inl, inr, subst, ◌∙◌, get_or-set_same, get_or-set_other, get_or-take, get_or-drop}
use Rattle.std.proofs.lemmas.Bool.{cases_eq}
use Rattle.std.proofs.lemmas.List.{append_cancel_left, append_assoc, append-nil}
use Rattle.cmm_types.specs.declared.command.Entry.{Entry}
use Rattle.cmm_types.specs.declared.command.Op.{Op}
use Rattle.cmm_types.specs.declared.command.Op.TheVariants.{Unmap, Load, Store}
use Rattle.cmm_types.specs.declared.command.Reply.TheVariants.{Done, Bytes, Fail}
use Rattle.cmm_types.specs.declared.command.Cause.TheVariants.{NoPage}
use Rattle.cmm_types.specs.declared.plan.GuestPlan.{GuestPlan}
use Rattle.cmm_types.specs.declared.turn.Turn.{Turn}
use Rattle.cmm_types.specs.declared.turn.Turn.TheVariants.{Moved, Finished, Waits, Again, Idle}
use Rattle.cmm_flat.specs.Legal.{command_of, process_of}
use Rattle.cmm_io.specs.DiskCall.{DiskCall}
use Rattle.cmm_io.specs.DiskState.{DiskState, DiskStep, disk_view, opened}
use Rattle.cmm_io.specs.DiskView.{DiskView, DiskFollows}
use Rattle.essa_state.specs.declared.fields.Fields.{Fields}
use Rattle.essa_state.specs.StateWord.{is_resident, opening_word}
use Rattle.essa_state.specs.PageValue.{is_lost, may_lose}
use Rattle.cmm_storage.specs.StorageCall.{StorageCall}
use Rattle.cmm_storage.specs.StorageView.{StorageView, Follows}
use Rattle.cmm_storage.specs.Program.{Program, Does}
use Rattle.cmm_storage.specs.Views.{Seen, does_seen, page_called}
use Rattle.host_plain.specs.HostState.{HostState, HostStep, Leaves, host_view, host_word, served, value_of, pages_of, first_place}
use Rattle.guest_rules.specs.declared.parts.Parts.{Parts}
use Rattle.guest_rules.specs.GuestState.{GuestState, opening_guest, processor_at, entered}
use Rattle.guest_rules.specs.Turns.{turn}
use Rattle.guest_rules.specs.Fit.{Fit}
use Rattle.guest_rules.specs.Cause.{TurnCause, ReplyCause, LacksPage, NoWrongDiscard}
use Rattle.guest_rules.proofs.TurnLaws.{Fit-turn, Causes-turn, Discards-turn, plan-turn}
use Rattle.guest_rules.specs.Failures.{FailuresFit}
use Rattle.guest_rules.proofs.Causes.FailuresKept.{Failures-turn}
use Rattle.cmm_types.specs.NoPlan.{no_plan}
use Rattle.essa_state.specs.Laws.PageValueLaws.{may_discard}
use Rattle.cmm_world.specs.WorldState.{WorldState, guest_at, disk_at}
use Rattle.cmm_world.specs.WorldFit.{IsWorld, view_of}
use Rattle.cmm_world.specs.Run.{turn_step, turned}
use Rattle.cmm_world.specs.Steps.{NoWrongDiscards}
use Rattle.cmm_world.specs.Caused.{TurnIsCaused}
use Rattle.cmm_world.specs.Reached.{HasReached, WasReached, Enters, world_word}
use Rattle.cmm_world.specs.Lacking.{IsOutOfPages, LacksPages}
use Rattle.cmm_world.proofs.ExecRuns.{does_exec}
use Rattle.cmm_storage.specs.Laws.CarriedLaws.{storage_carried}
use Rattle.cmm_world.proofs.Failures.{PlansKept, plans_kept, failures_fit, counted_turn}
use Rattle.cmm_world.proofs.Kept.{KeepsOthers, KeepsOthers-same, KeepsOthers-trans, MovesKeep, keeps_others, kept_turn}
use Rattle.cmm_world.proofs.EntryTurns.{IsAnswer, IsLocated, IsMapped, one_more, same_entry, turn_located, load_mapped, store_mapped}

-- the world after a guest's turns
abbrev pub with_turn : WorldState → ℕ → GuestState → HostState → DiskState → WorldState
with_turn w guest g k e = record { guests = slice_set w.guests guest g; disks = slice_set w.disks guest e; host = k }

-- a host that serves the guest already
pub served_same : (k : HostState) (guest : ℕ) → k.guest ≡ guest → served k guest ≡ k
served_same k guest same = ap (λ q. served k q) (sym same)

-- what relates a guest, its pages and its disk before and after its calls relates them in the worlds before and after
pub between_worlds : (Relates : GuestState → StorageView → DiskView → GuestState → StorageView → DiskView → Type 0) (w : WorldState) (guest : ℕ) (s k : HostState) (d e : DiskState) (h : GuestState)
    → guest < length w.guests → guest < length w.disks → s ≡ served w.host guest → d ≡ disk_at w guest → k.guest ≡ guest
    → Relates (guest_at w guest) (host_view s) (disk_view d) h (host_view k) (disk_view e)
    → Relates (guest_at w guest) (view_of w guest) (disk_view (disk_at w guest)) (guest_at (with_turn w guest h k e) guest) (view_of (with_turn w guest h k e) guest)
    (disk_view (disk_at (with_turn w guest h k e) guest))
between_worlds Relates w guest s k d e h below has_disk is_host is_disk serves related =
    let x = with_turn w guest h k e in
    let before = Relates (guest_at w guest) (view_of w guest) (disk_view (disk_at w guest)) in
    let first : before h (host_view k) (disk_view e) =
    subst (λ (q : HostState). Relates (guest_at w guest) (host_view q) (disk_view (disk_at w guest)) h (host_view k) (disk_view e)) is_host
    (subst (λ (q : DiskState). Relates (guest_at w guest) (host_view s) (disk_view q) h (host_view k) (disk_view e)) is_disk related) in
    subst (λ (q : GuestState). before q (view_of x guest) (disk_view (disk_at x guest))) (sym (get_or-set_same w.guests guest h (opening_guest no_plan) below))
    (subst (λ (q : HostState). before h (host_view q) (disk_view (disk_at x guest))) (sym (served_same k guest serves))
    (subst (λ (q : DiskState). before h (host_view k) (disk_view q)) (sym (get_or-set_same w.disks guest e (opened [] 0 []) has_disk)) first))

-- a guest's pages are discarded only where they may be
abbrev NoWrongAt : HostState → HostState → ℕ → Type 0
NoWrongAt h k guest = (page : ℕ) → page < pages_of h guest → is_lost (value_of k guest page).contents ≡ true
    → (is_lost (value_of h guest page).contents ≡ true) ⊎ (may_lose (value_of h guest page).usage (value_of h guest page).changed ≡ true)

-- neither the guest's own pages nor another's are discarded wrongly
pub discards_turn : (w : WorldState) (guest : ℕ) (g : GuestState) (k : HostState) (e : DiskState) → IsWorld w → KeepsOthers (served w.host guest) k
    → NoWrongDiscard (view_of w guest) (host_view k) → NoWrongDiscards w (with_turn w guest g k e)
discards_turn w guest g k e world keeps own i page lt below lost = elim (cases_eq i guest) [
  | inl same ↦ subst (NoWrongAt w.host k) (sym same) mine page below lost
  | inr other ↦ may_discard _ _ (keeps.others i page (rw world.pagers lt) other below) lost
]
  where
    mine : NoWrongAt w.host k guest
    mine = subst (λ q. (page : ℕ) → page < pages_of w.host guest → is_lost (value_of k q page).contents ≡ true
        → (is_lost (value_of w.host guest page).contents ≡ true) ⊎ (may_lose (value_of w.host guest page).usage (value_of w.host guest page).changed ≡ true)) keeps.serves own

-- the host's own moves discard nothing wrongly
pub discards_moves : (w : WorldState) (k : HostState) → MovesKeep w.host k → NoWrongDiscards w (record { guests = w.guests; disks = w.disks; host = k })
discards_moves w k keeps i page lt below lost = may_discard _ _ (keeps.pages i page) lost

-- no guest's journal changed
abbrev pub SameJournals : WorldState → WorldState → Type 0
SameJournals w x = (guest : ℕ) → (guest_at x guest).journal ≡ (guest_at w guest).journal

-- an unmap that isn't refused was answered
pub record AnswersUnmap (entry : Entry) : Type 0 where
  pub number : ℕ
  pub op : entry.op ≡ Unmap number
  pub reply : entry.reply ≡ Done

-- at most the answers of unmaps were entered
abbrev pub EntersUnmaps : WorldState → WorldState → Type 0
EntersUnmaps w x = (guest : ℕ) → ((guest_at x guest).journal ≡ (guest_at w guest).journal) ⊎ ((entry : Entry) × AnswersUnmap entry × Enters w x guest entry)

-- each journal has what it had, and then more
abbrev pub Grows : WorldState → WorldState → Type 0
Grows w x = (guest : ℕ) → (more : List Entry) × ((guest_at x guest).journal ≡ (guest_at w guest).journal ++ more)

pub Grows-same : (w x : WorldState) → SameJournals w x → Grows w x
Grows-same w x same guest = ([], same guest ∙ sym (append-nil _))

pub Grows-trans : (w m x : WorldState) → Grows w m → Grows m x → Grows w x
Grows-trans w m x first next guest =
    let a = first guest in
    let b = next guest in
    (a.0 ++ b.0, b.1 ∙ ap (λ (xs : List Entry). xs ++ b.0) a.1 ∙ append_assoc (guest_at w guest).journal a.0 b.0)

-- where no journal changed, no command failed for the want of a page
pub LacksPages-none : (w x : WorldState) → SameJournals w x → LacksPages w x
LacksPages-none w x same guest cpu k pinned unslotted op got = absurd (one_more (guest_at w guest).journal _ (sym (same guest) ∙ got))

-- where no journal changed, nothing was entered
pub HasReached-none : (w x : WorldState) → SameJournals w x → HasReached w x
HasReached-none w x same = record {
  loads = λ guest cpu k number off len bytes got. absurd (one_more (guest_at w guest).journal _ (sym (same guest) ∙ got));
  stores = λ guest cpu k number off bytes got. absurd (one_more (guest_at w guest).journal _ (sym (same guest) ∙ got));
}

-- the entry behind a list, and the first of those behind it
first_behind : (xs : List Entry) (x y : Entry) (more : List Entry) → xs ++ x ∷ [] ≡ (xs ++ y ∷ []) ++ more → x ≡ y
first_behind xs x y more same = let rest : x ∷ [] ≡ y ∷ more = append_cancel_left xs (x ∷ []) (y ∷ more) (same ∙ append_assoc xs (y ∷ []) more) in cc

enters_then : (w m x : WorldState) (guest : ℕ) (entry : Entry) → EntersUnmaps w m → Grows m x → (AnswersUnmap entry → ⊥) → Enters w x guest entry
    → Enters m x guest entry
enters_then w m x guest entry moved grows no_unmap got = elim (moved guest) [
  | inl same ↦ got ∙ ap (λ (xs : List Entry). xs ++ entry ∷ []) (sym same)
  | inr u ↦
      let more = grows guest in
      let its : entry ≡ u.0 = first_behind (guest_at w guest).journal entry u.0 more.0 (sym got ∙ more.1 ∙ ap (λ (xs : List Entry). xs ++ more.0) u.2) in
      absurd (no_unmap (subst AnswersUnmap (sym its) u.1))
]

-- turns that entered at most the answers of unmaps, and then others
pub HasReached-then : (w m x : WorldState) → EntersUnmaps w m → Grows m x → HasReached m x → HasReached w x
HasReached-then w m x moved grows later = record {
  loads = λ guest cpu k number off len bytes got.
      later.loads guest cpu k number off len bytes
      (enters_then w m x guest (record { cpu = cpu; k = k; op = Load number off len; reply = Bytes bytes }) moved grows (λ u. let bad : Load number off len ≡ Unmap u.number = u.op in cc) got);
  stores = λ guest cpu k number off bytes got.
      later.stores guest cpu k number off bytes
      (enters_then w m x guest (record { cpu = cpu; k = k; op = Store number off bytes; reply = Done }) moved grows (λ u. let bad : Store number off bytes ≡ Unmap u.number = u.op in cc) got);
}

pub LacksPages-then : (w m x : WorldState) → EntersUnmaps w m → Grows m x → LacksPages m x → LacksPages w x
LacksPages-then w m x moved grows later guest cpu k pinned unslotted op got =
    later guest cpu k pinned unslotted op
    (enters_then w m x guest (record { cpu = cpu; k = k; op = op; reply = Fail (NoPage pinned unslotted) }) moved grows (λ u. let bad : Fail (NoPage pinned unslotted) ≡ Done = u.reply in cc) got)

-- the word of the served guest's page stands in the list of its words
word_in-host : (w : WorldState) (page : ℕ) → page < pages_of w.host w.host.guest → world_word w w.host.guest page ≡ host_word w.host page
word_in-host w page below =
    get_or-take (pages_of w.host w.host.guest) (drop (first_place w.host w.host.guest) w.host.memory.words) page opening_word below
    ∙ get_or-drop (first_place w.host w.host.guest) w.host.memory.words page opening_word

was_reached : (w : WorldState) (guest process number off : ℕ) (writes : Bool) → w.host.guest ≡ guest → IsLocated (guest_at w guest).parts process number off writes w.host
    → WasReached w guest process number off writes
was_reached w guest process number off writes serves x =
    let word : world_word w guest x.pte.page ≡ host_word w.host x.pte.page =
    subst (λ q. world_word w q x.pte.page ≡ host_word w.host x.pte.page) serves (word_in-host w x.pte.page x.reached.below) in
    record {
      slot = x.slot;
      pte = x.pte;
      found = x.found;
      entry = x.entry;
      resident = ap (λ (q : Fields). is_resident q.content) word ∙ x.reached.resident;
      referenced = ap (λ (q : Fields). q.referenced) word ∙ x.reached.referenced;
      changed = λ is_written. ap (λ (q : Fields). q.changed) word ∙ x.reached.changed is_written;
    }

-- a turn that entered something finished or answered an unmap, and this was the processor's command
pub record Entered (g : GuestState) (cpu : ℕ) (r : Turn) (entry : Entry) : Type 0 where
  pub finished : (r ≡ Finished) ⊎ AnswersUnmap entry
  pub command : command_of g.plan cpu (processor_at g cpu).place ≡ Some entry.op
  pub its : entry.cpu ≡ cpu

-- at most one entry is new, and an unmap's where the turn moved
pub data HasEntered (g h : GuestState) (cpu : ℕ) (r : Turn) : Type 0 where
  nothing : h.journal ≡ g.journal → HasEntered g h cpu r
  one : (entry : Entry) → Entered g cpu r entry → (r ≡ Moved → AnswersUnmap entry) → h.journal ≡ g.journal ++ entry ∷ [] → HasEntered g h cpu r

has_entered : (g h : GuestState) (v w : StorageView) (d e : DiskView) (cpu : ℕ) (r : Turn) → TurnCause g v d cpu r h w e → HasEntered g h cpu r
has_entered g h v w d e cpu Moved cause = elim cause.answer.0.journal [
  | inl same ↦ nothing same
  | inr u ↦
      let its : Entry = record { cpu = cpu; k = (processor_at g cpu).place; op = Unmap u.number; reply = Done } in
      let answers : AnswersUnmap its = record { number = u.number; op = refl; reply = refl } in
      one its (record { finished = inr answers; command = u.command; its = refl }) (λ moved. answers) u.entry
]
has_entered g h v w d e cpu Finished cause = elim cause.answer [
  | inl f ↦
      let its : Entry = record { cpu = cpu; k = (processor_at g cpu).place; op = f.op; reply = f.reply } in
      one its (record { finished = inl refl; command = f.command; its = refl }) (λ moved. let bad : Finished ≡ Moved = moved in absurd cc) f.entry
  | inr torn ↦ nothing torn.journal
]
has_entered g h v w d e cpu (Waits page owner) cause = nothing (ap (λ (q : GuestState). q.journal) cause.answer.0)
has_entered g h v w d e cpu (Again why) cause = elim cause.answer.0.tables [
  | inl same ↦ nothing (ap (λ (q : GuestState). q.journal) same)
  | inr changed ↦ nothing (ap (λ (q : GuestState). q.journal) changed.1)
]
has_entered g h v w d e cpu Idle cause = nothing (ap (λ (q : GuestState). q.journal) cause.answer.0)

entered_by : (g h : GuestState) (cpu : ℕ) (r : Turn) (entry : Entry) → HasEntered g h cpu r → h.journal ≡ g.journal ++ entry ∷ [] → Entered g cpu r entry
entered_by g h cpu r entry (nothing same) got = absurd (one_more g.journal entry (sym same ∙ got))
entered_by g h cpu r entry (one its entered moved journal) got = subst (Entered g cpu r) (same_entry g.journal its entry (sym journal ∙ got)) entered

-- a command that isn't an unmap is entered where it finishes
finishes : (g : GuestState) (cpu : ℕ) (r : Turn) (entry : Entry) → Entered g cpu r entry → ((number : ℕ) → entry.op ≡ Unmap number → ⊥) → r ≡ Finished
finishes g cpu r entry entered no_unmap = elim entered.finished [ inl finished ↦ finished | inr u ↦ absurd (no_unmap u.number u.op) ]

grown : (g h : GuestState) (cpu : ℕ) (r : Turn) → HasEntered g h cpu r → (more : List Entry) × (h.journal ≡ g.journal ++ more)
grown g h cpu r (nothing same) = ([], same ∙ sym (append-nil _))
grown g h cpu r (one its entered moved journal) = (its ∷ [], journal)

unmap_at_most : (g h : GuestState) (cpu : ℕ) → HasEntered g h cpu Moved
    → (h.journal ≡ g.journal) ⊎ ((entry : Entry) × AnswersUnmap entry × (h.journal ≡ g.journal ++ entry ∷ []))
unmap_at_most g h cpu (nothing same) = inl same
unmap_at_most g h cpu (one its entered moved journal) = inr (its, moved refl, journal)

-- a guest without a page for a command, after that was entered
no_page : (g h : GuestState) (v w : StorageView) (d e : DiskView) (cpu : ℕ) (r : Turn) (op : Op) (pinned unslotted : ℕ) → TurnCause g v d cpu r h w e → LacksPage g cpu op pinned unslotted
    → IsOutOfPages h.parts pinned unslotted
unfolding entered
no_page g h v w d e cpu r op pinned unslotted cause lacks =
    let parts : h.parts ≡ g.parts = ap (λ (q : GuestState). q.parts) (cause.lacks op lacks.accepted lacks.needs lacks.stuck).1 in
    subst (λ (q : Parts). IsOutOfPages q pinned unslotted) (sym parts) (record { stuck = lacks.stuck; pinned_are = lacks.pinned_are; all = lacks.all })

-- so it is of each command that a turn enters as failed for the want of a page
lacks_page : (g h : GuestState) (v w : StorageView) (d e : DiskView) (cpu : ℕ) (r : Turn) (entry : Entry) (pinned unslotted : ℕ) → TurnCause g v d cpu r h w e
    → entry.reply ≡ Fail (NoPage pinned unslotted) → h.journal ≡ g.journal ++ entry ∷ [] → IsOutOfPages h.parts pinned unslotted
lacks_page g h v w d e cpu Moved entry pinned unslotted cause fails got = elim cause.answer.0.journal [
  | inl same ↦ absurd (one_more g.journal entry (sym same ∙ got))
  | inr u ↦
      let its : Entry = record { cpu = cpu; k = (processor_at g cpu).place; op = Unmap u.number; reply = Done } in
      let bad : Done ≡ Fail (NoPage pinned unslotted) = ap (λ (q : Entry). q.reply) (same_entry g.journal its entry (sym u.entry ∙ got)) ∙ fails in
      absurd cc
]
lacks_page g h v w d e cpu Finished entry pinned unslotted cause fails got = elim cause.answer [
  | inl f ↦
      let its : Entry = record { cpu = cpu; k = (processor_at g cpu).place; op = f.op; reply = f.reply } in
      let reply : f.reply ≡ Fail (NoPage pinned unslotted) = ap (λ (q : Entry). q.reply) (same_entry g.journal its entry (sym f.entry ∙ got)) ∙ fails in
      no_page g h v w d e cpu Finished f.op pinned unslotted cause (subst (λ q. ReplyCause g cpu f.op v d q w e) reply f.cause).0
  | inr torn ↦ absurd (one_more g.journal entry (sym torn.journal ∙ got))
]
lacks_page g h v w d e cpu (Waits page owner) entry pinned unslotted cause fails got = absurd (one_more g.journal entry (sym (ap (λ (q : GuestState). q.journal) cause.answer.0) ∙ got))
lacks_page g h v w d e cpu (Again why) entry pinned unslotted cause fails got = elim cause.answer.0.tables [
  | inl same ↦ absurd (one_more g.journal entry (sym (ap (λ (q : GuestState). q.journal) same) ∙ got))
  | inr changed ↦ absurd (one_more g.journal entry (sym (ap (λ (q : GuestState). q.journal) changed.1) ∙ got))
]
lacks_page g h v w d e cpu Idle entry pinned unslotted cause fails got = absurd (one_more g.journal entry (sym (ap (λ (q : GuestState). q.journal) cause.answer.0) ∙ got))

-- what a guest's turn leaves of the world
pub record AfterTurn (w : WorldState) (guest cpu : ℕ) (h : GuestState) (r : Turn) (k : HostState) (e : DiskState) : Type 0 where
  pub step : turn_step w guest cpu ≡ (r, with_turn w guest h k e)
  pub world : IsWorld (with_turn w guest h k e)
  pub discards : NoWrongDiscards w (with_turn w guest h k e)
  pub caused : TurnIsCaused w (with_turn w guest h k e) guest cpu r
  pub reached : HasReached w (with_turn w guest h k e)
  pub lacks : LacksPages w (with_turn w guest h k e)
  pub moved : r ≡ Moved → EntersUnmaps w (with_turn w guest h k e)
  pub grows : Grows w (with_turn w guest h k e)
  pub plan : h.plan ≡ (guest_at w guest).plan
  pub serves : k.guest ≡ guest

module _ {S D : Type 0} (ss : S → StorageCall → S → Type 0) (ds : D → DiskCall → D → Type 0) (sv : S → HostState) (dv : D → DiskState)
    (sm : (s : S) (call : StorageCall) (t : S) → ss s call t → HostStep (sv s) call (sv t))
    (dm : (d : D) (call : DiskCall) (e : D) → ds d call e → DiskStep (dv d) call (dv e))
    (sf : (s : S) (call : StorageCall) (t : S) → ss s call t → Follows (host_view (sv s)) call (host_view (sv t)))
    (df : (d : D) (call : DiskCall) (e : D) → ds d call e → DiskFollows (disk_view (dv d)) call (disk_view (dv e)))
    (sl : (s : S) (call : StorageCall) (t : S) → ss s call t → Leaves (sv s) (page_called call) (sv t)) where
  seen : (g : GuestState) (cpu : ℕ) (s : S) (d : D) (h : GuestState) (r : Turn) (t : S) (e : D) → Does ss ds (turn g cpu) s d (h, r) t e
      → Seen {A = GuestState × Turn} (turn g cpu) (host_view (sv s)) (disk_view (dv d)) (h, r) (host_view (sv t)) (disk_view (dv e))
  seen g cpu s d h r t e run = does_seen ss ds (λ q. host_view (sv q)) (λ q. disk_view (dv q)) sf df (turn g cpu) s d (h, r) t e run

  pub run_keeps : {A : Type 0} (p : Program A) (s : S) (d : D) (a : A) (t : S) (e : D) → Does ss ds p s d a t e → KeepsOthers (sv s) (sv t)
  run_keeps p s d a t e run =
      storage_carried ss ds (λ s t. KeepsOthers (sv s) (sv t)) (λ s t same. KeepsOthers-same (sv s) (sv t) (ap sv same)) (λ s m t. KeepsOthers-trans (sv s) (sv m) (sv t))
      (λ s call t q. keeps_others (sv s) (page_called call) (sv t) (sl s call t q)) p s d a t e run

  -- the page of a load or a store that the guest's turn entered
  turn_reached : (w : WorldState) (guest cpu : ℕ) (s : S) (d : D) (h : GuestState) (r : Turn) (t : S) (e : D) (op : Op) (number off : ℕ) (writes : Bool) (entry : Entry) → guest < length w.guests
      → h.plan ≡ (guest_at w guest).plan → (sv t).guest ≡ guest → Entered (guest_at w guest) cpu r entry → entry.op ≡ op → IsAnswer entry.reply
      → IsMapped ss ds sv sm sl (guest_at w guest) cpu op number off writes → Does ss ds (turn (guest_at w guest) cpu) s d (h, r) t e
      → h.journal ≡ (guest_at w guest).journal ++ entry ∷ []
      → WasReached (with_turn w guest h (sv t) (dv e)) guest (process_of (guest_at (with_turn w guest h (sv t) (dv e)) guest).plan entry.cpu) number off writes
  turn_reached w guest cpu s d h r t e op number off writes entry below plan serves entered is_op answer mapped run got =
      let x = with_turn w guest h (sv t) (dv e) in
      let g = guest_at w guest in
      let here : guest_at x guest ≡ h = get_or-set_same w.guests guest h (opening_guest no_plan) below in
      let located : IsLocated h.parts (process_of g.plan cpu) number off writes (sv t) =
      turn_located ss ds sv sm sl g cpu op number off writes s d h t e entry (record { got = got; answer = answer }) mapped (entered.command ∙ ap (λ (o : Op). Some o) is_op)
      (subst (λ q. Does ss ds (turn g cpu) s d (h, q) t e) (finishes g cpu r entry entered (λ other is. mapped.no_unmap other (sym is_op ∙ is))) run) in
      let process : process_of g.plan cpu ≡ process_of (guest_at x guest).plan entry.cpu =
      ap (λ (q : GuestPlan). process_of q cpu) (sym plan ∙ ap (λ (q : GuestState). q.plan) (sym here)) ∙ ap (process_of (guest_at x guest).plan) (sym entered.its) in
      subst (λ p. WasReached x guest p number off writes) process
      (was_reached x guest (process_of g.plan cpu) number off writes serves (subst (λ (q : GuestState). IsLocated q.parts (process_of g.plan cpu) number off writes (sv t)) (sym here) located))

  pub after_turn : (w : WorldState) (guest cpu : ℕ) (s : S) (d : D) (h : GuestState) (r : Turn) (t : S) (e : D) → IsWorld w → guest < length w.guests
      → sv s ≡ served w.host guest → dv d ≡ disk_at w guest → cpu < length (guest_at w guest).processors → Does ss ds (turn (guest_at w guest) cpu) s d (h, r) t e
      → AfterTurn w guest cpu h r (sv t) (dv e)
  after_turn w guest cpu s d h r t e world below is_host is_disk has_cpu run = record {
    step = ap (turned w guest) (sym (does_exec ss ds sv dv sm dm (turn g cpu) s d (h, r) t e run ∙ rw (is_host, is_disk) refl));
    world = kept_turn w guest h (sv t) (dv e) world below kept fit'.hints.none_held fit' (counted_turn w guest h (sv t) (dv e) world below kept plan failures plans);
    discards = discards_turn w guest h (sv t) (dv e) world kept own;
    caused = between_worlds (λ p v b q y c. TurnCause p v b cpu r q y c) w guest (sv s) (sv t) (dv d) (dv e) h below (rw world.disks below) is_host is_disk kept.serves cause;
    reached = record {
      loads = λ i c n number off len bytes got. reached i (record { cpu = c; k = n; op = Load number off len; reply = Bytes bytes }) (Load number off len) number off false
          (load_mapped ss ds sv sm sl g cpu number off len) refl tt got;
      stores = λ i c n number off bytes got. reached i (record { cpu = c; k = n; op = Store number off bytes; reply = Done }) (Store number off bytes) number off true
          (store_mapped ss ds sv sm sl g cpu number off bytes) refl tt got;
    };
    lacks = λ i c n pinned unslotted op got. elim (cases_eq i guest) [
      | inl same ↦
          subst (λ q. Enters w x q (record { cpu = c; k = n; op = op; reply = Fail (NoPage pinned unslotted) }) → IsOutOfPages (guest_at x q).parts pinned unslotted) (sym same)
          (λ entered. subst (λ (q : GuestState). IsOutOfPages q.parts pinned unslotted) (sym here)
          (lacks_page g h _ _ _ _ cpu r (record { cpu = c; k = n; op = op; reply = Fail (NoPage pinned unslotted) }) pinned unslotted cause refl
          (sym (ap (λ (q : GuestState). q.journal) here) ∙ entered))) got
      | inr other ↦
          let same : (guest_at x i).journal ≡ (guest_at w i).journal = ap (λ (q : GuestState). q.journal) (get_or-set_other w.guests guest i h (opening_guest no_plan) other) in
          absurd (one_more (guest_at w i).journal _ (sym same ∙ got))
    ];
    moved = λ is_moved i. elim (cases_eq i guest) [
      | inl same ↦ subst (λ q. ((guest_at x q).journal ≡ (guest_at w q).journal) ⊎ ((entry : Entry) × AnswersUnmap entry × Enters w x q entry)) (sym same)
          (subst (λ (q : GuestState). (q.journal ≡ g.journal) ⊎ ((entry : Entry) × AnswersUnmap entry × (q.journal ≡ g.journal ++ entry ∷ []))) (sym here)
          (unmap_at_most g h cpu (subst (HasEntered g h cpu) is_moved entered)))
      | inr other ↦ inl (ap (λ (q : GuestState). q.journal) (get_or-set_other w.guests guest i h (opening_guest no_plan) other))
    ];
    grows = λ i. elim (cases_eq i guest) [
      | inl same ↦ subst (λ q. (more : List Entry) × ((guest_at x q).journal ≡ (guest_at w q).journal ++ more)) (sym same)
          (subst (λ (q : GuestState). (more : List Entry) × (q.journal ≡ g.journal ++ more)) (sym here) (grown g h cpu r entered))
      | inr other ↦ ([], ap (λ (q : GuestState). q.journal) (get_or-set_other w.guests guest i h (opening_guest no_plan) other) ∙ sym (append-nil _))
    ];
    plan = plan;
    serves = kept.serves;
  }
    where
      g : GuestState
      g = guest_at w guest

      x : WorldState
      x = with_turn w guest h (sv t) (dv e)

      ran : Seen {A = GuestState × Turn} (turn g cpu) (host_view (sv s)) (disk_view (dv d)) (h, r) (host_view (sv t)) (disk_view (dv e))
      ran = seen g cpu s d h r t e run

      here : guest_at x guest ≡ h
      here = get_or-set_same w.guests guest h (opening_guest no_plan) below

      fit : Fit g (host_view (sv s)) (disk_view (dv d))
      fit = rw (is_host, is_disk) (world.fit guest below)

      fit' : Fit h (host_view (sv t)) (disk_view (dv e))
      fit' = Fit-turn g cpu _ _ h r _ _ fit has_cpu ran

      kept : KeepsOthers (served w.host guest) (sv t)
      kept = subst (λ q. KeepsOthers q (sv t)) is_host (run_keeps (turn g cpu) s d (h, r) t e run)

      own : NoWrongDiscard (view_of w guest) (host_view (sv t))
      own = subst (λ (q : HostState). NoWrongDiscard (host_view q) (host_view (sv t))) is_host (Discards-turn g cpu _ _ h r _ _ fit has_cpu ran)

      plan : h.plan ≡ g.plan
      plan = plan-turn g cpu _ _ h r _ _ fit has_cpu ran

      failures : FailuresFit h (host_view (sv t)) (disk_view (dv e))
      failures = Failures-turn g cpu _ _ h r _ _ fit has_cpu ran (rw (is_host, is_disk) (failures_fit w guest world below))

      plans : PlansKept w guest (sv t) (dv e)
      plans = plans_kept ss ds sv dv sm dm (turn g cpu) w guest s d (h, r) t e world below is_host is_disk run

      cause : TurnCause g (host_view (sv s)) (disk_view (dv d)) cpu r h (host_view (sv t)) (disk_view (dv e))
      cause = Causes-turn g cpu _ _ h r _ _ fit has_cpu ran

      entered : HasEntered g h cpu r
      entered = has_entered g h _ _ _ _ cpu r cause

      mine : (entry : Entry) (op : Op) (number off : ℕ) (writes : Bool) → IsMapped ss ds sv sm sl g cpu op number off writes → entry.op ≡ op → IsAnswer entry.reply → Enters w x guest entry
          → WasReached x guest (process_of (guest_at x guest).plan entry.cpu) number off writes
      mine entry op number off writes mapped is_op answer got =
          let journal : h.journal ≡ g.journal ++ entry ∷ [] = sym (ap (λ (q : GuestState). q.journal) here) ∙ got in
          turn_reached w guest cpu s d h r t e op number off writes entry below plan kept.serves (entered_by g h cpu r entry entered journal) is_op answer mapped run journal

      reached : (i : ℕ) (entry : Entry) (op : Op) (number off : ℕ) (writes : Bool) → IsMapped ss ds sv sm sl g cpu op number off writes → entry.op ≡ op → IsAnswer entry.reply → Enters w x i entry
          → WasReached x i (process_of (guest_at x i).plan entry.cpu) number off writes
      reached i entry op number off writes mapped is_op answer got = elim (cases_eq i guest) [
        | inl same ↦ subst (λ q. Enters w x q entry → WasReached x q (process_of (guest_at x q).plan entry.cpu) number off writes) (sym same) (mine entry op number off writes mapped is_op answer) got
        | inr other ↦
            let same : (guest_at x i).journal ≡ (guest_at w i).journal = ap (λ (q : GuestState). q.journal) (get_or-set_other w.guests guest i h (opening_guest no_plan) other) in
            absurd (one_more (guest_at w i).journal entry (sym same ∙ got))
      ]
