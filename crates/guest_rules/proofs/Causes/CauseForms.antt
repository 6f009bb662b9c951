-- What a turn that moved, or that finished its command, left of the journal and of its processor.
use Rattle.std.specs.Prelude.{◌≡◌, ℕ, Some}
use Rattle.std.proofs.Common.{sym, ap, subst, inl, ◌∙◌}
use Rattle.cmm_types.specs.declared.command.Op.{Op}
use Rattle.cmm_types.specs.declared.command.Op.TheVariants.{Sync, Unmap}
use Rattle.cmm_types.specs.declared.command.Reply.{Reply}
use Rattle.cmm_types.specs.declared.command.Reply.TheVariants.{Fail}
use Rattle.cmm_types.specs.declared.command.Cause.{Cause}
use Rattle.cmm_types.specs.declared.command.Cause.TheVariants.{Disk, Paging, NoPage}
use Rattle.cmm_types.specs.declared.turn.Turn.TheVariants.{Finished}
use Rattle.cmm_flat.specs.Legal.{command_of, CanNeedPage}
use Rattle.cmm_io.specs.DiskView.{DiskView}
use Rattle.cmm_storage.specs.StorageView.{StorageView}
use Rattle.guest_rules.specs.declared.parts.Parts.{Parts}
use Rattle.guest_rules.specs.declared.processor.Phase.{Phase}
use Rattle.guest_rules.specs.declared.processor.Phase.TheVariants.{Fill, Room as AtRoom}
use Rattle.guest_rules.specs.GuestState.{GuestState, processor_at, with_parts, with_phase, entered}
use Rattle.guest_rules.specs.Fit.{Fit}
use Rattle.guest_rules.specs.Cause.{AnswerCause, HasMoved, HasShown, SyncLeads, SyncMoves, ReplyCause}
use Rattle.guest_rules.specs.Answers.{FailCause}
use Rattle.guest_rules.proofs.Cases.TurnCases.{Has}
use Rattle.guest_rules.proofs.Causes.Processors.{processor-with_phase, processor-entered}

-- the tables changed
pub moved_parts : (g : GuestState) (cpu : ℕ) (op : Op) (parts : Parts) (h : GuestState) → Has g cpu op → h ≡ with_parts g parts → HasMoved g cpu h
moved_parts g cpu op parts h has e = record {
  journal = inl (ap (λ q. q.journal) e);
  place = ap (λ q. (processor_at q cpu).place) e;
  command = (op, has.command);
}

-- the tables and the phase changed
pub moved_phase : (g : GuestState) (cpu : ℕ) (op : Op) (parts : Parts) (phase : Phase) (h : GuestState) → Has g cpu op → h ≡ with_phase (with_parts g parts) cpu phase → HasMoved g cpu h
unfolding with_phase
moved_phase g cpu op parts phase h has e = record {
  journal = inl (ap (λ q. q.journal) e);
  place = ap (λ q. (processor_at q cpu).place) e ∙ ap (λ q. q.place) (processor-with_phase (with_parts g parts) cpu phase has.below);
  command = (op, has.command);
}

-- the reply was entered
pub finished : (g : GuestState) (v w : StorageView) (d e : DiskView) (cpu : ℕ) (op : Op) (parts : Parts) (reply : Reply) (h : GuestState) → Has g cpu op
    → h ≡ entered (with_parts g parts) cpu op reply → ReplyCause g cpu op v d reply w e → HasShown g cpu op reply (entered (with_parts g parts) cpu op reply) w e
    → AnswerCause g v d cpu Finished h w e
unfolding entered
finished g v w d e cpu op parts reply h has eh cause shown = inl (record {
  op = op;
  reply = reply;
  command = has.command;
  entry = ap (λ q. q.journal) eh;
  next = ap (λ q. processor_at q cpu) eh ∙ processor-entered (with_parts g parts) cpu op reply has.below;
  cause = cause;
  shown = rw eh shown;
})

pub fill_cause : (g : GuestState) (v w : StorageView) (d e : DiskView) (cpu : ℕ) (op : Op) (cause : Cause) → FailCause cause v d w e → ReplyCause g cpu op v d (Fail cause) w e
fill_cause g v w d e cpu op Disk why = why
fill_cause g v w d e cpu op Paging why = why
fill_cause g v w d e cpu op (NoPage pinned unslotted) why = absurd why

-- the phase after a turn that changed it
pub phase_after : (g : GuestState) (cpu : ℕ) (op : Op) (parts : Parts) (phase : Phase) (h : GuestState) → Has g cpu op → h ≡ with_phase (with_parts g parts) cpu phase
    → (processor_at h cpu).phase ≡ phase
phase_after g cpu op parts phase h has e = ap (λ q. (processor_at q cpu).phase) e ∙ ap (λ q. q.phase) (processor-with_phase (with_parts g parts) cpu phase has.below)

-- where a sync's turn leads that moved
pub sync_moves : (g : GuestState) (cpu file : ℕ) (h : GuestState) (w : StorageView) (e : DiskView) (phase : Phase) → Has g cpu (Sync file) → (processor_at h cpu).phase ≡ phase
    → SyncLeads g cpu file (processor_at g cpu).phase h phase w e → SyncMoves g cpu h w e
sync_moves g cpu file h w e phase has at leads other command =
    let both : Some (Sync file) ≡ Some (Sync other) = sym has.command ∙ command in
    let files : file ≡ other = cc in
    subst (λ p. SyncLeads g cpu other (processor_at g cpu).phase h p w e) (sym at) (subst (λ n. SyncLeads g cpu n (processor_at g cpu).phase h phase w e) files leads)

-- no other command is a sync
pub others_move : (g : GuestState) (cpu : ℕ) (op : Op) (h : GuestState) (w : StorageView) (e : DiskView) → Has g cpu op → ((file : ℕ) → op ≡ Sync file → ⊥) → SyncMoves g cpu h w e
others_move g cpu op h w e has other file command =
    let both : Some op ≡ Some (Sync file) = sym has.command ∙ command in
    let same : op ≡ Sync file = cc in
    absurd (other file same)

-- a processor has one command
pub one_command : (g : GuestState) (cpu : ℕ) (op other : Op) → Has g cpu op → command_of g.plan cpu (processor_at g cpu).place ≡ Some other → op ≡ other
one_command g cpu op other has command = let both : Some op ≡ Some other = sym has.command ∙ command in cc

-- so one that has a command that needs a page has no other
needing_page : (g : GuestState) (cpu : ℕ) (op needing : Op) → Has g cpu op → command_of g.plan cpu (processor_at g cpu).place ≡ Some needing → CanNeedPage needing → CanNeedPage op
needing_page g cpu op needing has command needs = subst CanNeedPage (sym (one_command g cpu op needing has command)) needs

-- g the guest, v its storage, d its disk, cpu the processor, op its command, page the page
module _ (g : GuestState) (v : StorageView) (d : DiskView) (cpu : ℕ) (op : Op) (page : ℕ) where
  -- as one that fills a page
  pub fills_needing : Fit g v d → Has g cpu op → (processor_at g cpu).phase ≡ Fill page → CanNeedPage op
  fills_needing f has phase = let k = (f.locks.filling cpu page phase).1 in needing_page g cpu op k.op has k.command k.needs

  -- and one that writes a page back to make room
  pages_out_needing : Fit g v d → Has g cpu op → (processor_at g cpu).phase ≡ AtRoom page → CanNeedPage op
  pages_out_needing f has phase = let k = f.locks.paging_out cpu page phase in needing_page g cpu op k.op has k.command k.needs

  -- so neither has a sync
  pub fills_for_other : Fit g v d → Has g cpu op → (processor_at g cpu).phase ≡ Fill page → (file : ℕ) → op ≡ Sync file → ⊥
  fills_for_other f has phase file is = subst CanNeedPage is (fills_needing f has phase)

  pub pages_out_for_other : Fit g v d → Has g cpu op → (processor_at g cpu).phase ≡ AtRoom page → (file : ℕ) → op ≡ Sync file → ⊥
  pages_out_for_other f has phase file is = subst CanNeedPage is (pages_out_needing f has phase)

  -- nor an unmap
  pub fills_no_unmap : Fit g v d → Has g cpu op → (processor_at g cpu).phase ≡ Fill page → (number : ℕ) → op ≡ Unmap number → ⊥
  fills_no_unmap f has phase number is = subst CanNeedPage is (fills_needing f has phase)

  pub pages_out_no_unmap : Fit g v d → Has g cpu op → (processor_at g cpu).phase ≡ AtRoom page → (number : ℕ) → op ≡ Unmap number → ⊥
  pages_out_no_unmap f has phase number is = subst CanNeedPage is (pages_out_needing f has phase)
