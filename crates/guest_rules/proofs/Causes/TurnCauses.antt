-- Every turn answers for a cause, and enters the flat machine's refusal where there is one, or that there is no page for its command.
use Rattle.std.specs.Prelude.{◌≡◌, ◌<◌, ◌-◌, ℕ, length, Some}
use Rattle.std.proofs.Common.{sym, ap, subst, ◌∙◌}
use Rattle.cmm_types.specs.declared.command.Op.{Op}
use Rattle.cmm_types.specs.declared.command.Reply.TheVariants.{Refused, Fail}
use Rattle.cmm_types.specs.declared.command.Cause.TheVariants.{NoPage}
use Rattle.cmm_types.specs.declared.command.FlatRefusal.{FlatRefusal}
use Rattle.cmm_types.specs.declared.turn.Turn.{Turn}
use Rattle.cmm_types.specs.declared.turn.Turn.TheVariants.{Finished}
use Rattle.cmm_flat.specs.Legal.{process_of}
use Rattle.cmm_io.specs.DiskView.{DiskView}
use Rattle.cmm_storage.specs.StorageView.{StorageView}
use Rattle.cmm_storage.specs.Program.{Program, done}
use Rattle.cmm_storage.specs.Views.{Seen}
use Rattle.guest_rules.specs.GuestState.{GuestState, entered}
use Rattle.guest_rules.specs.MakeRoom.{pinned_count}
use Rattle.guest_rules.specs.Turns.{turn, turn_on, turn_in, start_turn, start_refused, refusal_in}
use Rattle.guest_rules.specs.Fit.{Fit}
use Rattle.guest_rules.specs.Cause.{TurnCause, EntersRefusal, EntersNoPage, IsRefused}
use Rattle.guest_rules.proofs.Cases.TurnCases.{TurnCase}
use Rattle.guest_rules.proofs.Fit.Replies.{refused-same}
use Rattle.guest_rules.proofs.Causes.Causes.{answer_causes}
use Rattle.guest_rules.proofs.Causes.NoPage.{lacking}

-- the turn of a processor whose command is refused enters the refusal, and does no more
refusing : (g : GuestState) (v : StorageView) (d : DiskView) (cpu : ℕ) (op : Op) (refusal : FlatRefusal) → Fit g v d → cpu < length g.processors → IsRefused g cpu op refusal
    → ◌≡◌ {A = Program (GuestState × Turn)} (turn g cpu) (done (entered g cpu op (Refused refusal), Finished))
unfolding turn start_turn
refusing g v d cpu op refusal f below k =
    let tables : refusal_in g (process_of g.plan cpu) op ≡ Some refusal = sym (refused-same g v d cpu op f (record { below = below; command = k.command })) ∙ k.refused in
    ap (turn_on g cpu) k.command ∙ ap (turn_in g cpu op) k.start ∙ ap (start_refused g cpu op) tables

enters_refusal : (g : GuestState) (v w : StorageView) (d e : DiskView) (cpu : ℕ) (h : GuestState) (t : Turn) → Fit g v d → cpu < length g.processors
    → Seen {A = GuestState × Turn} (turn g cpu) v d (h, t) w e → EntersRefusal g v d cpu t h w e
enters_refusal g v w d e cpu h t f below run op refusal k =
    let ended : Seen {A = GuestState × Turn} (done (entered g cpu op (Refused refusal), Finished)) v d (h, t) w e =
    subst (λ p. Seen {A = GuestState × Turn} p v d (h, t) w e) (refusing g v d cpu op refusal f below k) run in
    (ap (λ q. q.1) ended.0, ap (λ q. q.0) ended.0, ended.1, ended.2)

enters_no_page : (g : GuestState) (v w : StorageView) (d e : DiskView) (cpu : ℕ) (h : GuestState) (t : Turn) → Fit g v d → cpu < length g.processors
    → Seen {A = GuestState × Turn} (turn g cpu) v d (h, t) w e → EntersNoPage g v d cpu t h w e
enters_no_page g v w d e cpu h t f below run op accepted needs stuck =
    let ended : Seen {A = GuestState × Turn} (done (entered g cpu op (Fail (NoPage (pinned_count g.parts) (length g.parts.pages.infos - pinned_count g.parts))), Finished)) v d (h, t) w e =
    subst (λ p. Seen {A = GuestState × Turn} p v d (h, t) w e) (lacking g v d cpu op f below accepted needs stuck) run in
    (ap (λ q. q.1) ended.0, ap (λ q. q.0) ended.0, ended.1, ended.2)

pub turn_causes : (g : GuestState) (v w : StorageView) (d e : DiskView) (cpu : ℕ) (h : GuestState) (t : Turn) → Fit g v d → cpu < length g.processors
    → Seen {A = GuestState × Turn} (turn g cpu) v d (h, t) w e → TurnCase g cpu v d h t w e → TurnCause g v d cpu t h w e
turn_causes g v w d e cpu h t f below run case = record {
  answer = answer_causes g v w d e cpu h t f case;
  refuses = enters_refusal g v w d e cpu h t f below run;
  lacks = enters_no_page g v w d e cpu h t f below run;
}
