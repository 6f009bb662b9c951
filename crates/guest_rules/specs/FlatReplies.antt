-- Journals in which no command failed, but for want of a page.
use Rattle.std.specs.Prelude.{◌≡◌, ◌⊎◌, ℕ, List, [], ◌∷◌}
use Rattle.cmm_types.specs.declared.plan.GuestPlan.{GuestPlan}
use Rattle.cmm_types.specs.declared.command.Op.{Op}
use Rattle.cmm_types.specs.declared.command.Entry.{Entry}
use Rattle.cmm_types.specs.declared.command.Reply.{Reply}
use Rattle.cmm_types.specs.declared.command.Reply.TheVariants.{Done, Bytes, Refused, Fail}
use Rattle.cmm_types.specs.declared.command.Cause.TheVariants.{Disk, Paging, NoPage}
use Rattle.cmm_flat.specs.State.{FlatState}
use Rattle.cmm_flat.specs.Flat.{flat_step}
use Rattle.cmm_flat.specs.Legal.{Walk, start_of, after, process_of}

-- the reply `fail nopage`
abbrev pub IsNoPage : Reply → Type 0
IsNoPage Done = ⊥
IsNoPage (Bytes bytes) = ⊥
IsNoPage (Refused refusal) = ⊥
IsNoPage (Fail Disk) = ⊥
IsNoPage (Fail Paging) = ⊥
IsNoPage (Fail (NoPage pinned unslotted)) = Unit {0}

-- the reply that the flat machine gives in this state, or a failure for want of a page
abbrev pub IsFlatReply : FlatState → (process : ℕ) → Op → Reply → Type 0
IsFlatReply flat process op reply = (reply ≡ (flat_step flat process op).1) ⊎ IsNoPage reply

-- each entry has such a reply, in the state that the entries before it lead to
abbrev pub HasFlatRepliesFrom : GuestPlan → Walk → List Entry → Type 0
HasFlatRepliesFrom plan walk [] = Unit {0}
HasFlatRepliesFrom plan walk (entry ∷ entries) =
    IsFlatReply walk.flat (process_of plan entry.cpu) entry.op entry.reply × HasFlatRepliesFrom plan (after plan walk entry) entries

abbrev pub HasFlatReplies : GuestPlan → List Entry → Type 0
HasFlatReplies plan journal = HasFlatRepliesFrom plan (start_of plan) journal
