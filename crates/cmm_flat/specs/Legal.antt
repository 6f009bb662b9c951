-- A legal journal: one history of the flat machine, each processor's commands once and in order.
use Rattle.std.specs.Prelude.{ℕ, ◌+◌, ◌≤◌, ◌≡◌, ◌⊎◌, List, [], ◌∷◌, map, length, get_or, set, slice_get, sum_by, count_by, Option, Some, None}
use Rattle.std.specs.FinMap as finite
use Rattle.cmm_types.specs.declared.plan.CpuPlan.{CpuPlan}
use Rattle.cmm_types.specs.declared.plan.GuestPlan.{GuestPlan}
use Rattle.cmm_types.specs.declared.command.Op.{Op}
use Rattle.cmm_types.specs.declared.command.Op.TheVariants.{Read, Write, Sync, MapFile, MapAnon, Unmap, Load, Store, Pin, Unpin}
use Rattle.cmm_types.specs.declared.command.Reply.{Reply}
use Rattle.cmm_types.specs.declared.command.Reply.TheVariants.{Done, Bytes, Refused, Fail}
use Rattle.cmm_types.specs.declared.command.Cause.TheVariants.{Disk, Paging, NoPage}
use Rattle.cmm_types.specs.declared.command.Entry.{Entry}
use Rattle.cmm_flat.specs.declared.mapping.MappingKey.{MappingKey}
use Rattle.cmm_flat.specs.declared.mapping.Mapping.{Mapping}
use Rattle.cmm_flat.specs.declared.mapping.Shown.{Shown}
use Rattle.cmm_flat.specs.declared.mapping.Shown.TheVariants.{OfFile, Anonymous}
use Rattle.cmm_flat.specs.State.{FlatState, opening, mapping_at}
use Rattle.cmm_flat.specs.Flat.{refusal_of, flat_step}

-- the command with this number of this processor
abbrev pub command_of : GuestPlan → ℕ → ℕ → Option Op
command_of plan cpu k = of (slice_get plan.cpus cpu)
  where
    of : Option CpuPlan → Option Op
    of None = None
    of (Some its) = slice_get its.commands k

-- how many commands all processors have
abbrev pub all_commands : GuestPlan → ℕ
all_commands plan = sum_by (λ cpu. length cpu.commands) plan.cpus

-- the process of a processor
abbrev pub process_of : GuestPlan → ℕ → ℕ
process_of plan cpu = of (slice_get plan.cpus cpu)
  where
    of : Option CpuPlan → ℕ
    of None = 0
    of (Some its) = its.process

-- where a processor is: the number of its next entry, and how many anonymous pages its last entry ended by an unmap
pub record Progress : Type 0 where
  pub next : ℕ
  pub ended : ℕ

-- what is carried along a journal: the flat state, and where each processor is
pub record Walk : Type 0 where
  pub flat : FlatState
  pub cpus : List Progress

abbrev pub at_start : Progress
at_start = record { next = 0; ended = 0 }

abbrev pub start_of : GuestPlan → Walk
start_of plan = record { flat = opening plan.files; cpus = map (λ cpu. at_start) plan.cpus }

abbrev pub progress_of : Walk → ℕ → Progress
progress_of walk cpu = get_or walk.cpus cpu at_start

-- the pages of an anonymous mapping; none of another
abbrev pub anonymous_pages : Mapping → ℕ
anonymous_pages mapping = of mapping.shown
  where
    of : Shown → ℕ
    of (OfFile file first writable) = 0
    of (Anonymous bytes) = length mapping.pins

abbrev pub pinned_pages : Mapping → ℕ
pinned_pages mapping = count_by (λ pin. pin) mapping.pins

-- the sum of a number over mappings with their keys
abbrev pub sum_over : (MappingKey × Mapping → ℕ) → List (MappingKey × Mapping) → ℕ
sum_over number [] = 0
sum_over number (mapping ∷ mappings) = number mapping + sum_over number mappings

-- the sum of a number over the live mappings
abbrev pub over_live : (Mapping → ℕ) → FlatState → ℕ
over_live number flat = sum_over (λ live. number live.1) (finite.entries flat.mappings)

-- the anonymous pages that an entry ends: those of the mapping that an unmap ends
abbrev pub pages_ended : FlatState → ℕ → Op → Reply → ℕ
pages_ended flat process (Read file off len) reply = 0
pages_ended flat process (Write file off bytes) reply = 0
pages_ended flat process (Sync file) reply = 0
pages_ended flat process (MapFile number file first count writable) reply = 0
pages_ended flat process (MapAnon number count) reply = 0
pages_ended flat process (Unmap number) Done = of (mapping_at flat process number)
  where
    of : Option Mapping → ℕ
    of None = 0
    of (Some mapping) = anonymous_pages mapping
pages_ended flat process (Unmap number) (Bytes bytes) = 0
pages_ended flat process (Unmap number) (Refused refusal) = 0
pages_ended flat process (Unmap number) (Fail cause) = 0
pages_ended flat process (Load number off len) reply = 0
pages_ended flat process (Store number off bytes) reply = 0
pages_ended flat process (Pin number page) reply = 0
pages_ended flat process (Unpin number page) reply = 0

-- a failure leaves the state
abbrev pub flat_after : FlatState → ℕ → Op → Reply → FlatState
flat_after flat process op (Fail cause) = flat
flat_after flat process op Done = (flat_step flat process op).0
flat_after flat process op (Bytes bytes) = (flat_step flat process op).0
flat_after flat process op (Refused refusal) = (flat_step flat process op).0

-- the walk after an entry
abbrev pub after : GuestPlan → Walk → Entry → Walk
after plan walk entry =
    let process = process_of plan entry.cpu in
    record {
      flat = flat_after walk.flat process entry.op entry.reply;
      cpus = set walk.cpus entry.cpu (record { next = (progress_of walk entry.cpu).next + 1; ended = pages_ended walk.flat process entry.op entry.reply });
    }

-- a command that may fail
abbrev pub CanFail : Op → Type 0
CanFail (Read file off len) = Unit {0}
CanFail (Write file off bytes) = Unit {0}
CanFail (Sync file) = Unit {0}
CanFail (MapFile number file first count writable) = ⊥
CanFail (MapAnon number count) = ⊥
CanFail (Unmap number) = ⊥
CanFail (Load number off len) = Unit {0}
CanFail (Store number off bytes) = Unit {0}
CanFail (Pin number page) = Unit {0}
CanFail (Unpin number page) = ⊥

-- a command that may need a free page: it reads, writes, loads, stores or pins. One that unpins doesn't, since its page is there
abbrev pub CanNeedPage : Op → Type 0
CanNeedPage (Read file off len) = Unit {0}
CanNeedPage (Write file off bytes) = Unit {0}
CanNeedPage (Sync file) = ⊥
CanNeedPage (MapFile number file first count writable) = ⊥
CanNeedPage (MapAnon number count) = ⊥
CanNeedPage (Unmap number) = ⊥
CanNeedPage (Load number off len) = Unit {0}
CanNeedPage (Store number off bytes) = Unit {0}
CanNeedPage (Pin number page) = Unit {0}
CanNeedPage (Unpin number page) = ⊥

-- each page of the guest is pinned, or holds anonymous bytes for which there is no swap slot
pub record HasNoPage (plan : GuestPlan) (walk : Walk) (pinned unslotted : ℕ) : Type 0 where
  pub all_pages : pinned + unslotted ≡ plan.pages
  pub as_pinned : pinned ≤ over_live pinned_pages walk.flat
  pub as_anonymous : (unslotted ≡ 0) ⊎ (unslotted + plan.swap ≤ over_live anonymous_pages walk.flat + sum_by (λ cpu. cpu.ended) walk.cpus)

-- the reply is the flat machine's, or a failure that this command may have
abbrev pub IsReply : GuestPlan → Walk → ℕ → Op → Reply → Type 0
IsReply plan walk process op (Fail Disk) = CanFail op
IsReply plan walk process op (Fail Paging) = CanFail op
IsReply plan walk process op (Fail (NoPage pinned unslotted)) =
    CanNeedPage op × (refusal_of walk.flat process op ≡ None) × HasNoPage plan walk pinned unslotted
IsReply plan walk process op Done = Done ≡ (flat_step walk.flat process op).1
IsReply plan walk process op (Bytes bytes) = Bytes bytes ≡ (flat_step walk.flat process op).1
IsReply plan walk process op (Refused refusal) = Refused refusal ≡ (flat_step walk.flat process op).1

-- an entry that may come next
pub record IsNext (plan : GuestPlan) (walk : Walk) (entry : Entry) : Type 0 where
  pub number : entry.k ≡ (progress_of walk entry.cpu).next
  pub command : command_of plan entry.cpu entry.k ≡ Some entry.op
  pub reply : IsReply plan walk (process_of plan entry.cpu) entry.op entry.reply

-- where a journal leads
abbrev pub walk_of : GuestPlan → Walk → List Entry → Walk
walk_of plan walk [] = walk
walk_of plan walk (entry ∷ entries) = walk_of plan (after plan walk entry) entries

abbrev pub LegalFrom : GuestPlan → Walk → List Entry → Type 0
LegalFrom plan walk [] = Unit {0}
LegalFrom plan walk (entry ∷ entries) = IsNext plan walk entry × LegalFrom plan (after plan walk entry) entries

abbrev pub Legal : GuestPlan → List Entry → Type 0
Legal plan journal = LegalFrom plan (start_of plan) journal

-- the state that a journal leads to
abbrev pub flat_of : GuestPlan → List Entry → FlatState
flat_of plan journal = (walk_of plan (start_of plan) journal).flat

-- each processor has an entry for each of its commands
abbrev pub Complete : GuestPlan → List Entry → Type 0
Complete plan journal =
    Legal plan journal × (map (λ cpu. cpu.next) (walk_of plan (start_of plan) journal).cpus ≡ map (λ cpu. length cpu.commands) plan.cpus)
