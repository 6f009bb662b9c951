-- Fit where a processor that has no page locked goes on: to another phase, or past a page of a sync.
use Rattle.std.proofs.Common.{◌≡◌, ◌<◌, ◌+◌, ℕ, nat_lt, if◌then◌else◌, Some, None, length, set, refl, ap, sym, ◌∙◌, subst, length-set, get_or-set_same, set-set}
use Rattle.std.proofs.lemmas.Bool.{lt-ltb}
use Rattle.cmm_types.specs.declared.command.Op.{Op}
use Rattle.cmm_types.specs.declared.command.Op.TheVariants.{Sync}
use Rattle.cmm_types.specs.declared.command.Reply.{Reply}
use Rattle.cmm_types.specs.declared.command.Reply.TheVariants.{Done}
use Rattle.cmm_types.specs.declared.command.FlatRefusal.TheVariants.{OutOfRange}
use Rattle.cmm_types.specs.declared.turn.Turn.{Turn}
use Rattle.cmm_io.specs.DiskView.{DiskView}
use Rattle.cmm_flat.specs.State.{FlatState}
use Rattle.cmm_flat.specs.Legal.{process_of, flat_of}
use Rattle.cmm_flat.specs.Laws.StepLaws.{step_done}
use Rattle.cmm_storage.specs.StorageView.{StorageView}
use Rattle.guest_rules.specs.declared.parts.Parts.{Parts}
use Rattle.guest_rules.specs.declared.processor.Phase.{Phase}
use Rattle.guest_rules.specs.declared.processor.Phase.TheVariants.{Start, Sync as AtSync}
use Rattle.guest_rules.specs.declared.processor.Processor.{Processor}
use Rattle.guest_rules.specs.GuestState.{GuestState, first_processor, processor_at, with_parts, with_phase, entered}
use Rattle.guest_rules.specs.Turns.{file_pages}
use Rattle.guest_rules.specs.Fit.{IsSyncing, HasLocked, FitAt, Fit}
use Rattle.guest_rules.proofs.Cases.TurnCases.{Has}
use Rattle.guest_rules.proofs.Kept.Changes.{PhaseChange, teardown_of, change-with_phase}
use Rattle.guest_rules.proofs.Kept.LocksKept.{LocksNone, PhaseFits, LocksFit-passed}
use Rattle.guest_rules.proofs.Kept.TeardownsKept.{sync-tears_nothing, keeps_tearing-phase, keeps_torn-same, untagged-same, TeardownsFit-kept}
use Rattle.guest_rules.proofs.Kept.TagsKept.{tags_stand}
use Rattle.guest_rules.proofs.Fit.FitOthers.{FlatFit-others, FitAt-others}
use Rattle.guest_rules.proofs.Fit.FitChanged.{JournalFit-phase}
use Rattle.guest_rules.proofs.Fit.Replies.{Fit-stepped, refused-same}
use Rattle.guest_rules.proofs.Cases.Passed.{HasPassed, goes_on, is_done}

-- an entry leaves its processor in phase Start, whatever it did before
pub entered-start : (g : GuestState) (cpu : ℕ) (op : Op) (reply : Reply) → cpu < length g.processors → entered (with_phase g cpu Start) cpu op reply ≡ entered g cpu op reply
unfolding entered with_phase
entered-start g cpu op reply below = rw (get_or-set_same g.processors cpu (record { place = (processor_at g cpu).place; phase = Start }) first_processor below, set-set) refl

pub start-has : (g : GuestState) (cpu : ℕ) (op : Op) → Has g cpu op → Has (with_phase g cpu Start) cpu op
unfolding with_phase
start-has g cpu op has = record {
  below = rw length-set has.below;
  command = rw (get_or-set_same g.processors cpu (record { place = (processor_at g cpu).place; phase = Start }) first_processor has.below) has.command;
}

pub start-phase : (g : GuestState) (cpu : ℕ) → cpu < length g.processors → (processor_at (with_phase g cpu Start) cpu).phase ≡ Start
unfolding with_phase
start-phase g cpu below = ap (λ (p : Processor). p.phase) (get_or-set_same g.processors cpu (record { place = (processor_at g cpu).place; phase = Start }) first_processor below)

-- a processor that has no page locked is in another phase, in which it has none, and tears down what it did
pub FitAt-phase : (state : FlatState) (g : GuestState) (v : StorageView) (d : DiskView) (cpu : ℕ) (phase : Phase) → FitAt state g v d → cpu < length g.processors
    → ((i : ℕ) → HasLocked g cpu i → ⊥) → LocksNone phase → teardown_of phase ≡ teardown_of (processor_at g cpu).phase
    → PhaseFits (with_phase g cpu phase) cpu phase → FitAt state (with_phase g cpu phase) v d
unfolding with_phase
FitAt-phase state g v d cpu phase f below own none teardown now =
    FitAt-others state state g v d g.parts.maps g.journal (set g.processors cpu (record { place = (processor_at g cpu).place; phase = phase })) f
    (FlatFit-others state g v d g.parts.maps g.journal (set g.processors cpu (record { place = (processor_at g cpu).place; phase = phase })) f.flat (λ slot live. refl)) change.size (record {
      slots = f.slots;
      entries = f.entries;
      pins = f.pins;
      tags = tags_stand g.parts v f.tags;
      locks = LocksFit-passed g (with_phase g cpu phase) cpu phase f.locks refl refl refl change.size (ap (λ (p : Processor). p.phase) change.here) change.others own none now;
      teardowns = TeardownsFit-kept state g (with_phase g cpu phase) f.slots f.teardowns (keeps_tearing-phase g (with_phase g cpu phase) cpu phase refl change)
          (keeps_torn-same g.parts.maps g.parts.maps refl) (untagged-same g.parts g.parts.cache refl);
      journal = JournalFit-phase g (with_phase g cpu phase) cpu phase f.journal f.teardowns refl refl change (keeps_torn-same g.parts.maps g.parts.maps refl);
    })
  where
    change : PhaseChange g.processors (set g.processors cpu (record { place = (processor_at g cpu).place; phase = phase })) cpu phase
    change = change-with_phase g.processors cpu phase below teardown

-- a sync stays where it is in its file, whatever phase and tables are set; it may also be at another page of the file
pub syncing-at : (g : GuestState) (cpu file index next : ℕ) (after : Parts) (phase : Phase) → IsSyncing g cpu file index → next < file_pages g.plan.files file
    → IsSyncing (with_phase (with_parts g after) cpu phase) cpu file next
unfolding with_phase
syncing-at g cpu file index next after phase k within = record {
  cpu_below = rw length-set k.cpu_below;
  command = rw (get_or-set_same g.processors cpu (record { place = (processor_at g cpu).place; phase = phase }) first_processor k.cpu_below) k.command;
  file_below = k.file_below;
  within = within;
}

accepted_file : (file files : ℕ) → file < files → (if nat_lt file files then None else Some OutOfRange) ≡ None
accepted_file file files below = rw (lt-ltb file files below) refl

-- a sync that has no page locked passes a page of its file
pub Fit-passed : (g : GuestState) (v : StorageView) (d : DiskView) (h : GuestState) (cpu file index : ℕ) (t : Turn) → Fit g v d → IsSyncing g cpu file index → ((i : ℕ) → HasLocked g cpu i → ⊥)
    → HasPassed g cpu file index g.parts h t → Fit h v d
unfolding with_phase
Fit-passed g v d h cpu file index t f k own (goes_on more eh et) =
    rw eh (FitAt-phase (flat_of g.plan g.journal) g v d cpu (AtSync (index + 1)) f k.cpu_below own tt (sym (sync-tears_nothing g cpu file f.teardowns k.command))
    (file, syncing-at g cpu file index (index + 1) g.parts (AtSync (index + 1)) k more))
Fit-passed g v d h cpu file index t f k own (is_done last eh et) =
    rw eh (subst (λ (q : GuestState). Fit q v d) (entered-start g cpu (Sync file) Done k.cpu_below)
    (Fit-stepped (with_phase g cpu Start) v d cpu (Sync file) Done flat
    (FitAt-phase flat g v d cpu Start f k.cpu_below own tt (sym (sync-tears_nothing g cpu file f.teardowns k.command)) tt) (start-has g cpu (Sync file) has) (start-phase g cpu k.cpu_below)
    (step_done flat (process_of g.plan cpu) (Sync file) (refused-same g v d cpu (Sync file) f has ∙ accepted_file file (length g.plan.files) k.file_below))))
  where
    flat : FlatState
    flat = flat_of g.plan g.journal

    has : Has g cpu (Sync file)
    has = record { below = k.cpu_below; command = k.command }
