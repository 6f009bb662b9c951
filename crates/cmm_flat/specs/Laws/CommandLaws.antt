-- What a plan in range says of its commands, and how the entries of a journal are counted by their replies.
use Rattle.std.proofs.Common.{◌≡◌, ◌+◌, ◌≤◌, arith, ℕ, Bool, List, ◌∷◌, All, Some, slice_get, length, subst}
use Rattle.std.proofs.lemmas.Option.{slice_get_within, get_or_from_slice_get}
use Rattle.std.proofs.lemmas.List.Sums.{sum_by-cons, sum_by-le}
use Rattle.cmm_types.specs.declared.command.Op.{Op}
use Rattle.cmm_types.specs.declared.command.Entry.{Entry}
use Rattle.cmm_types.specs.declared.command.Reply.{Reply}
use Rattle.cmm_types.specs.declared.plan.TheConstants.{MAX_COMMANDS}
use Rattle.cmm_types.specs.declared.plan.CpuPlan.{CpuPlan}
use Rattle.cmm_types.specs.declared.plan.GuestPlan.{GuestPlan}
use Rattle.cmm_types.specs.InRange.{OpInRange, CpuInRange, GuestInRange}
use Rattle.cmm_types.specs.Sums.{one_if}
use Rattle.cmm_flat.specs.Legal.{command_of, all_commands}
use Rattle.cmm_flat.specs.Failures.{replies_of}
use Rattle.cmm_flat.specs.Laws.CountLaws.{commanded}

-- what holds of all elements holds of one
pub element : {X : Type 0} (Holds : X → Type 0) (xs : List X) (k : ℕ) (x : X) → All Holds xs → slice_get xs k ≡ Some x → Holds x
element Holds xs k x each e = subst Holds (get_or_from_slice_get xs k x x e) (each k x (slice_get_within xs k x e))

pub command_in_range : (plan : GuestPlan) (cpu k : ℕ) (op : Op) → GuestInRange plan → command_of plan cpu k ≡ Some op → OpInRange op
command_in_range plan cpu k op range e =
    let at = commanded plan cpu k op e in
    element OpInRange at.its.commands k op (element CpuInRange plan.cpus cpu at.its range.cpus.each at.there).commands at.command

-- 8 processors of at most 10,000 commands
pub all_commands-bound : (plan : GuestPlan) → GuestInRange plan → all_commands plan ≤ 80000
all_commands-bound plan range =
    let each : All (λ cpu. length cpu.commands ≤ MAX_COMMANDS) plan.cpus = λ k d h. (range.cpus.each k d h).few in
    omega (arith, sum_by-le (λ (cpu : CpuPlan). length cpu.commands) MAX_COMMANDS plan.cpus each, range.cpus.few)

-- of an entry and those behind it
pub replies-cons : (kind : Reply → Bool) (entry : Entry) (journal : List Entry) → replies_of kind (entry ∷ journal) ≡ one_if (kind entry.reply) + replies_of kind journal
replies-cons kind entry journal = sum_by-cons (λ (e : Entry). one_if (kind e.reply)) entry journal
