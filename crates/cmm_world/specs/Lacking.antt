-- That a command fails for the want of a page only where its guest has none.
use Rattle.std.specs.Prelude.{◌≡◌, ℕ, ◌+◌, length}
use Rattle.cmm_types.specs.declared.event.Event.{Event}
use Rattle.cmm_types.specs.declared.command.Op.{Op}
use Rattle.cmm_types.specs.declared.command.Reply.TheVariants.{Fail}
use Rattle.cmm_types.specs.declared.command.Cause.TheVariants.{NoPage}
use Rattle.guest_rules.specs.declared.parts.Parts.{Parts}
use Rattle.guest_rules.specs.MakeRoom.{pinned_count}
use Rattle.guest_rules.specs.Stuck.{IsStuck}
use Rattle.cmm_world.specs.WorldState.{WorldState, guest_at}
use Rattle.cmm_world.specs.Run.{world_step}
use Rattle.cmm_world.specs.Reached.{Enters}

-- a guest has no page for a command, nor can it make one free: so many are pinned, and so many are all others
pub record IsOutOfPages (parts : Parts) (pinned unslotted : ℕ) : Type 0 where
  pub stuck : IsStuck parts
  pub pinned_are : pinned ≡ pinned_count parts
  pub all : pinned + unslotted ≡ length parts.pages.infos

-- each command that was entered as failed for the want of a page is of a guest that has none, and tells its two numbers
abbrev pub LacksPages : WorldState → WorldState → Type 0
LacksPages w x =
    (guest cpu k pinned unslotted : ℕ) (op : Op) → Enters w x guest (record { cpu = cpu; k = k; op = op; reply = Fail (NoPage pinned unslotted) })
    → IsOutOfPages (guest_at x guest).parts pinned unslotted

-- so it is after an event
abbrev pub LacksRightly : WorldState → Event → Type 0
LacksRightly w event = LacksPages w (world_step w event).1
