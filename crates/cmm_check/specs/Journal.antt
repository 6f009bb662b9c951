-- Which line fits where a guest's journal is, and where it leads.
use Rattle.std.specs.Prelude.{ℕ, ◌+◌, ◌-◌, ◌==◌, ◌&&◌, ◌||◌, Bool, true, false, nat_lt, nat_le, List, Option, Some, None, is_none, sum_by, refl}
use Rattle.std.specs.Coded.{Coded, code_by, coded×, coded_list, coded_ℕ}
use Rattle.std.specs.Str.{bytes_eq}
use Rattle.cmm_types.specs.declared.plan.GuestPlan.{GuestPlan}
use Rattle.cmm_types.specs.declared.command.Op.{Op}
use Rattle.cmm_types.specs.declared.command.Op.TheVariants.{Read, Write, Sync, MapFile, MapAnon, Unmap, Load, Store, Pin, Unpin}
use Rattle.cmm_types.specs.declared.command.Cause.{Cause}
use Rattle.cmm_types.specs.declared.command.Cause.TheVariants.{Disk, Paging, NoPage}
use Rattle.cmm_types.specs.declared.command.Reply.{Reply}
use Rattle.cmm_types.specs.declared.command.Reply.TheVariants.{Done, Bytes, Refused, Fail}
use Rattle.cmm_types.specs.declared.command.Entry.{Entry}
use Rattle.cmm_io.specs.Counted.{distinct}
use Rattle.cmm_flat.specs.State.{FlatState, coded_state}
use Rattle.cmm_flat.specs.Flat.{refusal_of, flat_step}
use Rattle.cmm_flat.specs.Legal.{Walk, Progress, start_of, progress_of, command_of, process_of, over_live, pinned_pages, anonymous_pages, after}
use Rattle.cmm_report.specs.Texts.{reply_text}
use Rattle.cmm_check.specs.Reading.{if_read, given}
use Rattle.cmm_check.specs.Entries.{cause_of, entry_head}

-- where the lines of a guest's journal have led, and how many more failures of its disk and of its pager may come
pub record LinesWalked : Type 0 where
  pub walk : Walk
  pub disk : ℕ
  pub paging : ℕ

abbrev pub coded_progress : Coded Progress
coded_progress = code_by (ℕ × ℕ) (coded× coded_ℕ coded_ℕ) (λ p. (p.next, p.ended)) (λ p. record { next = p.0; ended = p.1 }) (λ _. refl)

abbrev pub coded_lines_walked : Coded LinesWalked
coded_lines_walked =
    code_by (FlatState × (List Progress × (ℕ × ℕ))) (coded× coded_state (coded× (coded_list coded_progress) (coded× coded_ℕ coded_ℕ)))
    (λ s. (s.walk.flat, (s.walk.cpus, (s.disk, s.paging))))
    (λ p. record { walk = record { flat = p.0; cpus = p.1.0 }; disk = p.1.1.0; paging = p.1.1.1 })
    (λ _. refl)

-- before the first line
abbrev pub no_lines_walked : GuestPlan → LinesWalked
no_lines_walked plan = record { walk = start_of plan; disk = distinct plan.disk_fail; paging = distinct plan.pager_fail }

-- a command that may fail
abbrev pub can_fail : Op → Bool
can_fail (Read file off len) = true
can_fail (Write file off bytes) = true
can_fail (Sync file) = true
can_fail (MapFile number file first count writable) = false
can_fail (MapAnon number count) = false
can_fail (Unmap number) = false
can_fail (Load number off len) = true
can_fail (Store number off bytes) = true
can_fail (Pin number page) = true
can_fail (Unpin number page) = false

-- a command that may need a free page; a sync never does
abbrev pub can_need_page : Op → Bool
can_need_page (Read file off len) = true
can_need_page (Write file off bytes) = true
can_need_page (Sync file) = false
can_need_page (MapFile number file first count writable) = false
can_need_page (MapAnon number count) = false
can_need_page (Unmap number) = false
can_need_page (Load number off len) = true
can_need_page (Store number off bytes) = true
can_need_page (Pin number page) = true
can_need_page (Unpin number page) = false

-- each page of the guest is pinned, or holds anonymous bytes for which there is no swap slot
abbrev pub has_no_page : GuestPlan → Walk → ℕ → ℕ → Bool
has_no_page plan walk pinned unslotted =
    (pinned + unslotted == plan.pages)
    && nat_le pinned (over_live pinned_pages walk.flat)
    && (unslotted == 0 || nat_le (unslotted + plan.swap) (over_live anonymous_pages walk.flat + sum_by (λ cpu. cpu.ended) walk.cpus))

-- a failure that may come here: by its command, and within what the plan lets fail
abbrev pub may_fail : GuestPlan → LinesWalked → ℕ → Op → Cause → Bool
may_fail plan walked process op Disk = can_fail op && nat_lt 0 walked.disk
may_fail plan walked process op Paging = can_fail op && nat_lt 0 walked.paging
may_fail plan walked process op (NoPage pinned unslotted) =
    can_need_page op && is_none (refusal_of walked.walk.flat process op) && has_no_page plan walked.walk pinned unslotted

-- the process of a processor and its command of this number, where that is the processor's next
unfoldable pub entry_due : GuestPlan → Walk → ℕ → ℕ → Option Op
entry_due plan walk cpu k =
    if_read (command_of plan cpu k) λ op.
    given ((progress_of walk cpu).next == k) op

-- the flat machine's reply, where this is its text
abbrev pub flat_reply : Walk → ℕ → Op → List ℕ → Option Reply
flat_reply walk process op text = let reply = (flat_step walk.flat process op).1 in given (bytes_eq text (reply_text reply)) reply

abbrev pub reply_with : GuestPlan → LinesWalked → ℕ → Op → List ℕ → Option Cause → Option Reply
reply_with plan walked process op text (Some cause) = given (may_fail plan walked process op cause) (Fail cause)
reply_with plan walked process op text None = flat_reply walked.walk process op text

-- the reply that a text says, where it may come here
abbrev pub reply_due : GuestPlan → LinesWalked → ℕ → Op → List ℕ → Option Reply
reply_due plan walked process op text = reply_with plan walked process op text (cause_of text)

-- how many more failures of the disk may come after a reply
abbrev pub disk_left : ℕ → Reply → ℕ
disk_left n Done = n
disk_left n (Bytes bytes) = n
disk_left n (Refused refusal) = n
disk_left n (Fail Disk) = n - 1
disk_left n (Fail Paging) = n
disk_left n (Fail (NoPage pinned unslotted)) = n

-- and how many more of the pager
abbrev pub paging_left : ℕ → Reply → ℕ
paging_left n Done = n
paging_left n (Bytes bytes) = n
paging_left n (Refused refusal) = n
paging_left n (Fail Disk) = n
paging_left n (Fail Paging) = n - 1
paging_left n (Fail (NoPage pinned unslotted)) = n

-- where an entry leads
abbrev pub after_entry : GuestPlan → LinesWalked → Entry → LinesWalked
after_entry plan walked entry = record { walk = after plan walked.walk entry; disk = disk_left walked.disk entry.reply; paging = paging_left walked.paging entry.reply }

abbrev pub journal_entry : ℕ → ℕ → Op → Reply → Entry
journal_entry cpu k op reply = record { cpu = cpu; k = k; op = op; reply = reply }

-- where the flat machine's reply leads, where this is its text
abbrev pub replied : GuestPlan → LinesWalked → ℕ → ℕ → Op → List ℕ → Option LinesWalked
replied plan walked cpu k op text =
    if_read (flat_reply walked.walk (process_of plan cpu) op text) λ reply.
    Some (after_entry plan walked (journal_entry cpu k op reply))

-- the anonymous pages that an entry of this reply ends, where an unmap would end so many
abbrev pub ended_by : Reply → ℕ → ℕ
ended_by Done pages = pages
ended_by (Bytes bytes) pages = 0
ended_by (Refused refusal) pages = 0
ended_by (Fail cause) pages = 0

-- where the line of an entry leads; nothing where it doesn't fit
unfoldable pub entry_fits : GuestPlan → LinesWalked → List ℕ → Option LinesWalked
entry_fits plan walked line =
    if_read (entry_head line) λ head.
    if_read (entry_due plan walked.walk head.0 head.1.0) λ op.
    if_read (reply_due plan walked (process_of plan head.0) op head.1.1) λ reply.
    Some (after_entry plan walked (journal_entry head.0 head.1.0 op reply))
