-- A legal report is accepted.
use Rattle.std.proofs.Common.{◌≡◌, ◌∙◌, ℕ, suc, ◌+◌, ◌^◌, ◌<◌, ◌≤◌, ◌⊎◌, inl, inr, Bool, true, false, List, [], ◌∷◌, ◌++◌, All, Option, Some, None, Result, Ok}
use Rattle.std.proofs.Common.{length, map, get_or, refl, sym, ap, subst, arith, append_assoc}
use Rattle.std.specs.Prelude.{◌&&◌, ◌||◌, ◌==◌, nat_le, nat_lt, is_none, is_some, if◌then◌else◌, codes, decimal, sum_by}
use Rattle.std.specs.List.{AllByRecursion, range_with_len}
use Rattle.std.specs.Str.{bytes_eq}
use Rattle.std.proofs.lemmas.Bool.{and_from, eq-eqb, le-leb, lt-ltb}
use Rattle.std.proofs.lemmas.List.Elements.{All-from_recursion, recursion_from_All}
use Rattle.cmm_types.specs.declared.plan.TheConstants.{MAX_GUESTS}
use Rattle.cmm_types.specs.declared.plan.GuestPlan.{GuestPlan}
use Rattle.cmm_types.specs.declared.plan.Scenario.{Scenario}
use Rattle.cmm_types.specs.declared.event.Answer.{Answer}
use Rattle.cmm_types.specs.declared.event.Answer.TheVariants.{Turn as TurnAnswer, Alone as AloneAnswer, HostDone, HostRefused, HostPaging, Reclaimed}
use Rattle.cmm_types.specs.declared.turn.Turn.TheVariants.{Moved, Finished, Waits, Again, Idle}
use Rattle.cmm_types.specs.declared.command.Op.{Op}
use Rattle.cmm_types.specs.declared.command.Op.TheVariants.{Sync, MapFile, MapAnon, Unmap, Unpin}
use Rattle.cmm_types.specs.declared.command.FlatRefusal.{FlatRefusal}
use Rattle.cmm_types.specs.declared.command.Cause.{Cause}
use Rattle.cmm_types.specs.declared.command.Cause.TheVariants.{Disk, Paging, NoPage}
use Rattle.cmm_types.specs.declared.command.Reply.{Reply}
use Rattle.cmm_types.specs.declared.command.Reply.TheVariants.{Done, Bytes, Refused, Fail}
use Rattle.cmm_types.specs.declared.command.Entry.{Entry}
use Rattle.cmm_types.specs.InRange.{GuestInRange, ScenarioInRange}
use Rattle.cmm_types.specs.Sums.{one_if}
use Rattle.cmm_flat.specs.Flat.{refusal_of, flat_step}
use Rattle.cmm_flat.specs.Failures.{is_disk_failure, is_paging_failure, disk_failures, paging_failures}
use Rattle.cmm_flat.specs.Legal.{Walk, CanFail, CanNeedPage, HasNoPage, IsReply, IsNext, progress_of, command_of, process_of, over_live, pinned_pages, anonymous_pages}
use Rattle.cmm_flat.specs.Legal.{LegalFrom, Legal, Complete, all_commands, after, start_of}
use Rattle.cmm_flat.specs.Laws.CountLaws.{legal-most, complete-all}
use Rattle.cmm_flat.specs.Laws.CommandLaws.{all_commands-bound, replies-cons}
use Rattle.cmm_report.specs.Texts.{answer_text, cause_text, reply_text}
use Rattle.cmm_report.specs.Lines.{line, head_line, event_line, guest_line, entry_line, end_line}
use Rattle.cmm_report.specs.Report.{GuestReport, events_text, journal_text, guest_text, guests_text}
use Rattle.cmm_report.specs.JournalLines.{ReplyFits, EntryFits, JournalFits}
use Rattle.cmm_report.proofs.Splits.{IsFree, IsFree-decimal}
use Rattle.cmm_report.proofs.JournalLaws.{unended, IsFree-unended}
use Rattle.cmm_report.proofs.ReportLaws.{head_text, event_text, free_head, free_event, free_guest, joined_head}
use Rattle.cmm_scenario.specs.Outcome.{◌>>=◌}
use Rattle.cmm_check.specs.declared.verdict.Verdict.TheVariants.{Accepted}
use Rattle.cmm_check.specs.Reading.{given, cut, without_front}
use Rattle.cmm_check.specs.Entries.{cause_of, no_page_of, entry_head}
use Rattle.cmm_check.specs.Answers.{AnswerFits, IsAgain, answer_of, event_head}
use Rattle.cmm_check.specs.Heads.{is_run_of, is_answer, event_fits, counts_of, guest_counts, guest_head, are_entries, entries_told, end_of}
use Rattle.cmm_check.specs.Journal.{LinesWalked, no_lines_walked, can_fail, can_need_page, has_no_page, may_fail, entry_due, flat_reply, reply_with, reply_due, disk_left}
use Rattle.cmm_check.specs.Journal.{paging_left, after_entry, entry_fits}
use Rattle.cmm_check.specs.Verdict.{with_line, with_cut, line_that, events_fit, entries_fit, guest_fits, guests_fit, end_fits, schedule_fits, report_fits, verdict_with, verdict_of}
use Rattle.cmm_check.specs.Accepted.{IsLegalGuest, AreLegalGuests, LegalReport}
use Rattle.cmm_check.proofs.ReadingLaws.{then_some, given_true, bytes_same, cut-append, without_front-append, long_of-decimal, numeral_of-decimal}
use Rattle.cmm_check.proofs.EntryLaws.{cause_of-text, plain_refusal, plain_bytes, entry_head-text}
use Rattle.cmm_check.proofs.AnswerLaws.{answer_of-text, event_head-text}
use Rattle.cmm_check.proofs.Plans.{processor_there, number_small}
use Rattle.cmm_check.proofs.AcceptedLaws.{guest_parts, guest_words}

-- ---- replies

able : (op : Op) → CanFail op → can_fail op ≡ true
able (MapFile number file first count writable) can = absurd can
able (MapAnon number count) can = absurd can
able (Unmap number) can = absurd can
able (Unpin number page) can = absurd can
able op can = refl

needy : (op : Op) → CanNeedPage op → can_need_page op ≡ true
needy (Sync file) can = absurd can
needy (MapFile number file first count writable) can = absurd can
needy (MapAnon number count) can = absurd can
needy (Unmap number) can = absurd can
needy (Unpin number page) can = absurd can
needy op can = refl

one_of : (a b : Bool) → ((a ≡ true) ⊎ (b ≡ true)) → (a || b) ≡ true
one_of true b holds = refl
one_of false b (inl bad) = cc bad
one_of false b (inr holds) = holds

no_page : (plan : GuestPlan) (walk : Walk) (pinned unslotted : ℕ) → HasNoPage plan walk pinned unslotted → has_no_page plan walk pinned unslotted ≡ true
no_page plan walk pinned unslotted has =
    let live = over_live anonymous_pages walk.flat + sum_by (λ cpu. cpu.ended) walk.cpus in
    let anonymous : (unslotted == 0 || nat_le (unslotted + plan.swap) live) ≡ true = elim has.as_anonymous [
      | inl none ↦ one_of (unslotted == 0) (nat_le (unslotted + plan.swap) live) (inl (eq-eqb unslotted 0 none))
      | inr many ↦ one_of (unslotted == 0) (nat_le (unslotted + plan.swap) live) (inr (le-leb (unslotted + plan.swap) live many))
    ] in
    and_from ((pinned + unslotted == plan.pages) && nat_le pinned (over_live pinned_pages walk.flat)) (unslotted == 0 || nat_le (unslotted + plan.swap) live)
    (and_from (pinned + unslotted == plan.pages) (nat_le pinned (over_live pinned_pages walk.flat)) (eq-eqb (pinned + unslotted) plan.pages has.all_pages)
    (le-leb pinned (over_live pinned_pages walk.flat) has.as_pinned))
    anonymous

-- the reply is within what may still fail
record Spared (walked : LinesWalked) (reply : Reply) : Type 0 where
  disk : one_if (is_disk_failure reply) ≤ walked.disk
  paging : one_if (is_paging_failure reply) ≤ walked.paging

may : (plan : GuestPlan) (walked : LinesWalked) (process : ℕ) (op : Op) (cause : Cause) → IsReply plan walked.walk process op (Fail cause) → Spared walked (Fail cause)
    → may_fail plan walked process op cause ≡ true
may plan walked process op Disk is spared = and_from (can_fail op) (nat_lt 0 walked.disk) (able op is) (lt-ltb 0 walked.disk spared.disk)
may plan walked process op Paging is spared = and_from (can_fail op) (nat_lt 0 walked.paging) (able op is) (lt-ltb 0 walked.paging spared.paging)
may plan walked process op (NoPage pinned unslotted) is spared =
    and_from (can_need_page op && is_none (refusal_of walked.walk.flat process op)) (has_no_page plan walked.walk pinned unslotted)
    (and_from (can_need_page op) (is_none (refusal_of walked.walk.flat process op)) (needy op is.0) (ap (λ (o : Option FlatRefusal). is_none o) is.1)) (no_page plan walked.walk pinned unslotted is.2)

plain_done : cause_of (codes "ok") ≡ None
unfolding cause_of no_page_of without_front
plain_done = refl

flat_says : (walk : Walk) (process : ℕ) (op : Op) (reply : Reply) → reply ≡ (flat_step walk.flat process op).1 → flat_reply walk process op (reply_text reply) ≡ Some reply
flat_says walk process op reply e =
    let text = reply_text reply in
    subst (λ (r : Reply). given (bytes_eq text (reply_text r)) r ≡ Some reply) e (given_true (bytes_eq text text) reply (bytes_same text text refl))

reply_due-text : (plan : GuestPlan) (walked : LinesWalked) (process : ℕ) (op : Op) (reply : Reply) → IsReply plan walked.walk process op reply → Spared walked reply → ReplyFits reply
    → reply_due plan walked process op (reply_text reply) ≡ Some reply
reply_due-text plan walked process op Done is spared fits =
    ap (reply_with plan walked process op (codes "ok")) plain_done ∙ flat_says walked.walk process op Done is
reply_due-text plan walked process op (Bytes bytes) is spared fits =
    ap (reply_with plan walked process op (reply_text (Bytes bytes))) (plain_bytes bytes).0 ∙ flat_says walked.walk process op (Bytes bytes) is
reply_due-text plan walked process op (Refused refusal) is spared fits =
    ap (reply_with plan walked process op (reply_text (Refused refusal))) (plain_refusal refusal).1 ∙ flat_says walked.walk process op (Refused refusal) is
reply_due-text plan walked process op (Fail cause) is spared fits =
    ap (reply_with plan walked process op (cause_text cause)) (cause_of-text cause fits) ∙ given_true (may_fail plan walked process op cause) (Fail cause) (may plan walked process op cause is spared)

-- ---- entries

reply-fits : (plan : GuestPlan) (walk : Walk) (process : ℕ) (op : Op) (reply : Reply) → GuestInRange plan → IsReply plan walk process op reply → ReplyFits reply
reply-fits plan walk process op Done range is = tt
reply-fits plan walk process op (Bytes bytes) range is = tt
reply-fits plan walk process op (Refused refusal) range is = tt
reply-fits plan walk process op (Fail Disk) range is = tt
reply-fits plan walk process op (Fail Paging) range is = tt
reply-fits plan walk process op (Fail (NoPage pinned unslotted)) range is = (omega (arith, is.2.all_pages, range.pages), omega (arith, is.2.all_pages, range.pages))

-- the numbers of an entry that may come next
pub next-fits : (plan : GuestPlan) (walk : Walk) (entry : Entry) → GuestInRange plan → IsNext plan walk entry → EntryFits entry
next-fits plan walk entry range next =
    let small = number_small plan entry.cpu entry.k entry.op range next.command in
    let there = processor_there plan entry.cpu entry.k entry.op next.command in
    record {
      cpu = omega (arith, there, range.cpus.few);
      k = omega (arith, small);
      reply = reply-fits plan walk (process_of plan entry.cpu) entry.op entry.reply range next.reply;
    }

entry_due-text : (plan : GuestPlan) (walk : Walk) (entry : Entry) → IsNext plan walk entry → entry_due plan walk entry.cpu entry.k ≡ Some entry.op
unfolding entry_due
entry_due-text plan walk entry next =
    then_some (command_of plan entry.cpu entry.k) _ entry.op _ next.command
    (given_true ((progress_of walk entry.cpu).next == entry.k) entry.op (eq-eqb (progress_of walk entry.cpu).next entry.k (sym next.number)))

entry_fits-text : (plan : GuestPlan) (walked : LinesWalked) (entry : Entry) → GuestInRange plan → IsNext plan walked.walk entry → Spared walked entry.reply
    → entry_fits plan walked (unended entry) ≡ Some (after_entry plan walked entry)
unfolding entry_fits
entry_fits-text plan walked entry range next spared =
    let fits = next-fits plan walked.walk entry range next in
    then_some (entry_head (unended entry)) _ (entry.cpu, (entry.k, reply_text entry.reply)) _ (entry_head-text entry.cpu entry.k (reply_text entry.reply) fits.cpu fits.k)
    (then_some (entry_due plan walked.walk entry.cpu entry.k) _ entry.op _ (entry_due-text plan walked.walk entry next)
    (then_some (reply_due plan walked (process_of plan entry.cpu) entry.op (reply_text entry.reply)) _ entry.reply _
    (reply_due-text plan walked (process_of plan entry.cpu) entry.op entry.reply next.reply spared fits.reply)
    refl))

-- ---- lines

line_that-text : {A : Type 0} (reads : List ℕ → Option A) (words rest : List ℕ) (x : A) → IsFree 10 words → reads words ≡ Some x
    → ◌≡◌ {A = Result (A × List ℕ) (List ℕ)} (line_that reads (line words ++ rest)) (Ok (x, rest))
unfolding line_that
line_that-text reads words rest x free says =
    let text = line words ++ rest in
    let parts : cut 10 text ≡ Some (words, rest) = ap (cut 10) (append_assoc words (10 ∷ []) rest) ∙ cut-append 10 words rest free in
    ap (with_cut reads text) parts ∙ ap (with_line text rest) says

-- the first step gave something, and so the next
ok_step : {A B : Type 0} (r : Result A (List ℕ)) (f : A → Result B (List ℕ)) (x : A) (y : Result B (List ℕ)) → ◌≡◌ {A = Result A (List ℕ)} r (Ok x) → ◌≡◌ {A = Result B (List ℕ)} (f x) y
    → ◌≡◌ {A = Result B (List ℕ)} (r >>= f) y
ok_step r f x y e rest = ap (λ s. s >>= f) e ∙ rest

-- what is left of the failures, when a reply came
left_disk : (walked : LinesWalked) (reply : Reply) (later : ℕ) → one_if (is_disk_failure reply) + later ≤ walked.disk → later ≤ disk_left walked.disk reply
left_disk walked (Fail Disk) later few = omega (arith, few)
left_disk walked (Fail Paging) later few = omega (arith, few)
left_disk walked (Fail (NoPage pinned unslotted)) later few = omega (arith, few)
left_disk walked reply later few = omega (arith, few)

left_paging : (walked : LinesWalked) (reply : Reply) (later : ℕ) → one_if (is_paging_failure reply) + later ≤ walked.paging → later ≤ paging_left walked.paging reply
left_paging walked (Fail Paging) later few = omega (arith, few)
left_paging walked (Fail Disk) later few = omega (arith, few)
left_paging walked (Fail (NoPage pinned unslotted)) later few = omega (arith, few)
left_paging walked reply later few = omega (arith, few)

-- ---- journals

entries_fit-text : (plan : GuestPlan) (walked : LinesWalked) (journal : List Entry) (rest : List ℕ) → GuestInRange plan → LegalFrom plan walked.walk journal → disk_failures journal ≤ walked.disk
    → paging_failures journal ≤ walked.paging
    → ◌≡◌ {A = Result (List ℕ) (List ℕ)} (entries_fit plan walked (length journal) (journal_text journal ++ rest)) (Ok rest)
entries_fit-text plan walked [] rest range legal disk paging = refl
entries_fit-text plan walked (entry ∷ journal) rest range legal disk paging =
    let both_disk : one_if (is_disk_failure entry.reply) + disk_failures journal ≤ walked.disk = subst (λ n. n ≤ walked.disk) (replies-cons is_disk_failure entry journal) disk in
    let both_paging : one_if (is_paging_failure entry.reply) + paging_failures journal ≤ walked.paging = subst (λ n. n ≤ walked.paging) (replies-cons is_paging_failure entry journal) paging in
    let spared : Spared walked entry.reply = record { disk = omega (arith, both_disk); paging = omega (arith, both_paging) } in
    let next = after_entry plan walked entry in
    let text = journal_text journal ++ rest in
    let one = line_that-text (entry_fits plan walked) (unended entry) text next (IsFree-unended entry (next-fits plan walked.walk entry range legal.0))
    (entry_fits-text plan walked entry range legal.0 spared) in
    let more = entries_fit-text plan next journal rest range legal.1 (left_disk walked entry.reply (disk_failures journal) both_disk)
    (left_paging walked entry.reply (paging_failures journal) both_paging) in
    ap (entries_fit plan walked (suc (length journal))) (append_assoc (entry_line entry) (journal_text journal) rest)
    ∙ ok_step (line_that (entry_fits plan walked) (entry_line entry ++ text)) (λ (s : LinesWalked × List ℕ). entries_fit plan s.0 (length journal) s.1) (next, text) (Ok rest) one more

-- ---- events

told : (answer : Answer) → AnswerFits answer → (IsAgain answer → ⊥) → is_answer (answer_text answer) ≡ true
unfolding is_answer
told answer fits not =
    one_of (bytes_eq (answer_text answer) (codes "again")) (is_some (answer_of (answer_text answer))) (inr (ap (λ (o : Option Answer). is_some o) (answer_of-text answer fits not)))

again : is_answer (codes "again") ≡ true
unfolding is_answer
again = refl

is_answer-text : (answer : Answer) → AnswerFits answer → is_answer (answer_text answer) ≡ true
is_answer-text (TurnAnswer Moved) fits = told (TurnAnswer Moved) fits (λ no. no)
is_answer-text (TurnAnswer Finished) fits = told (TurnAnswer Finished) fits (λ no. no)
is_answer-text (TurnAnswer (Waits page owner)) fits = told (TurnAnswer (Waits page owner)) fits (λ no. no)
is_answer-text (TurnAnswer (Again why)) fits = again
is_answer-text (TurnAnswer Idle) fits = told (TurnAnswer Idle) fits (λ no. no)
is_answer-text (AloneAnswer alone) fits = told (AloneAnswer alone) fits (λ no. no)
is_answer-text HostDone fits = told HostDone fits (λ no. no)
is_answer-text (HostRefused refused) fits = told (HostRefused refused) fits (λ no. no)
is_answer-text HostPaging fits = told HostPaging fits (λ no. no)
is_answer-text (Reclaimed count paging) fits = told (Reclaimed count paging) fits (λ no. no)

event_fits-text : (number : ℕ) (answer : Answer) → number < 2 ^ 32 → AnswerFits answer → event_fits number (event_text number answer) ≡ Some number
unfolding event_fits
event_fits-text number answer small fits =
    then_some (event_head (event_text number answer)) _ (number, answer_text answer) _ (event_head-text number (answer_text answer) small)
    (given_true ((number == number) && is_answer (answer_text answer)) number (and_from (number == number) (is_answer (answer_text answer)) (eq-eqb number number refl) (is_answer-text answer fits)))

events_fit-text : (number : ℕ) (answers : List Answer) (rest : List ℕ) → number + length answers ≤ 2 ^ 32 → AllByRecursion AnswerFits answers
    → ◌≡◌ {A = Result (List ℕ) (List ℕ)} (events_fit number (length answers) (events_text number answers ++ rest)) (Ok rest)
events_fit-text number [] rest few fits = refl
events_fit-text number (answer ∷ answers) rest few fits =
    let text = events_text (number + 1) answers ++ rest in
    let one = line_that-text (event_fits number) (event_text number answer) text number (free_event number answer) (event_fits-text number answer (omega (arith, few)) fits.0) in
    let more = events_fit-text (number + 1) answers rest (omega (arith, few)) fits.1 in
    ap (events_fit number (suc (length answers))) (append_assoc (event_line number answer) (events_text (number + 1) answers) rest)
    ∙ ok_step (line_that (event_fits number) (event_line number answer ++ text)) (λ (s : ℕ × List ℕ). events_fit (number + 1) (length answers) s.1) (number, text) (Ok rest) one more

-- ---- guests

counts_of-text : (discards faults : ℕ) → discards < 2 ^ 64 → faults < 2 ^ 64 → counts_of (codes "discards " ++ (decimal discards ++ (codes " faults " ++ decimal faults))) ≡ Some (discards, faults)
unfolding counts_of
counts_of-text discards faults small few =
    let last = codes "faults " ++ decimal faults in
    then_some _ _ (decimal discards ++ (32 ∷ last)) _ (without_front-append (codes "discards ") (decimal discards ++ (32 ∷ last)))
    (then_some _ _ (decimal discards, last) _ (cut-append 32 (decimal discards) last (IsFree-decimal 32 (omega arith) discards))
    (then_some _ _ discards _ (long_of-decimal discards small)
    (then_some _ _ (decimal faults) _ (without_front-append (codes "faults ") (decimal faults)) (then_some _ _ faults _ (long_of-decimal faults few) refl))))

abbrev counts_text : ℕ → ℕ → List ℕ
counts_text discards faults = codes "discards " ++ (decimal discards ++ (codes " faults " ++ decimal faults))

abbrev entries_text : ℕ → ℕ → ℕ → List ℕ
entries_text entries discards faults = codes "entries " ++ (decimal entries ++ (32 ∷ counts_text discards faults))

guest_counts-text : (entries discards faults : ℕ) → entries < 2 ^ 32 → discards < 2 ^ 64 → faults < 2 ^ 64 → guest_counts (entries_text entries discards faults) ≡ Some (entries, (discards, faults))
unfolding guest_counts
guest_counts-text entries discards faults short small few =
    let last = counts_text discards faults in
    then_some _ _ (decimal entries ++ (32 ∷ last)) _ (without_front-append (codes "entries ") (decimal entries ++ (32 ∷ last)))
    (then_some _ _ (decimal entries, last) _ (cut-append 32 (decimal entries) last (IsFree-decimal 32 (omega arith) entries))
    (then_some _ _ entries _ (numeral_of-decimal entries short) (then_some _ _ (discards, faults) _ (counts_of-text discards faults small few) refl)))

guest_head-text : (number entries discards faults : ℕ) → number < 2 ^ 32 → entries < 2 ^ 32 → discards < 2 ^ 64 → faults < 2 ^ 64
    → guest_head (guest_words number entries discards faults) ≡ Some (number, (entries, (discards, faults)))
unfolding guest_head
guest_head-text number entries discards faults first short small few =
    let last = entries_text entries discards faults in
    let parts : guest_words number entries discards faults ≡ codes "guest " ++ (decimal number ++ (32 ∷ last)) =
    guest_parts (codes "guest ") (decimal number) (codes " entries ") (decimal entries) (codes " discards ") (decimal discards) (codes " faults ") (decimal faults)
    in
    then_some _ _ (decimal number ++ (32 ∷ last)) _ (ap (without_front (codes "guest ")) parts ∙ without_front-append (codes "guest ") (decimal number ++ (32 ∷ last)))
    (then_some _ _ (decimal number, last) _ (cut-append 32 (decimal number) last (IsFree-decimal 32 (omega arith) number))
    (then_some _ _ number _ (numeral_of-decimal number first) (then_some _ _ (entries, (discards, faults)) _ (guest_counts-text entries discards faults short small few) refl)))

entries_allowed : (run : Bool) (plan : GuestPlan) (journal : List Entry) → Legal plan journal → (run ≡ true → Complete plan journal) → are_entries run plan (length journal) ≡ true
entries_allowed true plan journal legal complete = eq-eqb (length journal) (all_commands plan) (complete-all plan journal (complete refl))
entries_allowed false plan journal legal complete = le-leb (length journal) (all_commands plan) (legal-most plan journal legal)

entries_told-text : (run : Bool) (number : ℕ) (plan : GuestPlan) (guest : GuestReport) → number < MAX_GUESTS → GuestInRange plan → IsLegalGuest run plan guest
    → entries_told run number plan (guest_words number (length guest.journal) guest.discards guest.faults) ≡ Some (length guest.journal)
unfolding entries_told
entries_told-text run number plan guest first range is =
    let n = length guest.journal in
    let short : n < 2 ^ 32 = omega (arith, legal-most plan guest.journal is.legal, all_commands-bound plan range) in
    let head = guest_head-text number n guest.discards guest.faults (omega (arith, first)) short is.counted (omega (arith, is.faults, is.counted)) in
    then_some (guest_head (guest_words number n guest.discards guest.faults)) _ (number, (n, (guest.discards, guest.faults))) _ head
    (given_true ((number == number) && are_entries run plan n && nat_le guest.faults guest.discards) n
    (and_from ((number == number) && are_entries run plan n) (nat_le guest.faults guest.discards)
    (and_from (number == number) (are_entries run plan n) (eq-eqb number number refl) (entries_allowed run plan guest.journal is.legal is.complete)) (le-leb guest.faults guest.discards is.faults)))

guest_fits-text : (run : Bool) (number : ℕ) (plan : GuestPlan) (guest : GuestReport) (rest : List ℕ) → number < MAX_GUESTS → GuestInRange plan → IsLegalGuest run plan guest
    → ◌≡◌ {A = Result (List ℕ) (List ℕ)} (guest_fits run number plan (guest_text number guest ++ rest)) (Ok rest)
unfolding guest_fits
guest_fits-text run number plan guest rest first range is =
    let n = length guest.journal in
    let head = guest_line number n guest.discards guest.faults in
    let text = journal_text guest.journal ++ rest in
    let one = line_that-text (entries_told run number plan) (guest_words number n guest.discards guest.faults) text n (free_guest number guest)
    (entries_told-text run number plan guest first range is) in
    let more = entries_fit-text plan (no_lines_walked plan) guest.journal rest range is.legal is.by_disk is.by_pager in
    ap (λ (t : List ℕ). line_that (entries_told run number plan) t >>= λ (next : ℕ × List ℕ). entries_fit plan (no_lines_walked plan) next.0 next.1)
    (append_assoc head (journal_text guest.journal) rest)
    ∙ ok_step (line_that (entries_told run number plan) (head ++ text)) (λ (next : ℕ × List ℕ). entries_fit plan (no_lines_walked plan) next.0 next.1) (n, text) (Ok rest) one more

guests_fit-text : (run : Bool) (number : ℕ) (plans : List GuestPlan) (guests : List GuestReport) (rest : List ℕ) → number + length plans ≤ MAX_GUESTS → AllByRecursion GuestInRange plans
    → AreLegalGuests run plans guests
    → ◌≡◌ {A = Result (List ℕ) (List ℕ)} (guests_fit run number plans (guests_text number guests ++ rest)) (Ok rest)
guests_fit-text run number [] [] rest few range legal = refl
guests_fit-text run number [] (guest ∷ guests) rest few range legal = absurd legal
guests_fit-text run number (plan ∷ plans) [] rest few range legal = absurd legal
guests_fit-text run number (plan ∷ plans) (guest ∷ guests) rest few range legal =
    let text = guests_text (number + 1) guests ++ rest in
    let one = guest_fits-text run number plan guest text (omega (arith, few)) range.0 legal.0 in
    let more = guests_fit-text run (number + 1) plans guests rest (omega (arith, few)) range.1 legal.1 in
    ap (guests_fit run number (plan ∷ plans)) (append_assoc (guest_text number guest) (guests_text (number + 1) guests) rest)
    ∙ ok_step (guest_fits run number plan (guest_text number guest ++ text)) (guests_fit run (number + 1) plans) text (Ok rest) one more

-- ---- the whole report

is_run_of-text : (run : Bool) → is_run_of (head_text run) ≡ Some run
unfolding is_run_of
is_run_of-text true = refl
is_run_of-text false = refl

end_fits-text : ◌≡◌ {A = Result (List ℕ) (List ℕ)} (end_fits end_line) (Ok [])
unfolding end_fits line_that end_of cut
end_fits-text = refl

schedule_fits-text : (run : Bool) (events : ℕ) (answers : List Answer) (rest : List ℕ) → events ≤ 2 ^ 32 → length answers ≡ (if run then 0 else events) → AllByRecursion AnswerFits answers
    → ◌≡◌ {A = Result (List ℕ) (List ℕ)} (schedule_fits run events (events_text 0 answers ++ rest)) (Ok rest)
schedule_fits-text true events [] rest few many fits = refl
schedule_fits-text true events (answer ∷ answers) rest few many fits = absurd (omega (arith, many))
schedule_fits-text false events answers rest few many fits =
    ap (λ n. events_fit 0 n (events_text 0 answers ++ rest)) (sym many) ∙ events_fit-text 0 answers rest (omega (arith, few, many)) fits

three_texts : (a b c d : List ℕ) → a ++ b ++ c ++ d ≡ a ++ (b ++ (c ++ d))
three_texts a b c d = append_assoc (a ++ b) c d ∙ append_assoc a b (c ++ d)

report_fits-text : (plan : Scenario) (report : List ℕ) → ScenarioInRange plan → LegalReport plan report → ◌≡◌ {A = Result (List ℕ) (List ℕ)} (report_fits plan report) (Ok [])
unfolding report_fits
report_fits-text plan report range legal =
    let run = legal.run in
    let last = guests_text 0 legal.guests ++ end_line in
    let rest = events_text 0 legal.answers ++ last in
    let text : report ≡ line (head_text run) ++ rest =
    legal.text ∙ three_texts (head_line run) (events_text 0 legal.answers) (guests_text 0 legal.guests) end_line ∙ ap (λ t. t ++ rest) (sym (joined_head run))
    in
    let first = ap (line_that is_run_of) text ∙ line_that-text is_run_of (head_text run) rest run (free_head run) (is_run_of-text run) in
    let events = schedule_fits-text run (length plan.schedule) legal.answers last (omega (arith, range.few_events)) legal.answered.each_event
    (recursion_from_All AnswerFits legal.answers legal.answered.numbers) in
    let guests = guests_fit-text run 0 plan.guests legal.guests end_line (omega (arith, range.guests.few)) (recursion_from_All GuestInRange plan.guests range.guests.each) legal.legal in
    ok_step (line_that is_run_of report) _ (run, rest) (Ok []) first
    (ok_step (schedule_fits run (length plan.schedule) rest) _ last (Ok []) events (ok_step (guests_fit run 0 plan.guests last) end_fits end_line (Ok []) guests end_fits-text))

-- what is legal is accepted
pub legal_is_accepted : (plan : Scenario) (report : List ℕ) → ScenarioInRange plan → LegalReport plan report → verdict_of plan report ≡ Accepted
legal_is_accepted plan report range legal = ap (verdict_with report) (report_fits-text plan report range legal)

-- ---- the numbers of legal journals

journal-fits : (plan : GuestPlan) (walk : Walk) (journal : List Entry) → GuestInRange plan → LegalFrom plan walk journal → AllByRecursion EntryFits journal
journal-fits plan walk [] range legal = tt
journal-fits plan walk (entry ∷ journal) range legal = (next-fits plan walk entry range legal.0, journal-fits plan (after plan walk entry) journal range legal.1)

guests-fit : (run : Bool) (plans : List GuestPlan) (guests : List GuestReport) → AllByRecursion GuestInRange plans → AreLegalGuests run plans guests → AllByRecursion JournalFits guests
guests-fit run [] [] range legal = tt
guests-fit run [] (guest ∷ guests) range legal = absurd legal
guests-fit run (plan ∷ plans) [] range legal = absurd legal
guests-fit run (plan ∷ plans) (guest ∷ guests) range legal =
    (All-from_recursion EntryFits guest.journal (journal-fits plan (start_of plan) guest.journal range.0 legal.0.legal), guests-fit run plans guests range.1 legal.1)

pub legal_guests-fit : (plan : Scenario) (run : Bool) (guests : List GuestReport) → ScenarioInRange plan → AreLegalGuests run plan.guests guests → All JournalFits guests
legal_guests-fit plan run guests range legal =
    All-from_recursion JournalFits guests (guests-fit run plan.guests guests (recursion_from_All GuestInRange plan.guests range.guests.each) legal)

-- ---- guests by their numbers

-- what is said of guests with these plans, by a number from here on
legal_from : {X : Type 0} (run : Bool) (plan_of : X → GuestPlan) (none : X) (told : ℕ → GuestReport) (guests : List X) (number : ℕ)
    → ((k : ℕ) → k < length guests → IsLegalGuest run (plan_of (get_or guests k none)) (told (number + k)))
    → AreLegalGuests run (map plan_of guests) (map told (range_with_len number (length guests)))
legal_from run plan_of none told [] number each = tt
legal_from run plan_of none told (guest ∷ guests) number each =
    let here : number + 0 ≡ number = omega arith in (
      subst (λ n. IsLegalGuest run (plan_of guest) (told n)) here (each 0 (omega arith)),
      legal_from run plan_of none told guests (number + 1) (λ k below.
          let at : number + suc k ≡ number + 1 + k = omega arith in
          subst (λ n. IsLegalGuest run (plan_of (get_or guests k none)) (told n)) at (each (suc k) (omega (arith, below)))),
    )

-- and by their numbers
pub legal_guests : {X : Type 0} (run : Bool) (plan_of : X → GuestPlan) (none : X) (told : ℕ → GuestReport) (guests : List X)
    → ((k : ℕ) → k < length guests → IsLegalGuest run (plan_of (get_or guests k none)) (told k))
    → AreLegalGuests run (map plan_of guests) (map told (range_with_len 0 (length guests)))
legal_guests run plan_of none told guests each =
    legal_from run plan_of none told guests 0 (λ k below. let at : k ≡ 0 + k = omega arith in subst (λ n. IsLegalGuest run (plan_of (get_or guests k none)) (told n)) at (each k below))
