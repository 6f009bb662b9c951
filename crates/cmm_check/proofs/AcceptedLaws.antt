-- What is accepted is a legal report.
use Rattle.std.proofs.Common.{◌≡◌, ◌∙◌, ℕ, zero, suc, ◌+◌, ◌^◌, ◌<◌, ◌≤◌, ◌⊎◌, inl, inr, Bool, true, false, List, [], ◌∷◌, ◌++◌, Option, Some, None, Result}
use Rattle.std.proofs.Common.{Ok, Err, length, refl, sym, ap, subst, arith, append_assoc}
use Rattle.std.specs.Prelude.{◌&&◌, ◌||◌, ◌==◌, nat_le, nat_lt, is_none, is_some, if◌then◌else◌, codes, decimal, sum_by}
use Rattle.std.specs.List.{AllByRecursion}
use Rattle.std.specs.Str.{bytes_eq}
use Rattle.std.proofs.lemmas.Bool.{and_parts, eqb-true, leb-true, ltb-true, true≢false}
use Rattle.std.proofs.lemmas.List.Elements.{All-from_recursion}
use Rattle.std.proofs.lemmas.Option.{same_Some}
use Rattle.cmm_types.specs.declared.plan.GuestPlan.{GuestPlan}
use Rattle.cmm_types.specs.declared.plan.Scenario.{Scenario}
use Rattle.cmm_types.specs.declared.event.Answer.{Answer}
use Rattle.cmm_types.specs.declared.event.Answer.TheVariants.{Turn as TurnAnswer}
use Rattle.cmm_types.specs.declared.turn.Turn.TheVariants.{Again}
use Rattle.cmm_types.specs.declared.turn.Why.TheVariants.{NoFrame}
use Rattle.cmm_types.specs.declared.command.Op.{Op}
use Rattle.cmm_types.specs.declared.command.Op.TheVariants.{Sync, MapFile, MapAnon, Unmap, Unpin}
use Rattle.cmm_types.specs.declared.command.FlatRefusal.{FlatRefusal}
use Rattle.cmm_types.specs.declared.command.Cause.{Cause}
use Rattle.cmm_types.specs.declared.command.Cause.TheVariants.{Disk, Paging, NoPage}
use Rattle.cmm_types.specs.declared.command.Reply.{Reply}
use Rattle.cmm_types.specs.declared.command.Reply.TheVariants.{Done, Bytes, Refused, Fail}
use Rattle.cmm_types.specs.declared.command.Entry.{Entry}
use Rattle.cmm_types.specs.Sums.{one_if}
use Rattle.cmm_flat.specs.Flat.{refusal_of, flat_step}
use Rattle.cmm_flat.specs.Failures.{is_disk_failure, is_paging_failure, disk_failures, paging_failures}
use Rattle.cmm_flat.specs.Laws.FlatLaws.{never_fails}
use Rattle.cmm_flat.specs.Legal.{Walk, CanFail, CanNeedPage, HasNoPage, IsReply, IsNext, progress_of, command_of, process_of, over_live, pinned_pages, anonymous_pages}
use Rattle.cmm_flat.specs.Legal.{LegalFrom, Legal, Complete, all_commands, after}
use Rattle.cmm_flat.specs.Laws.LegalLaws.{IsReply-from_step}
use Rattle.cmm_flat.specs.Laws.CountLaws.{complete-from_all}
use Rattle.cmm_flat.specs.Laws.CommandLaws.{replies-cons}
use Rattle.cmm_report.specs.Texts.{answer_text, reply_text}
use Rattle.cmm_report.specs.Lines.{line, head_line, event_line, guest_line, entry_line, end_line}
use Rattle.cmm_report.specs.Report.{GuestReport, events_text, journal_text, guest_text, guests_text}
use Rattle.cmm_report.proofs.JournalLaws.{unended}
use Rattle.cmm_report.proofs.ReportLaws.{event_text}
use Rattle.cmm_scenario.specs.Outcome.{◌>>=◌}
use Rattle.cmm_check.specs.declared.verdict.Verdict.TheVariants.{Accepted}
use Rattle.cmm_check.specs.Reading.{cut, without_front, long_of, numeral_of}
use Rattle.cmm_check.specs.Entries.{cause_of, entry_head}
use Rattle.cmm_check.specs.Answers.{AnswerFits, answer_of, event_head}
use Rattle.cmm_check.specs.Heads.{is_run_of, is_answer, event_fits, counts_of, guest_counts, guest_head, are_entries, entries_told, end_of}
use Rattle.cmm_check.specs.Journal.{LinesWalked, no_lines_walked, can_fail, can_need_page, has_no_page, may_fail, entry_due, reply_with, disk_left, paging_left, after_entry, journal_entry, entry_fits}
use Rattle.cmm_check.specs.Verdict.{with_line, with_cut, line_that, events_fit, entries_fit, guest_fits, guests_fit, ended, end_fits, schedule_fits, report_fits, verdict_with, verdict_of}
use Rattle.cmm_check.specs.Accepted.{IsLegalGuest, AreLegalGuests, LegalReport}
use Rattle.cmm_check.proofs.ReadingLaws.{some_then, given_holds, same_bytes, cut-parts, without_front-is, long_of-read, numeral_of-read}
use Rattle.cmm_check.proofs.EntryLaws.{cause_of-read, entry_head-read}
use Rattle.cmm_check.proofs.AnswerLaws.{answer_of-read, event_head-read}

-- ---- replies

fails : (op : Op) → can_fail op ≡ true → CanFail op
fails (MapFile number file first count writable) h = cc h
fails (MapAnon number count) h = cc h
fails (Unmap number) h = cc h
fails (Unpin number page) h = cc h
fails op h = tt

needs : (op : Op) → can_need_page op ≡ true → CanNeedPage op
needs (Sync file) h = cc h
needs (MapFile number file first count writable) h = cc h
needs (MapAnon number count) h = cc h
needs (Unmap number) h = cc h
needs (Unpin number page) h = cc h
needs op h = tt

either : (a b : Bool) → (a || b) ≡ true → (a ≡ true) ⊎ (b ≡ true)
either true b h = inl refl
either false b h = inr h

no_page : (plan : GuestPlan) (walk : Walk) (pinned unslotted : ℕ) → has_no_page plan walk pinned unslotted ≡ true → HasNoPage plan walk pinned unslotted
no_page plan walk pinned unslotted h =
    let live = over_live anonymous_pages walk.flat + sum_by (λ cpu. cpu.ended) walk.cpus in
    let both = and_parts ((pinned + unslotted == plan.pages) && nat_le pinned (over_live pinned_pages walk.flat)) (unslotted == 0 || nat_le (unslotted + plan.swap) live) h in
    let front = and_parts (pinned + unslotted == plan.pages) (nat_le pinned (over_live pinned_pages walk.flat)) both.0 in
    record {
      all_pages = eqb-true (pinned + unslotted) plan.pages front.0;
      as_pinned = leb-true pinned (over_live pinned_pages walk.flat) front.1;
      as_anonymous = elim (either (unslotted == 0) (nat_le (unslotted + plan.swap) live) both.1) [
        | inl none ↦ inl (eqb-true unslotted 0 none)
        | inr many ↦ inr (leb-true (unslotted + plan.swap) live many)
      ];
    }

no_refusal : (o : Option FlatRefusal) → is_none o ≡ true → o ≡ None
no_refusal None h = refl
no_refusal (Some refusal) h = cc h

failure : (plan : GuestPlan) (walked : LinesWalked) (process : ℕ) (op : Op) (cause : Cause) → may_fail plan walked process op cause ≡ true → IsReply plan walked.walk process op (Fail cause)
failure plan walked process op Disk h = fails op (and_parts (can_fail op) (nat_lt 0 walked.disk) h).0
failure plan walked process op Paging h = fails op (and_parts (can_fail op) (nat_lt 0 walked.paging) h).0
failure plan walked process op (NoPage pinned unslotted) h =
    let both = and_parts (can_need_page op && is_none (refusal_of walked.walk.flat process op)) (has_no_page plan walked.walk pinned unslotted) h in
    let front = and_parts (can_need_page op) (is_none (refusal_of walked.walk.flat process op)) both.0 in
    (needs op front.0, no_refusal (refusal_of walked.walk.flat process op) front.1, no_page plan walked.walk pinned unslotted both.1)

-- ---- what is left of the failures

-- the reply and those that may come after it are no more than may come here
pub record Counted (walked : LinesWalked) (reply : Reply) : Type 0 where
  pub disk : one_if (is_disk_failure reply) + disk_left walked.disk reply ≤ walked.disk
  pub paging : one_if (is_paging_failure reply) + paging_left walked.paging reply ≤ walked.paging

counted_failure : (plan : GuestPlan) (walked : LinesWalked) (process : ℕ) (op : Op) (cause : Cause) → may_fail plan walked process op cause ≡ true → Counted walked (Fail cause)
counted_failure plan walked process op Disk h = let some = ltb-true 0 walked.disk (and_parts (can_fail op) (nat_lt 0 walked.disk) h).1 in record { disk = omega arith; paging = omega arith }
counted_failure plan walked process op Paging h = let some = ltb-true 0 walked.paging (and_parts (can_fail op) (nat_lt 0 walked.paging) h).1 in record { disk = omega arith; paging = omega arith }
counted_failure plan walked process op (NoPage pinned unslotted) h = record { disk = omega arith; paging = omega arith }

counted_reply : (plan : GuestPlan) (walked : LinesWalked) (process : ℕ) (op : Op) (reply : Reply) → reply ≡ (flat_step walked.walk.flat process op).1 → Counted walked reply
counted_reply plan walked process op Done e = record { disk = omega arith; paging = omega arith }
counted_reply plan walked process op (Bytes bytes) e = record { disk = omega arith; paging = omega arith }
counted_reply plan walked process op (Refused refusal) e = record { disk = omega arith; paging = omega arith }
counted_reply plan walked process op (Fail cause) e = absurd (never_fails walked.walk.flat process op cause (sym e))

-- ---- the reply that a line says

record Replied (plan : GuestPlan) (walked : LinesWalked) (process : ℕ) (op : Op) (text : List ℕ) (reply : Reply) : Type 0 where
  text_of : text ≡ reply_text reply
  allowed : IsReply plan walked.walk process op reply
  counted : Counted walked reply

replied_with : (plan : GuestPlan) (walked : LinesWalked) (process : ℕ) (op : Op) (text : List ℕ) (reply : Reply) (o : Option Cause) → cause_of text ≡ o
    → reply_with plan walked process op text o ≡ Some reply
    → Replied plan walked process op text reply
replied_with plan walked process op text reply (Some cause) read e =
    let holds = given_holds (may_fail plan walked process op cause) (Fail cause) reply e in
    let made : Replied plan walked process op text (Fail cause) = record {
      text_of = (cause_of-read text cause read).text_of;
      allowed = failure plan walked process op cause holds.0;
      counted = counted_failure plan walked process op cause holds.0;
    } in
    subst (Replied plan walked process op text) holds.1 made
replied_with plan walked process op text reply None read e =
    let flat = (flat_step walked.walk.flat process op).1 in
    let holds = given_holds (bytes_eq text (reply_text flat)) flat reply e in
    let made : Replied plan walked process op text flat = record {
      text_of = same_bytes text (reply_text flat) holds.0;
      allowed = IsReply-from_step plan walked.walk process op flat refl;
      counted = counted_reply plan walked process op flat refl;
    } in
    subst (Replied plan walked process op text) holds.1 made

-- ---- entries

-- the entry that a line says, which may come next
pub record Entered (plan : GuestPlan) (walked : LinesWalked) (text : List ℕ) (next : LinesWalked) : Type 0 where
  pub entry : Entry
  pub text_of : text ≡ unended entry
  pub may_come : IsNext plan walked.walk entry
  pub leads : next ≡ after_entry plan walked entry
  pub counted : Counted walked entry.reply

entry_due-read : (plan : GuestPlan) (walk : Walk) (cpu k : ℕ) (op : Op) → entry_due plan walk cpu k ≡ Some op → (command_of plan cpu k ≡ Some op) × ((progress_of walk cpu).next ≡ k)
unfolding entry_due
entry_due-read plan walk cpu k op e =
    let found = some_then (command_of plan cpu k) _ op e in
    let holds = given_holds ((progress_of walk cpu).next == k) found.0 op found.2 in
    (found.1 ∙ ap Some holds.1, eqb-true (progress_of walk cpu).next k holds.0)

pub entry_fits-read : (plan : GuestPlan) (walked : LinesWalked) (text : List ℕ) (next : LinesWalked) → entry_fits plan walked text ≡ Some next → Entered plan walked text next
unfolding entry_fits
entry_fits-read plan walked text next e =
    let head = some_then (entry_head text) _ next e in
    let cpu = head.0.0 in
    let k = head.0.1.0 in
    let op = some_then (entry_due plan walked.walk cpu k) _ next head.2 in
    let reply = some_then (reply_with plan walked (process_of plan cpu) op.0 head.0.1.1 (cause_of head.0.1.1)) _ next op.2 in
    let is = entry_head-read text head.0 head.1 in
    let due = entry_due-read plan walked.walk cpu k op.0 op.1 in
    let says = replied_with plan walked (process_of plan cpu) op.0 head.0.1.1 reply.0 (cause_of head.0.1.1) refl reply.1 in
    let front = decimal cpu ++ codes " " ++ decimal k ++ codes " " in
    record {
      entry = journal_entry cpu k op.0 reply.0;
      text_of = is.whole ∙ ap (λ t. front ++ t) says.text_of;
      may_come = record { number = sym due.1; command = due.0; reply = says.allowed };
      leads = sym (same_Some _ next reply.2);
      counted = says.counted;
    }

-- ---- lines

-- a line that says something, and the text behind it
pub record LineOf {A : Type 0} (reads : List ℕ → Option A) (text : List ℕ) (x : A) (rest : List ℕ) : Type 0 where
  pub words : List ℕ
  pub says : reads words ≡ Some x
  pub whole : text ≡ line words ++ rest

ok_pair : {A : Type 0} (x y : A) (r s : List ℕ) → ◌≡◌ {A = Result (A × List ℕ) (List ℕ)} (Ok (x, r)) (Ok (y, s)) → ◌≡◌ {A = A × List ℕ} (x, r) (y, s)
ok_pair x y r s e = cc

pub line_that-read : {A : Type 0} (reads : List ℕ → Option A) (text : List ℕ) (next : A × List ℕ) → line_that reads text ≡ Ok next → LineOf reads text next.0 next.1
unfolding line_that
line_that-read {A} reads text next e = at (cut 10 text) refl e
  where
    of : (parts : List ℕ × List ℕ) → cut 10 text ≡ Some parts → (o : Option A) → reads parts.0 ≡ o → ◌≡◌ {A = Result (A × List ℕ) (List ℕ)} (with_line text parts.1 o) (Ok next)
        → LineOf reads text next.0 next.1
    of parts is_cut None said h = cc h
    of parts is_cut (Some x) said h =
        let made : LineOf reads text x parts.1 = record { words = parts.0; says = said; whole = (cut-parts 10 text parts.0 parts.1 is_cut).whole ∙ sym (append_assoc parts.0 (10 ∷ []) parts.1) } in
        subst (λ (p : A × List ℕ). LineOf reads text p.0 p.1) (ok_pair x next.0 parts.1 next.1 h) made

    at : (o : Option (List ℕ × List ℕ)) → cut 10 text ≡ o → ◌≡◌ {A = Result (A × List ℕ) (List ℕ)} (with_cut reads text o) (Ok next) → LineOf reads text next.0 next.1
    at None is_cut h = cc h
    at (Some parts) is_cut h = of parts is_cut (reads parts.0) refl h

-- ---- journals

pub record Journalled (plan : GuestPlan) (walked : LinesWalked) (count : ℕ) (text rest : List ℕ) : Type 0 where
  pub journal : List Entry
  pub many : length journal ≡ count
  pub text_of : text ≡ journal_text journal ++ rest
  pub legal : LegalFrom plan walked.walk journal
  pub disk : disk_failures journal ≤ walked.disk
  pub paging : paging_failures journal ≤ walked.paging

ok_text : (r s : List ℕ) → ◌≡◌ {A = Result (List ℕ) (List ℕ)} (Ok r) (Ok s) → r ≡ s
ok_text r s e = cc

ok_then : {A : Type 0} (r : Result (A × List ℕ) (List ℕ)) (f : A × List ℕ → Result (List ℕ) (List ℕ)) (rest : List ℕ) → ◌≡◌ {A = Result (List ℕ) (List ℕ)} (r >>= f) (Ok rest)
    → (x : A × List ℕ) × (◌≡◌ {A = Result (A × List ℕ) (List ℕ)} r (Ok x)) × (◌≡◌ {A = Result (List ℕ) (List ℕ)} (f x) (Ok rest))
ok_then (Ok x) f rest e = (x, refl, e)
ok_then (Err left) f rest e = cc e

pub entries_fit-read : (plan : GuestPlan) (walked : LinesWalked) (count : ℕ) (text rest : List ℕ) → ◌≡◌ {A = Result (List ℕ) (List ℕ)} (entries_fit plan walked count text) (Ok rest)
    → Journalled plan walked count text rest
entries_fit-read plan walked zero text rest e = record { journal = []; many = refl; text_of = ok_text text rest e; legal = tt; disk = omega arith; paging = omega arith }
entries_fit-read plan walked (suc count) text rest e =
    let step = ok_then (line_that (entry_fits plan walked) text) (λ next. entries_fit plan next.0 count next.1) rest e in
    let read = line_that-read (entry_fits plan walked) text step.0 step.1 in
    let one = entry_fits-read plan walked read.words step.0.0 read.says in
    let more = entries_fit-read plan step.0.0 count step.0.1 rest step.2 in
    let walk : step.0.0.walk ≡ after plan walked.walk one.entry = ap (λ (s : LinesWalked). s.walk) one.leads in
    let disk : step.0.0.disk ≡ disk_left walked.disk one.entry.reply = ap (λ (s : LinesWalked). s.disk) one.leads in
    let paging : step.0.0.paging ≡ paging_left walked.paging one.entry.reply = ap (λ (s : LinesWalked). s.paging) one.leads in
    record {
      journal = one.entry ∷ more.journal;
      many = omega (arith, more.many);
      text_of = read.whole ∙ ap (λ t. line t ++ step.0.1) one.text_of ∙ ap (λ t. entry_line one.entry ++ t) more.text_of ∙ sym (append_assoc (entry_line one.entry) (journal_text more.journal) rest);
      legal = (one.may_come, subst (λ w. LegalFrom plan w more.journal) walk more.legal);
      disk = omega (arith, more.disk, disk, one.counted.disk, replies-cons is_disk_failure one.entry more.journal);
      paging = omega (arith, more.paging, paging, one.counted.paging, replies-cons is_paging_failure one.entry more.journal);
    }

-- ---- events

-- the answer that an event's line says
record Answered (number : ℕ) (text : List ℕ) : Type 0 where
  answer : Answer
  text_of : text ≡ event_text number answer
  fits : AnswerFits answer

-- the answer that a text says
record AnswerOf (text : List ℕ) : Type 0 where
  answer : Answer
  text_of : text ≡ answer_text answer
  fits : AnswerFits answer

is_answer-read : (text : List ℕ) → is_answer text ≡ true → AnswerOf text
unfolding is_answer
is_answer-read text h = at (answer_of text) refl (either (bytes_eq text (codes "again")) (is_some (answer_of text)) h)
  where
    at : (o : Option Answer) → answer_of text ≡ o → ((bytes_eq text (codes "again") ≡ true) ⊎ (is_some (answer_of text) ≡ true)) → AnswerOf text
    at o read (inl again) = record { answer = TurnAnswer (Again (NoFrame 0)); text_of = same_bytes text (codes "again") again; fits = tt }
    at None read (inr some) = let bad : is_some {T = Answer} None ≡ true = (rw read at some) in cc bad
    at (Some answer) read (inr some) = let tells = answer_of-read text answer read in record { answer = answer; text_of = tells.text_of; fits = tells.fits }

event_fits-read : (number : ℕ) (text : List ℕ) (next : ℕ) → event_fits number text ≡ Some next → Answered number text
unfolding event_fits
event_fits-read number text next e =
    let head = some_then (event_head text) _ next e in
    let both = and_parts (head.0.0 == number) (is_answer head.0.1) (given_holds ((head.0.0 == number) && is_answer head.0.1) number next head.2).0 in
    let is = event_head-read text head.0 head.1 in
    let says = is_answer-read head.0.1 both.1 in
    let front = λ (n : ℕ) (t : List ℕ). codes "event " ++ decimal n ++ codes " " ++ t in
    record {
      answer = says.answer;
      text_of = is.whole ∙ ap (λ n. front n head.0.1) (eqb-true head.0.0 number both.0) ∙ ap (front number) says.text_of;
      fits = says.fits;
    }

pub record Evented (number count : ℕ) (text rest : List ℕ) : Type 0 where
  pub answers : List Answer
  pub many : length answers ≡ count
  pub text_of : text ≡ events_text number answers ++ rest
  pub fits : AllByRecursion AnswerFits answers

pub events_fit-read : (number count : ℕ) (text rest : List ℕ) → ◌≡◌ {A = Result (List ℕ) (List ℕ)} (events_fit number count text) (Ok rest) → Evented number count text rest
events_fit-read number zero text rest e = record { answers = []; many = refl; text_of = ok_text text rest e; fits = tt }
events_fit-read number (suc count) text rest e =
    let step = ok_then (line_that (event_fits number) text) (λ next. events_fit (number + 1) count next.1) rest e in
    let read = line_that-read (event_fits number) text step.0 step.1 in
    let one = event_fits-read number read.words step.0.0 read.says in
    let more = events_fit-read (number + 1) count step.0.1 rest step.2 in
    record {
      answers = one.answer ∷ more.answers;
      many = omega (arith, more.many);
      text_of = read.whole ∙ ap (λ t. line t ++ step.0.1) one.text_of ∙ ap (λ t. event_line number one.answer ++ t) more.text_of
          ∙ sym (append_assoc (event_line number one.answer) (events_text (number + 1) more.answers) rest);
      fits = (one.fits, more.fits);
    }

-- ---- guests

-- what stands behind a guest's number
pub guest_parts : (a b c d e f g h : List ℕ) → a ++ b ++ c ++ d ++ e ++ f ++ g ++ h ≡ a ++ (b ++ (c ++ (d ++ (e ++ (f ++ (g ++ h))))))
guest_parts a b c d e f g h =
    append_assoc (a ++ b ++ c ++ d ++ e ++ f) g h ∙ append_assoc (a ++ b ++ c ++ d ++ e) f (g ++ h) ∙ append_assoc (a ++ b ++ c ++ d) e (f ++ (g ++ h))
    ∙ append_assoc (a ++ b ++ c) d (e ++ (f ++ (g ++ h))) ∙ append_assoc (a ++ b) c (d ++ (e ++ (f ++ (g ++ h)))) ∙ append_assoc a b (c ++ (d ++ (e ++ (f ++ (g ++ h)))))

record AreCounts (text : List ℕ) (discards faults : ℕ) : Type 0 where
  whole : text ≡ codes "discards " ++ (decimal discards ++ (codes " faults " ++ decimal faults))
  small : discards < 2 ^ 64

counts_of-read : (text : List ℕ) (counts : ℕ × ℕ) → counts_of text ≡ Some counts → AreCounts text counts.0 counts.1
unfolding counts_of
counts_of-read text counts e =
    let digits = some_then (without_front (codes "discards ") text) _ counts e in
    let parts = some_then (cut 32 digits.0) _ counts digits.2 in
    let discards = some_then (long_of parts.0.0) _ counts parts.2 in
    let last = some_then (without_front (codes "faults ") parts.0.1) _ counts discards.2 in
    let faults = some_then (long_of last.0) _ counts last.2 in
    let one = cut-parts 32 digits.0 parts.0.0 parts.0.1 parts.1 in
    let d = long_of-read parts.0.0 discards.0 discards.1 in
    let f = long_of-read last.0 faults.0 faults.1 in
    let tail : parts.0.1 ≡ codes "faults " ++ decimal faults.0 = without_front-is (codes "faults ") parts.0.1 last.0 last.1 ∙ ap (λ t. codes "faults " ++ t) f.0 in
    let made : AreCounts text discards.0 faults.0 = record {
      whole = without_front-is (codes "discards ") text digits.0 digits.1
          ∙ ap (λ t. codes "discards " ++ t) (one.whole ∙ ap (λ t. t ++ (32 ∷ parts.0.1)) d.0 ∙ ap (λ t. decimal discards.0 ++ (32 ∷ t)) tail);
      small = d.1;
    } in
    subst (λ (p : ℕ × ℕ). AreCounts text p.0 p.1) (same_Some _ counts faults.2) made

record AreEntries (text : List ℕ) (entries discards faults : ℕ) : Type 0 where
  whole : text ≡ codes "entries " ++ (decimal entries ++ (32 ∷ (codes "discards " ++ (decimal discards ++ (codes " faults " ++ decimal faults)))))
  small : discards < 2 ^ 64

guest_counts-read : (text : List ℕ) (counts : ℕ × (ℕ × ℕ)) → guest_counts text ≡ Some counts → AreEntries text counts.0 counts.1.0 counts.1.1
unfolding guest_counts
guest_counts-read text counts e =
    let digits = some_then (without_front (codes "entries ") text) _ counts e in
    let parts = some_then (cut 32 digits.0) _ counts digits.2 in
    let entries = some_then (numeral_of parts.0.0) _ counts parts.2 in
    let rest = some_then (counts_of parts.0.1) _ counts entries.2 in
    let one = cut-parts 32 digits.0 parts.0.0 parts.0.1 parts.1 in
    let n = numeral_of-read parts.0.0 entries.0 entries.1 in
    let is = counts_of-read parts.0.1 rest.0 rest.1 in
    let made : AreEntries text entries.0 rest.0.0 rest.0.1 = record {
      whole = without_front-is (codes "entries ") text digits.0 digits.1
          ∙ ap (λ t. codes "entries " ++ t) (one.whole ∙ ap (λ t. t ++ (32 ∷ parts.0.1)) n.0 ∙ ap (λ t. decimal entries.0 ++ (32 ∷ t)) is.whole);
      small = is.small;
    } in
    subst (λ (p : ℕ × (ℕ × ℕ)). AreEntries text p.0 p.1.0 p.1.1) (same_Some _ counts rest.2) made

-- the line of a guest without its line feed
abbrev pub guest_words : ℕ → ℕ → ℕ → ℕ → List ℕ
guest_words number entries discards faults =
    codes "guest " ++ decimal number ++ codes " entries " ++ decimal entries ++ codes " discards " ++ decimal discards ++ codes " faults " ++ decimal faults

record IsGuestHead (line : List ℕ) (number entries discards faults : ℕ) : Type 0 where
  whole : line ≡ guest_words number entries discards faults
  small : discards < 2 ^ 64

guest_head-read : (line : List ℕ) (head : ℕ × (ℕ × (ℕ × ℕ))) → guest_head line ≡ Some head → IsGuestHead line head.0 head.1.0 head.1.1.0 head.1.1.1
unfolding guest_head
guest_head-read line head e =
    let digits = some_then (without_front (codes "guest ") line) _ head e in
    let parts = some_then (cut 32 digits.0) _ head digits.2 in
    let guest = some_then (numeral_of parts.0.0) _ head parts.2 in
    let rest = some_then (guest_counts parts.0.1) _ head guest.2 in
    let one = cut-parts 32 digits.0 parts.0.0 parts.0.1 parts.1 in
    let n = numeral_of-read parts.0.0 guest.0 guest.1 in
    let is = guest_counts-read parts.0.1 rest.0 rest.1 in
    let made : IsGuestHead line guest.0 rest.0.0 rest.0.1.0 rest.0.1.1 = record {
      whole = without_front-is (codes "guest ") line digits.0 digits.1
          ∙ ap (λ t. codes "guest " ++ t) (one.whole ∙ ap (λ t. t ++ (32 ∷ parts.0.1)) n.0 ∙ ap (λ t. decimal guest.0 ++ (32 ∷ t)) is.whole)
          ∙ sym (guest_parts (codes "guest ") (decimal guest.0) (codes " entries ") (decimal rest.0.0) (codes " discards ") (decimal rest.0.1.0) (codes " faults ") (decimal rest.0.1.1));
      small = is.small;
    } in
    subst (λ (p : ℕ × (ℕ × (ℕ × ℕ))). IsGuestHead line p.0 p.1.0 p.1.1.0 p.1.1.1) (same_Some _ head rest.2) made

-- what the line of a guest says
record GuestTold (run : Bool) (number : ℕ) (plan : GuestPlan) (line : List ℕ) (entries : ℕ) : Type 0 where
  discards : ℕ
  faults : ℕ
  whole : line ≡ guest_words number entries discards faults
  many : are_entries run plan entries ≡ true
  few : faults ≤ discards
  small : discards < 2 ^ 64

entries_told-read : (run : Bool) (number : ℕ) (plan : GuestPlan) (line : List ℕ) (entries : ℕ) → entries_told run number plan line ≡ Some entries → GuestTold run number plan line entries
unfolding entries_told
entries_told-read run number plan line entries e =
    let head = some_then (guest_head line) _ entries e in
    let n = head.0.1.0 in
    let discards = head.0.1.1.0 in
    let faults = head.0.1.1.1 in
    let holds = given_holds ((head.0.0 == number) && are_entries run plan n && nat_le faults discards) n entries head.2 in
    let outer = and_parts ((head.0.0 == number) && are_entries run plan n) (nat_le faults discards) holds.0 in
    let inner = and_parts (head.0.0 == number) (are_entries run plan n) outer.0 in
    let is = guest_head-read line head.0 head.1 in
    record {
      discards = discards;
      faults = faults;
      whole = is.whole ∙ ap (λ k. guest_words k n discards faults) (eqb-true head.0.0 number inner.0) ∙ ap (λ k. guest_words number k discards faults) holds.1;
      many = subst (λ k. are_entries run plan k ≡ true) holds.1 inner.1;
      few = leb-true faults discards outer.1;
      small = is.small;
    }

all_entries : (run : Bool) (plan : GuestPlan) (journal : List Entry) → Legal plan journal → are_entries run plan (length journal) ≡ true → run ≡ true → Complete plan journal
all_entries true plan journal legal many is_run = complete-from_all plan journal legal (eqb-true (length journal) (all_commands plan) many)
all_entries false plan journal legal many is_run = absurd (true≢false (sym is_run))

-- a guest that is legal, and its text
record Guested (run : Bool) (number : ℕ) (plan : GuestPlan) (text rest : List ℕ) : Type 0 where
  guest : GuestReport
  text_of : text ≡ guest_text number guest ++ rest
  legal : IsLegalGuest run plan guest

guest_fits-read : (run : Bool) (number : ℕ) (plan : GuestPlan) (text rest : List ℕ) → ◌≡◌ {A = Result (List ℕ) (List ℕ)} (guest_fits run number plan text) (Ok rest) → Guested run number plan text rest
unfolding guest_fits
guest_fits-read run number plan text rest e =
    let step = ok_then (line_that (entries_told run number plan) text) (λ next. entries_fit plan (no_lines_walked plan) next.0 next.1) rest e in
    let read = line_that-read (entries_told run number plan) text step.0 step.1 in
    let told = entries_told-read run number plan read.words step.0.0 read.says in
    let walked = entries_fit-read plan (no_lines_walked plan) step.0.0 step.0.1 rest step.2 in
    let head = guest_line number (length walked.journal) told.discards told.faults in
    let words : read.words ≡ guest_words number (length walked.journal) told.discards told.faults = told.whole ∙ ap (λ n. guest_words number n told.discards told.faults) (sym walked.many) in
    let many : are_entries run plan (length walked.journal) ≡ true = subst (λ n. are_entries run plan n ≡ true) (sym walked.many) told.many in
    record {
      guest = record { journal = walked.journal; discards = told.discards; faults = told.faults };
      text_of = read.whole ∙ ap (λ t. line t ++ step.0.1) words ∙ ap (λ t. head ++ t) walked.text_of ∙ sym (append_assoc head (journal_text walked.journal) rest);
      legal = record {
        legal = walked.legal;
        complete = all_entries run plan walked.journal walked.legal many;
        by_disk = walked.disk;
        by_pager = walked.paging;
        faults = told.few;
        counted = told.small;
      };
    }

record AllGuested (run : Bool) (number : ℕ) (plans : List GuestPlan) (text rest : List ℕ) : Type 0 where
  guests : List GuestReport
  text_of : text ≡ guests_text number guests ++ rest
  legal : AreLegalGuests run plans guests

then_ok : (r : Result (List ℕ) (List ℕ)) (f : List ℕ → Result (List ℕ) (List ℕ)) (rest : List ℕ) → ◌≡◌ {A = Result (List ℕ) (List ℕ)} (r >>= f) (Ok rest)
    → (x : List ℕ) × (◌≡◌ {A = Result (List ℕ) (List ℕ)} r (Ok x)) × (◌≡◌ {A = Result (List ℕ) (List ℕ)} (f x) (Ok rest))
then_ok (Ok x) f rest e = (x, refl, e)
then_ok (Err left) f rest e = cc e

guests_fit-read : (run : Bool) (number : ℕ) (plans : List GuestPlan) (text rest : List ℕ) → ◌≡◌ {A = Result (List ℕ) (List ℕ)} (guests_fit run number plans text) (Ok rest)
    → AllGuested run number plans text rest
guests_fit-read run number [] text rest e = record { guests = []; text_of = ok_text text rest e; legal = tt }
guests_fit-read run number (plan ∷ plans) text rest e =
    let step = then_ok (guest_fits run number plan text) (guests_fit run (number + 1) plans) rest e in
    let one = guest_fits-read run number plan text step.0 step.1 in
    let more = guests_fit-read run (number + 1) plans step.0 rest step.2 in
    record {
      guests = one.guest ∷ more.guests;
      text_of = one.text_of ∙ ap (λ t. guest_text number one.guest ++ t) more.text_of ∙ sym (append_assoc (guest_text number one.guest) (guests_text (number + 1) more.guests) rest);
      legal = (one.legal, more.legal);
    }

-- ---- the whole report

is_run_of-read : (text : List ℕ) (run : Bool) → is_run_of text ≡ Some run → line text ≡ head_line run
unfolding is_run_of
is_run_of-read text run e = at (bytes_eq text (codes "cmm2-report 1 run")) (bytes_eq text (codes "cmm2-report 1 replay")) refl refl e
  where
    at : (a b : Bool) → bytes_eq text (codes "cmm2-report 1 run") ≡ a → bytes_eq text (codes "cmm2-report 1 replay") ≡ b
        → ◌≡◌ {A = Option Bool} (if a then Some true else if b then Some false else None) (Some run) → line text ≡ head_line run
    at true b is_run is_replay h = ap line (same_bytes text (codes "cmm2-report 1 run") is_run) ∙ ap head_line (same_Some true run h)
    at false true is_run is_replay h = ap line (same_bytes text (codes "cmm2-report 1 replay") is_replay) ∙ ap head_line (same_Some false run h)
    at false false is_run is_replay h = cc h

ended-read : (text rest : List ℕ) → ◌≡◌ {A = Result (List ℕ) (List ℕ)} (ended text) (Ok rest) → text ≡ []
ended-read [] rest e = refl
ended-read (byte ∷ text) rest e = cc e

end_of-read : (text words : List ℕ) → end_of text ≡ Some words → text ≡ codes "end"
unfolding end_of
end_of-read text words e = same_bytes text (codes "end") (given_holds (bytes_eq text (codes "end")) text words e).0

end_fits-read : (text rest : List ℕ) → ◌≡◌ {A = Result (List ℕ) (List ℕ)} (end_fits text) (Ok rest) → text ≡ end_line
unfolding end_fits
end_fits-read text rest e =
    let step = ok_then (line_that end_of text) (λ next. ended next.1) rest e in
    let read = line_that-read end_of text step.0 step.1 in
    read.whole ∙ ap (λ t. line t ++ step.0.1) (end_of-read read.words step.0.0 read.says) ∙ ap (λ t. end_line ++ t) (ended-read step.0.1 rest step.2)

record Scheduled (run : Bool) (events : ℕ) (text rest : List ℕ) : Type 0 where
  answers : List Answer
  many : length answers ≡ (if run then 0 else events)
  text_of : text ≡ events_text 0 answers ++ rest
  fits : AllByRecursion AnswerFits answers

schedule_fits-read : (run : Bool) (events : ℕ) (text rest : List ℕ) → ◌≡◌ {A = Result (List ℕ) (List ℕ)} (schedule_fits run events text) (Ok rest) → Scheduled run events text rest
schedule_fits-read true events text rest e = record { answers = []; many = refl; text_of = ok_text text rest e; fits = tt }
schedule_fits-read false events text rest e =
    let read = events_fit-read 0 events text rest e in
    record { answers = read.answers; many = read.many; text_of = read.text_of; fits = read.fits }

three_texts : (a b c d : List ℕ) → a ++ (b ++ (c ++ d)) ≡ a ++ b ++ c ++ d
three_texts a b c d = sym (append_assoc a b (c ++ d)) ∙ sym (append_assoc (a ++ b) c d)

report_fits-read : (plan : Scenario) (report rest : List ℕ) → ◌≡◌ {A = Result (List ℕ) (List ℕ)} (report_fits plan report) (Ok rest) → LegalReport plan report
unfolding report_fits
report_fits-read plan report rest e =
    let head = pair_then (line_that is_run_of report) _ rest e in
    let run = head.0.0 in
    let first = line_that-read is_run_of report head.0 head.1 in
    let schedule = then_ok (schedule_fits run (length plan.schedule) head.0.1) _ rest head.2 in
    let answers = schedule_fits-read run (length plan.schedule) head.0.1 schedule.0 schedule.1 in
    let guests = then_ok (guests_fit run 0 plan.guests schedule.0) end_fits rest schedule.2 in
    let all = guests_fit-read run 0 plan.guests schedule.0 guests.0 guests.1 in
    let events = events_text 0 answers.answers in
    let text = guests_text 0 all.guests in
    let last = end_fits-read guests.0 rest guests.2 in
    record {
      run = run;
      answers = answers.answers;
      guests = all.guests;
      text = first.whole ∙ ap (λ t. t ++ head.0.1) (is_run_of-read first.words run first.says)
          ∙ ap (λ t. head_line run ++ t) (answers.text_of ∙ ap (λ t. events ++ t) (all.text_of ∙ ap (λ t. text ++ t) last))
          ∙ three_texts (head_line run) events text end_line;
      answered = record { each_event = answers.many; numbers = All-from_recursion AnswerFits answers.answers answers.fits };
      legal = all.legal;
    }
  where
    pair_then : (r : Result (Bool × List ℕ) (List ℕ)) (f : Bool × List ℕ → Result (List ℕ) (List ℕ)) (rest : List ℕ) → ◌≡◌ {A = Result (List ℕ) (List ℕ)} (r >>= f) (Ok rest)
        → (x : Bool × List ℕ) × (◌≡◌ {A = Result (Bool × List ℕ) (List ℕ)} r (Ok x)) × (◌≡◌ {A = Result (List ℕ) (List ℕ)} (f x) (Ok rest))
    pair_then = ok_then

-- what is accepted is a legal report
pub accepted_is_legal : (plan : Scenario) (report : List ℕ) → verdict_of plan report ≡ Accepted → LegalReport plan report
accepted_is_legal plan report e = at (report_fits plan report) refl e
  where
    at : (r : Result (List ℕ) (List ℕ)) → report_fits plan report ≡ r → verdict_with report r ≡ Accepted → LegalReport plan report
    at (Ok rest) fits h = report_fits-read plan report rest fits
    at (Err rest) fits h = cc h
