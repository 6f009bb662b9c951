-- A report's text gives the lines of each guest's journal.
use Rattle.std.proofs.Common.{◌≡◌, ◌∙◌, ℕ, ◌+◌, ◌<◌, List, [], ◌∷◌, ◌++◌, Bool, true, false, length, get_or, map, refl, sym, ap, subst, arith, append_assoc, length-append}
use Rattle.std.specs.Prelude.{codes, decimal, All}
use Rattle.std.specs.List.{AllByRecursion, flat_map}
use Rattle.std.specs.Int.{IsInRange}
use Rattle.std.specs.Str.Parse.{AllDigits}
use Rattle.std.proofs.lemmas.List.Elements.{recursion_from_All}
use Rattle.std.proofs.lemmas.List.Concat.{flat_map-append}
use Rattle.std.proofs.lemmas.List.Folds.{flat_map-map}
use Rattle.std.proofs.lemmas.Str.Parse.{digit_from_value}
use Rattle.std.proofs.lemmas.Fmt.{decimal_is_IsNumeral}
use Rattle.cmm_types.specs.declared.event.Answer.{Answer}
use Rattle.cmm_types.specs.declared.event.Answer.TheVariants.{Turn as TurnAnswer, Alone as AloneAnswer, HostDone, HostRefused, HostPaging, Reclaimed}
use Rattle.cmm_types.specs.declared.turn.Turn.{Turn}
use Rattle.cmm_types.specs.declared.turn.Turn.TheVariants.{Moved, Finished, Waits, Again, Idle}
use Rattle.cmm_types.specs.declared.turn.Alone.{Alone}
use Rattle.cmm_types.specs.declared.turn.Alone.TheVariants.{Finished as AloneFinished, Waits as AloneWaits, Idle as AloneIdle}
use Rattle.cmm_types.specs.declared.page.Refused.{Refused}
use Rattle.cmm_types.specs.declared.page.Refused.TheVariants.{Stable, Changed, Absent, Volatile, Counted}
use Rattle.cmm_types.specs.declared.command.Entry.{Entry}
use Rattle.cmm_report.specs.Texts.{turn_text, alone_text, refused_text, paging_text, answer_text, reply_text}
use Rattle.cmm_report.specs.Lines.{line, head_line}
use Rattle.cmm_report.specs.Report.{GuestReport, events_text, guests_text, journal_text, report_of}
use Rattle.cmm_report.specs.JournalLines.{EntryFits, JournalFits, SameJournals, lines_of}
use Rattle.cmm_report.proofs.Splits.{IsFree, IsFree-append, IsFree-decimal, IsFree-text, is_free, split_same, head_same, tail_same}
use Rattle.cmm_report.proofs.JournalLaws.{unended, IsFree-unended, three_parts, lines_same}

-- no line feed stands in the text of an answer

free_number : (front : List ℕ) (n : ℕ) → IsFree 10 front → IsFree 10 (front ++ decimal n)
free_number front n free = IsFree-append 10 front (decimal n) free (IsFree-decimal 10 (omega arith) n)

free_word : (front word : List ℕ) → is_free 10 word ≡ true → IsFree 10 front → IsFree 10 (front ++ word)
free_word front word test free = IsFree-append 10 front word free (IsFree-text 10 word test)

free_two : (front : List ℕ) (n m : ℕ) → IsFree 10 front → IsFree 10 (front ++ decimal n ++ codes " " ++ decimal m)
free_two front n m free = free_number (front ++ decimal n ++ codes " ") m (free_word (front ++ decimal n) (codes " ") refl (free_number front n free))

free_turn : (turn : Turn) → IsFree 10 (turn_text turn)
free_turn Moved = IsFree-text 10 (codes "moved") refl
free_turn Finished = IsFree-text 10 (codes "finished") refl
free_turn (Waits page owner) = free_two (codes "waits ") page owner (IsFree-text 10 (codes "waits ") refl)
free_turn (Again why) = IsFree-text 10 (codes "again") refl
free_turn Idle = IsFree-text 10 (codes "idle") refl

free_alone : (alone : Alone) → IsFree 10 (alone_text alone)
free_alone (AloneFinished turns) = free_number (codes "alone finished ") turns (IsFree-text 10 (codes "alone finished ") refl)
free_alone (AloneWaits turns page owner) =
    let front = codes "alone waits " ++ decimal turns in
    free_two (front ++ codes " ") page owner (free_word front (codes " ") refl (free_number (codes "alone waits ") turns (IsFree-text 10 (codes "alone waits ") refl)))
free_alone AloneIdle = IsFree-text 10 (codes "alone idle") refl

free_refused : (refused : Refused) → IsFree 10 (refused_text refused)
free_refused Stable = IsFree-text 10 (codes "refused stable") refl
free_refused Changed = IsFree-text 10 (codes "refused changed") refl
free_refused Absent = IsFree-text 10 (codes "refused absent") refl
free_refused Volatile = IsFree-text 10 (codes "refused volatile") refl
free_refused Counted = IsFree-text 10 (codes "refused counted") refl

free_paging : (paging : Bool) → is_free 10 (paging_text paging) ≡ true
free_paging true = refl
free_paging false = refl

free_answer : (answer : Answer) → IsFree 10 (answer_text answer)
free_answer (TurnAnswer turn) = free_turn turn
free_answer (AloneAnswer alone) = free_alone alone
free_answer HostDone = IsFree-text 10 (codes "done") refl
free_answer (HostRefused refused) = free_refused refused
free_answer HostPaging = IsFree-text 10 (codes "failed paging") refl
free_answer (Reclaimed count paging) =
    free_word (codes "reclaimed " ++ decimal count) (paging_text paging) (free_paging paging) (free_number (codes "reclaimed ") count (IsFree-text 10 (codes "reclaimed ") refl))

-- the lines of a report without their line feeds

abbrev pub head_text : Bool → List ℕ
head_text true = codes "cmm2-report 1 run"
head_text false = codes "cmm2-report 1 replay"

abbrev pub event_text : ℕ → Answer → List ℕ
event_text number answer = codes "event " ++ decimal number ++ codes " " ++ answer_text answer

abbrev pub guest_head : ℕ → GuestReport → List ℕ
guest_head number guest =
    codes "guest " ++ decimal number ++ codes " entries " ++ decimal (length guest.journal) ++ codes " discards " ++ decimal guest.discards ++ codes " faults " ++ decimal guest.faults

abbrev event_texts : ℕ → List Answer → List (List ℕ)
event_texts number [] = []
event_texts number (answer ∷ answers) = event_text number answer ∷ event_texts (number + 1) answers

-- those of the guests, and the last line
abbrev rest_texts : ℕ → List GuestReport → List (List ℕ)
rest_texts number [] = codes "end" ∷ []
rest_texts number (guest ∷ guests) = guest_head number guest ∷ (map unended guest.journal ++ rest_texts (number + 1) guests)

abbrev report_texts : Bool → List Answer → List GuestReport → List (List ℕ)
report_texts run answers guests = head_text run ∷ (event_texts 0 answers ++ rest_texts 0 guests)

abbrev joined : List (List ℕ) → List ℕ
joined texts = flat_map line texts

joined_events : (number : ℕ) (answers : List Answer) → joined (event_texts number answers) ≡ events_text number answers
joined_events number [] = refl
joined_events number (answer ∷ answers) = ap (λ t. line (event_text number answer) ++ t) (joined_events (number + 1) answers)

joined_journal : (journal : List Entry) → joined (map unended journal) ≡ journal_text journal
joined_journal journal = flat_map-map line unended journal

joined_rest : (number : ℕ) (guests : List GuestReport) → joined (rest_texts number guests) ≡ guests_text number guests ++ line (codes "end")
joined_rest number [] = refl
joined_rest number (guest ∷ guests) =
    let head = line (guest_head number guest) in
    let journal = journal_text guest.journal in
    let more = guests_text (number + 1) guests in
    ap (λ t. head ++ t)
    (flat_map-append line (map unended guest.journal) (rest_texts (number + 1) guests)
    ∙ ap (λ t. t ++ joined (rest_texts (number + 1) guests)) (joined_journal guest.journal)
    ∙ ap (λ t. journal ++ t) (joined_rest (number + 1) guests))
    ∙ sym (append_assoc head journal (more ++ line (codes "end")))
    ∙ sym (append_assoc (head ++ journal) more (line (codes "end")))

pub joined_head : (run : Bool) → line (head_text run) ≡ head_line run
joined_head true = refl
joined_head false = refl

joined_report : (run : Bool) (answers : List Answer) (guests : List GuestReport) → joined (report_texts run answers guests) ≡ report_of run answers guests
joined_report run answers guests =
    let end = line (codes "end") in
    let events = events_text 0 answers in
    let rest = guests_text 0 guests in
    ap (λ t. t ++ joined (event_texts 0 answers ++ rest_texts 0 guests)) (joined_head run)
    ∙ ap (λ t. head_line run ++ t)
    (flat_map-append line (event_texts 0 answers) (rest_texts 0 guests) ∙ ap (λ t. t ++ joined (rest_texts 0 guests)) (joined_events 0 answers) ∙ ap (λ t. events ++ t) (joined_rest 0 guests))
    ∙ sym (append_assoc (head_line run) events (rest ++ end))
    ∙ sym (append_assoc (head_line run ++ events) rest end)

-- they are lines: no line feed stands in them

pub free_head : (run : Bool) → IsFree 10 (head_text run)
free_head true = IsFree-text 10 (head_text true) refl
free_head false = IsFree-text 10 (head_text false) refl

pub free_event : (number : ℕ) (answer : Answer) → IsFree 10 (event_text number answer)
free_event number answer =
    let front = codes "event " ++ decimal number in
    let free = free_word front (codes " ") refl (free_number (codes "event ") number (IsFree-text 10 (codes "event ") refl)) in
    IsFree-append 10 (front ++ codes " ") (answer_text answer) free (free_answer answer)

pub free_guest : (number : ℕ) (guest : GuestReport) → IsFree 10 (guest_head number guest)
free_guest number guest =
    let first = codes "guest " ++ decimal number in
    let second = first ++ codes " entries " ++ decimal (length guest.journal) in
    let third = second ++ codes " discards " ++ decimal guest.discards in
    let entries = free_number (first ++ codes " entries ") (length guest.journal)
    (free_word first (codes " entries ") refl (free_number (codes "guest ") number (IsFree-text 10 (codes "guest ") refl))) in
    let discards = free_number (second ++ codes " discards ") guest.discards (free_word second (codes " discards ") refl entries) in
    free_number (third ++ codes " faults ") guest.faults (free_word third (codes " faults ") refl discards)

abbrev AreLines : List (List ℕ) → Type 0
AreLines texts = AllByRecursion (IsFree 10) texts

lines-append : (a b : List (List ℕ)) → AreLines a → AreLines b → AreLines (a ++ b)
lines-append [] b fa fb = fb
lines-append (x ∷ a) b fa fb = (fa.0, lines-append a b fa.1 fb)

lines_events : (number : ℕ) (answers : List Answer) → AreLines (event_texts number answers)
lines_events number [] = tt
lines_events number (answer ∷ answers) = (free_event number answer, lines_events (number + 1) answers)

lines_journal : (journal : List Entry) → AllByRecursion EntryFits journal → AreLines (map unended journal)
lines_journal [] fits = tt
lines_journal (entry ∷ journal) fits = (IsFree-unended entry fits.0, lines_journal journal fits.1)

abbrev Fits : GuestReport → Type 0
Fits guest = AllByRecursion EntryFits guest.journal

lines_rest : (number : ℕ) (guests : List GuestReport) → AllByRecursion Fits guests → AreLines (rest_texts number guests)
lines_rest number [] fits = (IsFree-text 10 (codes "end") refl, tt)
lines_rest number (guest ∷ guests) fits =
    (free_guest number guest, lines-append (map unended guest.journal) (rest_texts (number + 1) guests) (lines_journal guest.journal fits.0) (lines_rest (number + 1) guests fits.1))

lines_report : (run : Bool) (answers : List Answer) (guests : List GuestReport) → AllByRecursion Fits guests → AreLines (report_texts run answers guests)
lines_report run answers guests fits = (free_head run, lines-append (event_texts 0 answers) (rest_texts 0 guests) (lines_events 0 answers) (lines_rest 0 guests fits))

no_text : (x t : List ℕ) → [] ≡ line x ++ t → ⊥
no_text x t e = omega (arith, ap length e, length-append (line x) t, length-append x (10 ∷ []))

-- a text is of one list of lines
same_lines : (a b : List (List ℕ)) → AreLines a → AreLines b → joined a ≡ joined b → a ≡ b
same_lines [] [] fa fb e = refl
same_lines [] (y ∷ b) fa fb e = absurd (no_text y (joined b) e)
same_lines (x ∷ a) [] fa fb e = absurd (no_text x (joined a) (sym e))
same_lines (x ∷ a) (y ∷ b) fa fb e =
    let parts = split_same 10 x y (joined a) (joined b) fa.0 fb.0 (sym (append_assoc x (10 ∷ []) (joined a)) ∙ e ∙ append_assoc y (10 ∷ []) (joined b)) in
    ap (λ t. t ∷ a) parts.0 ∙ ap (λ l. y ∷ l) (same_lines a b fa.1 fb.1 parts.1)

-- lines of one kind, up to the first of another

abbrev Stops : (List ℕ → Type 0) → List (List ℕ) → Type 0
Stops P [] = Unit {0}
Stops P (x ∷ xs) = P x → ⊥

span_same : (P : List ℕ → Type 0) (a b u v : List (List ℕ)) → AllByRecursion P a → AllByRecursion P b → Stops P u → Stops P v → a ++ u ≡ b ++ v → (a ≡ b) × (u ≡ v)
span_same P [] [] u v pa pb su sv e = (refl, e)
span_same P [] (y ∷ b) u v pa pb su sv e = absurd (subst (Stops P) e su pb.0)
span_same P (x ∷ a) [] u v pa pb su sv e = absurd (subst (Stops P) (sym e) sv pa.0)
span_same P (x ∷ a) (y ∷ b) u v pa pb su sv e =
    let rest = span_same P a b u v pa.1 pb.1 su sv (tail_same x y (a ++ u) (b ++ v) e) in
    (ap (λ z. z ∷ a) (head_same x y (a ++ u) (b ++ v) e) ∙ ap (λ l. y ∷ l) rest.0, rest.1)

-- an event's line has a `v` behind its first letter, and an entry's begins with a digit

abbrev IsEvent : List ℕ → Type 0
IsEvent text = get_or text 1 0 ≡ 118

abbrev IsEntry : List ℕ → Type 0
IsEntry text = get_or text 0 0 < 58

all_events : (number : ℕ) (answers : List Answer) → AllByRecursion IsEvent (event_texts number answers)
all_events number [] = tt
all_events number (answer ∷ answers) = (refl, all_events (number + 1) answers)

no_event : (number : ℕ) (guests : List GuestReport) → Stops IsEvent (rest_texts number guests)
no_event number [] = λ e. omega (arith, e)
no_event number (guest ∷ guests) = λ e. omega (arith, e)

no_entry : (number : ℕ) (guests : List GuestReport) → Stops IsEntry (rest_texts number guests)
no_entry number [] = λ e. omega (arith, e)
no_entry number (guest ∷ guests) = λ e. omega (arith, e)

first_digit : (digits rest : List ℕ) → 0 < length digits → AllDigits 10 digits → get_or (digits ++ rest) 0 0 < 58
first_digit [] rest some all = absurd (omega arith)
first_digit (c ∷ digits) rest some all =
    let range : IsInRange 48 57 c = digit_from_value c all.0 in
    omega (arith, range)

is_entry : (entry : Entry) → EntryFits entry → IsEntry (unended entry)
is_entry entry fits =
    let digits = (decimal_is_IsNumeral entry.cpu (omega (arith, fits.cpu))).0 in
    subst IsEntry (sym (three_parts (decimal entry.cpu) (decimal entry.k) (reply_text entry.reply)))
    (first_digit (decimal entry.cpu) (32 ∷ (decimal entry.k ++ (32 ∷ reply_text entry.reply))) digits.0 digits.1)

all_entries : (journal : List Entry) → AllByRecursion EntryFits journal → AllByRecursion IsEntry (map unended journal)
all_entries [] fits = tt
all_entries (entry ∷ journal) fits = (is_entry entry fits.0, all_entries journal fits.1)

-- the lines from the first guest's on give each guest's journal
guests_same : (number : ℕ) (guests others : List GuestReport) → AllByRecursion Fits guests → AllByRecursion Fits others → rest_texts number guests ≡ rest_texts number others
    → SameJournals guests others
guests_same number [] [] fa fb e = refl
guests_same number [] (b ∷ others) fa fb e = absurd (omega (arith, ap (λ l. get_or (get_or l 0 []) 0 0) e))
guests_same number (a ∷ guests) [] fa fb e = absurd (omega (arith, ap (λ l. get_or (get_or l 0 []) 0 0) e))
guests_same number (a ∷ guests) (b ∷ others) fa fb e =
    let more = rest_texts (number + 1) guests in
    let other_more = rest_texts (number + 1) others in
    let behind = tail_same (guest_head number a) (guest_head number b) (map unended a.journal ++ more) (map unended b.journal ++ other_more) e in
    let parts = span_same IsEntry (map unended a.journal) (map unended b.journal) more other_more (all_entries a.journal fa.0) (all_entries b.journal fb.0) (no_entry (number + 1) guests)
    (no_entry (number + 1) others) behind in
    let text : journal_text a.journal ≡ journal_text b.journal = sym (joined_journal a.journal) ∙ ap joined parts.0 ∙ joined_journal b.journal in
    ap (λ x. x ∷ map lines_of guests) (lines_same a.journal b.journal fa.0 fb.0 text) ∙ ap (λ t. lines_of b ∷ t) (guests_same (number + 1) guests others fa.1 fb.1 parts.1)

all_fit : (guests : List GuestReport) → AllByRecursion JournalFits guests → AllByRecursion Fits guests
all_fit [] fits = tt
all_fit (guest ∷ guests) fits = (recursion_from_All EntryFits guest.journal fits.0, all_fit guests fits.1)

pub journals_determined : (run other_run : Bool) (answers other_answers : List Answer) (guests others : List GuestReport) → All JournalFits guests → All JournalFits others
    → report_of run answers guests ≡ report_of other_run other_answers others → SameJournals guests others
journals_determined run other_run answers other_answers guests others fits other_fits e =
    let fa = all_fit guests (recursion_from_All JournalFits guests fits) in
    let fb = all_fit others (recursion_from_All JournalFits others other_fits) in
    let rest = rest_texts 0 guests in
    let other_rest = rest_texts 0 others in
    let lines = same_lines (report_texts run answers guests) (report_texts other_run other_answers others) (lines_report run answers guests fa) (lines_report other_run other_answers others fb)
    (joined_report run answers guests ∙ e ∙ sym (joined_report other_run other_answers others)) in
    let behind = tail_same (head_text run) (head_text other_run) (event_texts 0 answers ++ rest) (event_texts 0 other_answers ++ other_rest) lines in
    let parts = span_same IsEvent (event_texts 0 answers) (event_texts 0 other_answers) rest other_rest (all_events 0 answers) (all_events 0 other_answers) (no_event 0 guests)
    (no_event 0 others) behind in
    guests_same 0 guests others fa fb parts.1
