-- The line of an event's answer is read as what it was written of, both ways.
use Rattle.std.proofs.Common.{◌≡◌, ◌∙◌, ℕ, ◌^◌, ◌<◌, List, [], ◌∷◌, ◌++◌, Bool, true, false, Option, Some, None, refl, sym, ap, subst, arith, append_assoc}
use Rattle.std.specs.Prelude.{codes, decimal, IfSome, IfNone}
use Rattle.std.specs.Option.{option_or}
use Rattle.std.specs.List.{AllByRecursion}
use Rattle.std.specs.Str.{bytes_eq}
use Rattle.std.proofs.lemmas.List.{append-nil}
use Rattle.std.proofs.lemmas.Option.{same_Some}
use Rattle.cmm_types.specs.declared.turn.Turn.TheVariants.{Moved, Finished, Waits, Again, Idle}
use Rattle.cmm_types.specs.declared.turn.Alone.TheVariants.{Finished as AloneFinished, Waits as AloneWaits, Idle as AloneIdle}
use Rattle.cmm_types.specs.declared.event.Answer.{Answer}
use Rattle.cmm_types.specs.declared.event.Answer.TheVariants.{Turn as TurnAnswer, Alone as AloneAnswer, HostDone, HostRefused, HostPaging, Reclaimed}
use Rattle.cmm_types.specs.declared.page.Refused.TheVariants.{Stable, Changed, Absent, Volatile, Counted}
use Rattle.cmm_report.specs.Texts.{answer_text}
use Rattle.cmm_report.proofs.Splits.{IsFree-decimal}
use Rattle.cmm_check.specs.Reading.{cut, without_front, numeral_of, two_numbers, three_numbers}
use Rattle.cmm_check.specs.Answers.{AnswerFits, IsEventLine, IsAgain, plain_answers, plain_answer, waits_of, alone_finished_of, alone_waits_of, reclaimed_count}
use Rattle.cmm_check.specs.Answers.{reclaimed_paging, reclaimed_with, reclaimed_of, answer_of, event_head, numbered_answer}
use Rattle.cmm_check.proofs.ReadingLaws.{then_some, some_then, not_some, given_holds, same_bytes, cut-append, cut-parts, cut-none, without_front-append}
use Rattle.cmm_check.proofs.ReadingLaws.{without_front-is, numeral_of-decimal, numeral_of-read, two_numbers-text, two_numbers-read, three_numbers-text}
use Rattle.cmm_check.proofs.ReadingLaws.{three_numbers-read, first_named-text, first_named-all}

-- two and three numbers behind some words
two_behind : (front : List ℕ) (a b : ℕ) → front ++ decimal a ++ codes " " ++ decimal b ≡ front ++ (decimal a ++ (32 ∷ decimal b))
two_behind front a b = append_assoc (front ++ decimal a) (32 ∷ []) (decimal b) ∙ append_assoc front (decimal a) (32 ∷ decimal b)

three_behind : (front : List ℕ) (a b c : ℕ) → front ++ decimal a ++ codes " " ++ decimal b ++ codes " " ++ decimal c ≡ front ++ (decimal a ++ (32 ∷ (decimal b ++ (32 ∷ decimal c))))
three_behind front a b c =
    append_assoc (front ++ decimal a ++ codes " " ++ decimal b) (32 ∷ []) (decimal c)
    ∙ append_assoc (front ++ decimal a ++ codes " ") (decimal b) (32 ∷ decimal c)
    ∙ append_assoc (front ++ decimal a) (32 ∷ []) (decimal b ++ (32 ∷ decimal c))
    ∙ append_assoc front (decimal a) (32 ∷ (decimal b ++ (32 ∷ decimal c)))

-- ---- from an answer to its text and back

waits_of-text : (page owner : ℕ) → page < 2 ^ 32 → owner < 2 ^ 32 → waits_of (answer_text (TurnAnswer (Waits page owner))) ≡ Some (TurnAnswer (Waits page owner))
unfolding waits_of
waits_of-text page owner sp so =
    then_some _ _ (decimal page ++ (32 ∷ decimal owner)) _ (ap (without_front (codes "waits ")) (two_behind (codes "waits ") page owner) ∙ without_front-append (codes "waits ") _)
    (then_some _ _ (page, owner) _ (two_numbers-text page owner sp so) refl)

alone_finished_of-text : (turns : ℕ) → turns < 2 ^ 32 → alone_finished_of (answer_text (AloneAnswer (AloneFinished turns))) ≡ Some (AloneAnswer (AloneFinished turns))
unfolding alone_finished_of
alone_finished_of-text turns small =
    then_some _ _ (decimal turns) _ (without_front-append (codes "alone finished ") (decimal turns)) (then_some _ _ turns _ (numeral_of-decimal turns small) refl)

alone_waits_of-text : (turns page owner : ℕ) → turns < 2 ^ 32 → page < 2 ^ 32 → owner < 2 ^ 32
    → alone_waits_of (answer_text (AloneAnswer (AloneWaits turns page owner))) ≡ Some (AloneAnswer (AloneWaits turns page owner))
unfolding alone_waits_of
alone_waits_of-text turns page owner st sp so =
    then_some _ _ (decimal turns ++ (32 ∷ (decimal page ++ (32 ∷ decimal owner)))) _
    (ap (without_front (codes "alone waits ")) (three_behind (codes "alone waits ") turns page owner) ∙ without_front-append (codes "alone waits ") _)
    (then_some _ _ (turns, (page, owner)) _ (three_numbers-text turns page owner st sp so) refl)

reclaimed_count-text : (count : ℕ) → count < 2 ^ 32 → reclaimed_count (decimal count) ≡ Some (Reclaimed count false)
unfolding reclaimed_count
reclaimed_count-text count small = then_some _ _ count _ (numeral_of-decimal count small) refl

reclaimed_paging-text : (count : ℕ) → count < 2 ^ 32 → reclaimed_paging (decimal count) (codes "failed paging") ≡ Some (Reclaimed count true)
unfolding reclaimed_paging
reclaimed_paging-text count small = then_some _ _ count _ (numeral_of-decimal count small) refl

reclaimed_of-text : (count : ℕ) (paging : Bool) → count < 2 ^ 32 → reclaimed_of (answer_text (Reclaimed count paging)) ≡ Some (Reclaimed count paging)
unfolding reclaimed_of
reclaimed_of-text count false small =
    then_some _ _ (decimal count) _ (ap (without_front (codes "reclaimed ")) (append-nil (codes "reclaimed " ++ decimal count)) ∙ without_front-append (codes "reclaimed ") (decimal count))
    (ap (λ o. reclaimed_with o (decimal count)) (cut-none 32 (decimal count) (IsFree-decimal 32 (omega arith) count)) ∙ reclaimed_count-text count small)
reclaimed_of-text count true small =
    let text = decimal count ++ (32 ∷ codes "failed paging") in
    then_some _ _ text _ (ap (without_front (codes "reclaimed ")) (append_assoc (codes "reclaimed ") (decimal count) (32 ∷ codes "failed paging")) ∙ without_front-append (codes "reclaimed ") text)
    (ap (λ o. reclaimed_with o text) (cut-append 32 (decimal count) (codes "failed paging") (IsFree-decimal 32 (omega arith) count)) ∙ reclaimed_paging-text count small)

plain_waits : (page owner : ℕ) → plain_answer (answer_text (TurnAnswer (Waits page owner))) ≡ None
unfolding plain_answer
plain_waits page owner = refl

not_before_finished : (turns : ℕ) → (plain_answer (answer_text (AloneAnswer (AloneFinished turns))) ≡ None) × (waits_of (answer_text (AloneAnswer (AloneFinished turns))) ≡ None)
unfolding plain_answer waits_of without_front
not_before_finished turns = (refl, refl)

not_before_waits : (turns page owner : ℕ) → (plain_answer (answer_text (AloneAnswer (AloneWaits turns page owner))) ≡ None)
    × (waits_of (answer_text (AloneAnswer (AloneWaits turns page owner))) ≡ None)
    × (alone_finished_of (answer_text (AloneAnswer (AloneWaits turns page owner))) ≡ None)
unfolding plain_answer waits_of alone_finished_of without_front
not_before_waits turns page owner = (refl, refl, refl)

not_before_reclaimed : (count : ℕ) (paging : Bool) → (plain_answer (answer_text (Reclaimed count paging)) ≡ None) × (waits_of (answer_text (Reclaimed count paging)) ≡ None)
    × (alone_finished_of (answer_text (Reclaimed count paging)) ≡ None) × (alone_waits_of (answer_text (Reclaimed count paging)) ≡ None)
unfolding plain_answer waits_of alone_finished_of alone_waits_of without_front
not_before_reclaimed count paging = (refl, refl, refl, refl)

-- the first reading that gives something

or_first : (a b : Option Answer) (x : Answer) → a ≡ Some x → option_or a b ≡ Some x
or_first a b x e = ap (λ o. option_or o b) e

or_later : (a b : Option Answer) (x : Answer) → a ≡ None → b ≡ Some x → option_or a b ≡ Some x
or_later a b x none e = ap (λ o. option_or o b) none ∙ e

pub answer_of-text : (answer : Answer) → AnswerFits answer → (IsAgain answer → ⊥) → answer_of (answer_text answer) ≡ Some answer
unfolding answer_of plain_answer
answer_of-text (TurnAnswer Moved) fits told = refl
answer_of-text (TurnAnswer Finished) fits told = refl
answer_of-text (TurnAnswer (Waits page owner)) fits told = or_later _ _ _ (plain_waits page owner) (or_first _ _ _ (waits_of-text page owner fits.0 fits.1))
answer_of-text (TurnAnswer (Again why)) fits told = absurd (told tt)
answer_of-text (TurnAnswer Idle) fits told = refl
answer_of-text (AloneAnswer (AloneFinished turns)) fits told =
    let not = not_before_finished turns in
    or_later _ _ _ not.0 (or_later _ _ _ not.1 (or_first _ _ _ (alone_finished_of-text turns fits)))
answer_of-text (AloneAnswer (AloneWaits turns page owner)) fits told =
    let not = not_before_waits turns page owner in
    or_later _ _ _ not.0 (or_later _ _ _ not.1 (or_later _ _ _ not.2 (or_first _ _ _ (alone_waits_of-text turns page owner fits.0 fits.1 fits.2))))
answer_of-text (AloneAnswer AloneIdle) fits told = refl
answer_of-text HostDone fits told = refl
answer_of-text (HostRefused Stable) fits told = refl
answer_of-text (HostRefused Changed) fits told = refl
answer_of-text (HostRefused Absent) fits told = refl
answer_of-text (HostRefused Volatile) fits told = refl
answer_of-text (HostRefused Counted) fits told = refl
answer_of-text HostPaging fits told = refl
answer_of-text (Reclaimed count paging) fits told =
    let not = not_before_reclaimed count paging in
    or_later _ _ _ not.0 (or_later _ _ _ not.1 (or_later _ _ _ not.2 (or_later _ _ _ not.3 (reclaimed_of-text count paging fits))))

-- ---- from a text to its answer and back

-- the text of an answer that a text tells
pub record Tells (text : List ℕ) (answer : Answer) : Type 0 where
  pub text_of : text ≡ answer_text answer
  pub fits : AnswerFits answer
  pub told : IsAgain answer → ⊥

abbrev IsPlain : Answer → Type 0
IsPlain answer = AnswerFits answer × (IsAgain answer → ⊥)

all_plain : AllByRecursion IsPlain plain_answers
all_plain = ((tt, λ h. h), ((tt, λ h. h), ((tt, λ h. h), ((tt, λ h. h), ((tt, λ h. h), ((tt, λ h. h), ((tt, λ h. h), ((tt, λ h. h), ((tt, λ h. h), ((tt, λ h. h), ((tt, λ h. h), tt)))))))))))

plain_answer-read : (text : List ℕ) (answer : Answer) → plain_answer text ≡ Some answer → Tells text answer
unfolding plain_answer
plain_answer-read text answer e =
    let plain : IsPlain answer = first_named-all IsPlain answer_text text plain_answers answer all_plain e in
    record { text_of = first_named-text answer_text text plain_answers answer e; fits = plain.0; told = plain.1 }

waits_of-read : (text : List ℕ) (answer : Answer) → waits_of text ≡ Some answer → Tells text answer
unfolding waits_of
waits_of-read text answer e =
    let numbers = some_then (without_front (codes "waits ") text) _ answer e in
    let both = some_then (two_numbers numbers.0) _ answer numbers.2 in
    let two = two_numbers-read numbers.0 both.0.0 both.0.1 both.1 in
    let made : Tells text (TurnAnswer (Waits both.0.0 both.0.1)) = record {
      text_of = without_front-is (codes "waits ") text numbers.0 numbers.1 ∙ ap (λ t. codes "waits " ++ t) two.text_of ∙ sym (two_behind (codes "waits ") both.0.0 both.0.1);
      fits = (two.first, two.second);
      told = λ h. h;
    } in
    subst (Tells text) (same_Some _ answer both.2) made

alone_finished_of-read : (text : List ℕ) (answer : Answer) → alone_finished_of text ≡ Some answer → Tells text answer
unfolding alone_finished_of
alone_finished_of-read text answer e =
    let digits = some_then (without_front (codes "alone finished ") text) _ answer e in
    let turns = some_then (numeral_of digits.0) _ answer digits.2 in
    let read = numeral_of-read digits.0 turns.0 turns.1 in
    let made : Tells text (AloneAnswer (AloneFinished turns.0)) = record {
      text_of = without_front-is (codes "alone finished ") text digits.0 digits.1 ∙ ap (λ t. codes "alone finished " ++ t) read.0;
      fits = read.1;
      told = λ h. h;
    } in
    subst (Tells text) (same_Some _ answer turns.2) made

alone_waits_of-read : (text : List ℕ) (answer : Answer) → alone_waits_of text ≡ Some answer → Tells text answer
unfolding alone_waits_of
alone_waits_of-read text answer e =
    let numbers = some_then (without_front (codes "alone waits ") text) _ answer e in
    let all = some_then (three_numbers numbers.0) _ answer numbers.2 in
    let three = three_numbers-read numbers.0 all.0.0 all.0.1.0 all.0.1.1 all.1 in
    let made : Tells text (AloneAnswer (AloneWaits all.0.0 all.0.1.0 all.0.1.1)) = record {
      text_of = without_front-is (codes "alone waits ") text numbers.0 numbers.1 ∙ ap (λ t. codes "alone waits " ++ t) three.text_of
          ∙ sym (three_behind (codes "alone waits ") all.0.0 all.0.1.0 all.0.1.1);
      fits = (three.first, three.second, three.third);
      told = λ h. h;
    } in
    subst (Tells text) (same_Some _ answer all.2) made

-- what stands behind the word `reclaimed`
record Behind (rest : List ℕ) (answer : Answer) : Type 0 where
  said : codes "reclaimed " ++ rest ≡ answer_text answer
  fits : AnswerFits answer
  told : IsAgain answer → ⊥

reclaimed_count-read : (rest : List ℕ) (answer : Answer) → reclaimed_count rest ≡ Some answer → Behind rest answer
unfolding reclaimed_count
reclaimed_count-read rest answer e =
    let count = some_then (numeral_of rest) _ answer e in
    let read = numeral_of-read rest count.0 count.1 in
    let made : Behind rest (Reclaimed count.0 false) = record {
      said = ap (λ t. codes "reclaimed " ++ t) read.0 ∙ sym (append-nil (codes "reclaimed " ++ decimal count.0));
      fits = read.1;
      told = λ h. h;
    } in
    subst (Behind rest) (same_Some _ answer count.2) made

reclaimed_paging-read : (rest digits words : List ℕ) (answer : Answer) → rest ≡ digits ++ (32 ∷ words) → reclaimed_paging digits words ≡ Some answer → Behind rest answer
unfolding reclaimed_paging
reclaimed_paging-read rest digits words answer parts e =
    let count = some_then (numeral_of digits) _ answer e in
    let holds = given_holds (bytes_eq words (codes "failed paging")) (Reclaimed count.0 true) answer count.2 in
    let read = numeral_of-read digits count.0 count.1 in
    let word : words ≡ codes "failed paging" = same_bytes words (codes "failed paging") holds.0 in
    let text : rest ≡ decimal count.0 ++ (32 ∷ codes "failed paging") = parts ∙ ap (λ t. t ++ (32 ∷ words)) read.0 ∙ ap (λ t. decimal count.0 ++ (32 ∷ t)) word in
    let made : Behind rest (Reclaimed count.0 true) = record {
      said = ap (λ t. codes "reclaimed " ++ t) text ∙ sym (append_assoc (codes "reclaimed ") (decimal count.0) (32 ∷ codes "failed paging"));
      fits = read.1;
      told = λ h. h;
    } in
    subst (Behind rest) holds.1 made

reclaimed_with-read : (rest : List ℕ) (answer : Answer) (o : Option (List ℕ × List ℕ)) → cut 32 rest ≡ o → reclaimed_with o rest ≡ Some answer → Behind rest answer
reclaimed_with-read rest answer None at e = reclaimed_count-read rest answer e
reclaimed_with-read rest answer (Some parts) at e = reclaimed_paging-read rest parts.0 parts.1 answer (cut-parts 32 rest parts.0 parts.1 at).whole e

reclaimed_of-read : (text : List ℕ) (answer : Answer) → reclaimed_of text ≡ Some answer → Tells text answer
unfolding reclaimed_of
reclaimed_of-read text answer e =
    let rest = some_then (without_front (codes "reclaimed ") text) _ answer e in
    let read = reclaimed_with-read rest.0 answer (cut 32 rest.0) refl rest.2 in
    record { text_of = without_front-is (codes "reclaimed ") text rest.0 rest.1 ∙ read.said; fits = read.fits; told = read.told }

pub answer_of-read : (text : List ℕ) (answer : Answer) → answer_of text ≡ Some answer → Tells text answer
unfolding answer_of
answer_of-read text answer e = at (plain_answer text) (waits_of text) (alone_finished_of text) (alone_waits_of text) refl refl refl refl e
  where
    at : (a b c d : Option Answer) → plain_answer text ≡ a → waits_of text ≡ b → alone_finished_of text ≡ c → alone_waits_of text ≡ d
        → option_or a (option_or b (option_or c (option_or d (reclaimed_of text)))) ≡ Some answer → Tells text answer
    at (Some a) b c d pa pb pc pd h = plain_answer-read text answer (pa ∙ h)
    at None (Some b) c d pa pb pc pd h = waits_of-read text answer (pb ∙ h)
    at None None (Some c) d pa pb pc pd h = alone_finished_of-read text answer (pc ∙ h)
    at None None None (Some d) pa pb pc pd h = alone_waits_of-read text answer (pd ∙ h)
    at None None None None pa pb pc pd h = reclaimed_of-read text answer h

-- ---- events

event_parts : (number : ℕ) (text : List ℕ) → codes "event " ++ decimal number ++ codes " " ++ text ≡ codes "event " ++ (decimal number ++ (32 ∷ text))
event_parts number text = append_assoc (codes "event " ++ decimal number) (32 ∷ []) text ∙ append_assoc (codes "event ") (decimal number) (32 ∷ text)

pub event_head-text : (number : ℕ) (text : List ℕ) → number < 2 ^ 32 → event_head (codes "event " ++ decimal number ++ codes " " ++ text) ≡ Some (number, text)
unfolding event_head
event_head-text number text small =
    then_some _ _ (decimal number ++ (32 ∷ text)) _ (ap (without_front (codes "event ")) (event_parts number text) ∙ without_front-append (codes "event ") _)
    (then_some _ _ (decimal number, text) _ (cut-append 32 (decimal number) text (IsFree-decimal 32 (omega arith) number)) (then_some _ _ number _ (numeral_of-decimal number small) refl))

pub record IsEventHead (line : List ℕ) (number : ℕ) (text : List ℕ) : Type 0 where
  pub whole : line ≡ codes "event " ++ decimal number ++ codes " " ++ text
  pub small : number < 2 ^ 32

pub event_head-read : (line : List ℕ) (head : ℕ × List ℕ) → event_head line ≡ Some head → IsEventHead line head.0 head.1
unfolding event_head
event_head-read line head e =
    let rest = some_then (without_front (codes "event ") line) _ head e in
    let parts = some_then (cut 32 rest.0) _ head rest.2 in
    let number = some_then (numeral_of parts.0.0) _ head parts.2 in
    let one = cut-parts 32 rest.0 parts.0.0 parts.0.1 parts.1 in
    let read = numeral_of-read parts.0.0 number.0 number.1 in
    let made : IsEventHead line number.0 parts.0.1 = record {
      whole = without_front-is (codes "event ") line rest.0 rest.1 ∙ ap (λ t. codes "event " ++ t) (one.whole ∙ ap (λ t. t ++ (32 ∷ parts.0.1)) read.0) ∙ sym (event_parts number.0 parts.0.1);
      small = read.1;
    } in
    subst (λ (h : ℕ × List ℕ). IsEventHead line h.0 h.1) (same_Some _ head number.2) made

numbered_answer-text : (line : List ℕ) (number : ℕ) (answer : Answer) → IsEventLine line number answer → (IsAgain answer → ⊥) → numbered_answer line ≡ Some (number, answer)
unfolding numbered_answer
numbered_answer-text line number answer is told =
    then_some _ _ (number, answer_text answer) _ (ap event_head is.text ∙ event_head-text number (answer_text answer) is.event)
    (then_some _ _ answer _ (answer_of-text answer is.answered told) refl)

pub record IsToldEvent (line : List ℕ) (number : ℕ) (answer : Answer) : Type 0 where
  pub line_of : IsEventLine line number answer
  pub told : IsAgain answer → ⊥

pub numbered_answer-read : (line : List ℕ) (event : ℕ × Answer) → numbered_answer line ≡ Some event → IsToldEvent line event.0 event.1
unfolding numbered_answer
numbered_answer-read line event e =
    let head = some_then (event_head line) _ event e in
    let answer = some_then (answer_of head.0.1) _ event head.2 in
    let is = event_head-read line head.0 head.1 in
    let says = answer_of-read head.0.1 answer.0 answer.1 in
    let front = codes "event " ++ decimal head.0.0 ++ codes " " in
    let made : IsToldEvent line head.0.0 answer.0 = record { line_of = record { text = is.whole ∙ ap (λ t. front ++ t) says.text_of; event = is.small; answered = says.fits }; told = says.told } in
    subst (λ (x : ℕ × Answer). IsToldEvent line x.0 x.1) (same_Some _ event answer.2) made

-- nothing is read where the line is no event's, or says `again`
pub no_event : (line : List ℕ) → numbered_answer line ≡ None → (number : ℕ) (answer : Answer) → IsEventLine line number answer → IsAgain answer
no_event line none number answer is = at answer is
  where
    other : (a : Answer) → IsEventLine line number a → (IsAgain a → ⊥) → IsAgain a
    other a is_line told = not_some _ (sym none ∙ numbered_answer-text line number a is_line told)

    at : (a : Answer) → IsEventLine line number a → IsAgain a
    at (TurnAnswer Moved) is_line = other (TurnAnswer Moved) is_line (λ h. h)
    at (TurnAnswer Finished) is_line = other (TurnAnswer Finished) is_line (λ h. h)
    at (TurnAnswer (Waits page owner)) is_line = other (TurnAnswer (Waits page owner)) is_line (λ h. h)
    at (TurnAnswer (Again why)) is_line = tt
    at (TurnAnswer Idle) is_line = other (TurnAnswer Idle) is_line (λ h. h)
    at (AloneAnswer alone) is_line = other (AloneAnswer alone) is_line (λ h. h)
    at HostDone is_line = other HostDone is_line (λ h. h)
    at (HostRefused refused) is_line = other (HostRefused refused) is_line (λ h. h)
    at HostPaging is_line = other HostPaging is_line (λ h. h)
    at (Reclaimed count paging) is_line = other (Reclaimed count paging) is_line (λ h. h)

-- what is read of a line

pub some_line : (line : List ℕ) (o : Option (ℕ × Answer)) → o ≡ numbered_answer line → IfSome o (λ event. IsEventLine line event.0 event.1)
some_line line None e = tt
some_line line (Some event) e = (numbered_answer-read line event (sym e)).line_of

pub some_told : (line : List ℕ) (o : Option (ℕ × Answer)) → o ≡ numbered_answer line → IfSome o (λ event. IsAgain event.1 → ⊥)
some_told line None e = tt
some_told line (Some event) e = (numbered_answer-read line event (sym e)).told

pub none_line : (line : List ℕ) (o : Option (ℕ × Answer)) → o ≡ numbered_answer line → IfNone o ((number : ℕ) (answer : Answer) → IsEventLine line number answer → IsAgain answer)
none_line line None e = no_event line (sym e)
none_line line (Some event) e = tt
