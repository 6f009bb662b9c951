use Rattle.std.proofs.Common.{◌≡◌, ◌∙◌, ℕ, ◌+◌, ◌<◌, List, [], ◌∷◌, ◌++◌, length, get_or, take, drop, Option, Result, Ok, Err, sym, ap, subst, append_assoc, arith}
use Rattle.std.specs.Prelude.{IsErr}
use Rattle.std.proofs.lemmas.List.{take_more, drop_more, take-append-drop, length-take-le, append-nil, get_or_default}
use Rattle.std.proofs.lemmas.List.Concat.{flat_map-append}
use Rattle.cmm_types.specs.declared.event.Answer.{Answer}
use Rattle.cmm_types.specs.declared.command.Entry.{Entry}
use Rattle.cmm_io.specs.SinkBytes.{Writes}
use Rattle.cmm_io.specs.Laws.SinkBytesLaws.{Writes-then, Writes-stop}
use Rattle.cmm_io.specs.declared.write.WriteFault.{WriteFault}
use Rattle.cmm_report.specs.Lines.{event_line, entry_line}
use Rattle.cmm_report.specs.Report.{events_text, journal_text}

module _ {K : Type 0} (faults : K → ℕ) (written : K → Option (List ℕ)) where
  -- this text was written
  abbrev pub Wrote : K → K → List ℕ → Type 0
  Wrote old new text = Writes faults written old new text {T = Unit {0}} {E = WriteFault} (Ok tt)

  -- what was done, and one more piece
  pub wrote_more : (old middle new : K) (done piece whole : List ℕ) → whole ≡ done ++ piece → Wrote old middle done → Wrote middle new piece → Wrote old new whole
  wrote_more old middle new done piece whole parts first second =
      subst (Wrote old new) (sym parts) (Writes-then faults written old middle new done piece tt (Ok tt) first second)

  -- what was done, and a piece that failed, with more to come
  pub stopped : (old middle new : K) (done piece rest whole : List ℕ) (cause : WriteFault) (result : Result (Unit {0}) WriteFault) → whole ≡ done ++ (piece ++ rest) → IsErr result
      → Wrote old middle done → Writes faults written middle new piece {T = Unit {0}} {E = WriteFault} (Err cause) → Writes faults written old new whole result
  stopped old middle new done piece rest whole cause result parts failed first second =
      subst (λ text. Writes faults written old new text result) (sym parts)
      (Writes-then faults written old middle new done (piece ++ rest) tt result first (Writes-stop faults written middle new piece rest cause result failed second))

split_at : {X : Type 0} (xs : List X) (k : ℕ) (x : X) → k < length xs → x ≡ get_or xs k x → xs ≡ take k xs ++ (x ∷ drop (k + 1) xs)
split_at xs k x l e = sym (take-append-drop k xs) ∙ ap (λ r. take k xs ++ r) (drop_more xs k x l ∙ ap (λ y. y ∷ drop (k + 1) xs) (sym e))

take_split : {X : Type 0} (xs : List X) (k : ℕ) (x : X) → k < length xs → x ≡ get_or xs k x → take (k + 1) xs ≡ take k xs ++ (x ∷ [])
take_split xs k x l e = take_more xs k x l ∙ ap (λ y. take k xs ++ (y ∷ [])) (sym e)

events-append : (number : ℕ) (xs ys : List Answer) → events_text number (xs ++ ys) ≡ events_text number xs ++ events_text (number + length xs) ys
events-append number [] ys = ap (λ n. events_text n ys) (omega arith)
events-append number (x ∷ xs) ys =
    ap (λ t. event_line number x ++ t) (events-append (number + 1) xs ys)
    ∙ sym (append_assoc (event_line number x) (events_text (number + 1) xs) (events_text (number + 1 + length xs) ys))
    ∙ ap (λ n. (event_line number x ++ events_text (number + 1) xs) ++ events_text n ys) (omega arith)

at_index : (k n : ℕ) → n ≡ k → (ys : List Answer) → events_text (0 + n) ys ≡ events_text k ys
at_index k n e ys = ap (λ m. events_text m ys) (omega arith)

pub events_more : (xs : List Answer) (k : ℕ) (x : Answer) → k < length xs → x ≡ get_or xs k x → events_text 0 (take (k + 1) xs) ≡ events_text 0 (take k xs) ++ event_line k x
events_more xs k x l e =
    let size : length (take k xs) ≡ k = length-take-le k xs (omega arith) in
    ap (events_text 0) (take_split xs k x l e) ∙ events-append 0 (take k xs) (x ∷ [])
    ∙ ap (λ t. events_text 0 (take k xs) ++ t) (at_index k _ size (x ∷ []) ∙ append-nil (event_line k x))

pub events_split : (xs : List Answer) (k : ℕ) (x : Answer) → k < length xs → x ≡ get_or xs k x
    → events_text 0 xs ≡ events_text 0 (take k xs) ++ (event_line k x ++ events_text (k + 1) (drop (k + 1) xs))
events_split xs k x l e =
    let size : length (take k xs) ≡ k = length-take-le k xs (omega arith) in
    ap (events_text 0) (split_at xs k x l e) ∙ events-append 0 (take k xs) (x ∷ drop (k + 1) xs)
    ∙ ap (λ t. events_text 0 (take k xs) ++ t) (at_index k _ size (x ∷ drop (k + 1) xs))

pub journal_more : (xs : List Entry) (k : ℕ) (x : Entry) → k < length xs → x ≡ get_or xs k x → journal_text (take (k + 1) xs) ≡ journal_text (take k xs) ++ entry_line x
journal_more xs k x l e =
    ap journal_text (take_split xs k x l e) ∙ flat_map-append entry_line (take k xs) (x ∷ []) ∙ ap (λ t. journal_text (take k xs) ++ t) (append-nil (entry_line x))

pub journal_split : (xs : List Entry) (k : ℕ) (x : Entry) → k < length xs → x ≡ get_or xs k x → journal_text xs ≡ journal_text (take k xs) ++ (entry_line x ++ journal_text (drop (k + 1) xs))
journal_split xs k x l e =
    ap journal_text (split_at xs k x l e) ∙ flat_map-append entry_line (take k xs) (x ∷ drop (k + 1) xs)

-- the events with an element that is read with any default
pub events_more_at : (xs : List Answer) (k : ℕ) (d : Answer) → k < length xs → events_text 0 (take (k + 1) xs) ≡ events_text 0 (take k xs) ++ event_line k (get_or xs k d)
events_more_at xs k d l = events_more xs k (get_or xs k d) l (get_or_default xs k d (get_or xs k d) l)

pub events_split_at : (xs : List Answer) (k : ℕ) (d : Answer) → k < length xs → events_text 0 xs ≡ events_text 0 (take k xs) ++ (event_line k (get_or xs k d) ++ events_text (k + 1) (drop (k + 1) xs))
events_split_at xs k d l = events_split xs k (get_or xs k d) l (get_or_default xs k d (get_or xs k d) l)
