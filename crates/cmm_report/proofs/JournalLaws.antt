-- A journal's text gives what each of its lines says.
use Rattle.std.proofs.Common.{◌≡◌, ◌∙◌, ℕ, List, [], ◌∷◌, ◌++◌, length, map, refl, sym, ap, arith, append_assoc, length-append}
use Rattle.std.specs.Prelude.{codes, decimal, All}
use Rattle.std.specs.List.{AllByRecursion, flat_map}
use Rattle.std.proofs.lemmas.List.Elements.{recursion_from_All}
use Rattle.std.proofs.lemmas.List.Folds.{flat_map-map}
use Rattle.std.proofs.lemmas.Fmt.{decimal_injective}
use Rattle.cmm_types.specs.declared.command.Entry.{Entry}
use Rattle.cmm_types.specs.declared.command.Reply.{Reply}
use Rattle.cmm_report.specs.Texts.{reply_text}
use Rattle.cmm_report.specs.Lines.{line, entry_line}
use Rattle.cmm_report.specs.Report.{journal_text}
use Rattle.cmm_report.specs.JournalLines.{EntryReport, entry_report, SameLines, EntryFits}
use Rattle.cmm_report.proofs.Splits.{IsFree, IsFree-append, IsFree-decimal, IsFree-text, split_same}
use Rattle.cmm_report.proofs.ReplyLaws.{reply_same, IsFree-reply}

-- a line's text, which has no line feed yet
abbrev pub unended : Entry → List ℕ
unended entry = decimal entry.cpu ++ codes " " ++ decimal entry.k ++ codes " " ++ reply_text entry.reply

pub IsFree-unended : (entry : Entry) → EntryFits entry → IsFree 10 (unended entry)
IsFree-unended entry fits =
    let space = IsFree-text 10 (codes " ") refl in
    let cpu = IsFree-append 10 (decimal entry.cpu) (codes " ") (IsFree-decimal 10 (omega arith) entry.cpu) space in
    let k = IsFree-append 10 (decimal entry.cpu ++ codes " ") (decimal entry.k) cpu (IsFree-decimal 10 (omega arith) entry.k) in
    let front = IsFree-append 10 (decimal entry.cpu ++ codes " " ++ decimal entry.k) (codes " ") k space in
    IsFree-append 10 (decimal entry.cpu ++ codes " " ++ decimal entry.k ++ codes " ") (reply_text entry.reply) front (IsFree-reply entry.reply fits.reply)

pub three_parts : (c k r : List ℕ) → c ++ codes " " ++ k ++ codes " " ++ r ≡ c ++ (32 ∷ (k ++ (32 ∷ r)))
three_parts c k r =
    append_assoc (c ++ codes " " ++ k) (32 ∷ []) r
    ∙ append_assoc (c ++ codes " ") k (32 ∷ r)
    ∙ append_assoc c (32 ∷ []) (k ++ (32 ∷ r))

abbrev reported : ℕ → ℕ → Reply → EntryReport
reported c k r = record { cpu = c; k = k; reply = r }

made_same : (c d k m : ℕ) (r s : Reply) → c ≡ d → k ≡ m → r ≡ s → reported c k r ≡ reported d m s
made_same c d k m r s ec ek er = ap (λ x. reported x k r) ec ∙ ap (λ x. reported d x r) ek ∙ ap (λ x. reported d m x) er

unended_same : (a b : Entry) → EntryFits a → EntryFits b → unended a ≡ unended b → entry_report a ≡ entry_report b
unended_same a b fa fb e =
    let whole = sym (three_parts (decimal a.cpu) (decimal a.k) (reply_text a.reply)) ∙ e ∙ three_parts (decimal b.cpu) (decimal b.k) (reply_text b.reply) in
    let first = split_same 32 (decimal a.cpu) (decimal b.cpu) (decimal a.k ++ (32 ∷ reply_text a.reply)) (decimal b.k ++ (32 ∷ reply_text b.reply)) (IsFree-decimal 32 (omega arith) a.cpu)
    (IsFree-decimal 32 (omega arith) b.cpu) whole in
    let second = split_same 32 (decimal a.k) (decimal b.k) (reply_text a.reply) (reply_text b.reply) (IsFree-decimal 32 (omega arith) a.k) (IsFree-decimal 32 (omega arith) b.k) first.1 in
    let cpu : a.cpu ≡ b.cpu = decimal_injective a.cpu b.cpu (omega (arith, fa.cpu)) (omega (arith, fb.cpu)) first.0 in
    let k : a.k ≡ b.k = decimal_injective a.k b.k (omega (arith, fa.k)) (omega (arith, fb.k)) second.0 in
    made_same a.cpu b.cpu a.k b.k a.reply b.reply cpu k (reply_same a.reply b.reply fa.reply fb.reply second.1)

-- a line is not empty
no_line : (entry : Entry) (rest : List ℕ) → [] ≡ entry_line entry ++ rest → ⊥
no_line entry rest e =
    omega (arith, ap length e, length-append (unended entry ++ (10 ∷ [])) rest, length-append (unended entry) (10 ∷ []))

pub lines_same : (journal other : List Entry) → AllByRecursion EntryFits journal → AllByRecursion EntryFits other → journal_text journal ≡ journal_text other → SameLines journal other
lines_same [] [] fa fb e = refl
lines_same [] (b ∷ other) fa fb e = absurd (no_line b (journal_text other) e)
lines_same (a ∷ journal) [] fa fb e = absurd (no_line a (journal_text journal) (sym e))
lines_same (a ∷ journal) (b ∷ other) fa fb e =
    let ends = sym (append_assoc (unended a) (10 ∷ []) (journal_text journal)) ∙ e ∙ append_assoc (unended b) (10 ∷ []) (journal_text other) in
    let parts = split_same 10 (unended a) (unended b) (journal_text journal) (journal_text other) (IsFree-unended a fa.0) (IsFree-unended b fb.0) ends in
    ap (λ x. x ∷ map entry_report journal) (unended_same a b fa.0 fb.0 parts.0) ∙ ap (λ t. entry_report b ∷ t) (lines_same journal other fa.1 fb.1 parts.1)

pub text_determines : (journal other : List Entry) → All EntryFits journal → All EntryFits other → journal_text journal ≡ journal_text other → SameLines journal other
text_determines journal other fa fb e = lines_same journal other (recursion_from_All EntryFits journal fa) (recursion_from_All EntryFits other fb) e

-- the line of what it says
abbrev reported_line : EntryReport → List ℕ
reported_line report = line (decimal report.cpu ++ codes " " ++ decimal report.k ++ codes " " ++ reply_text report.reply)

pub lines_determine : (journal other : List Entry) → SameLines journal other → journal_text journal ≡ journal_text other
lines_determine journal other same =
    sym (flat_map-map reported_line entry_report journal) ∙ ap (flat_map reported_line) same ∙ flat_map-map reported_line entry_report other
