-- A reply's text gives the reply, and no line feed stands in it.
use Rattle.std.proofs.Common.{◌≡◌, ◌∙◌, ℕ, List, [], ◌∷◌, ◌++◌, cond, eqb, get_or, refl, sym, ap, arith, append_assoc}
use Rattle.std.specs.Prelude.{codes, decimal}
use Rattle.std.proofs.lemmas.List.{append_cancel_left}
use Rattle.std.proofs.lemmas.Fmt.{decimal_injective}
use Rattle.cmm_types.specs.declared.command.FlatRefusal.{FlatRefusal}
use Rattle.cmm_types.specs.declared.command.FlatRefusal.TheVariants.{NoMapping, AlreadyMapped, OutOfRange, ReadOnly, Pinned, NotPinned, TooManyMaps}
use Rattle.cmm_types.specs.declared.command.Cause.{Cause}
use Rattle.cmm_types.specs.declared.command.Cause.TheVariants.{Disk, Paging, NoPage}
use Rattle.cmm_types.specs.declared.command.Reply.{Reply}
use Rattle.cmm_types.specs.declared.command.Reply.TheVariants.{Done, Bytes, Refused, Fail}
use Rattle.cmm_report.specs.Texts.{hex_text, flat_refusal_text, cause_text, reply_text}
use Rattle.cmm_report.specs.JournalLines.{CauseFits, ReplyFits}
use Rattle.cmm_report.proofs.Splits.{IsFree, IsFree-append, IsFree-decimal, IsFree-text, split_same}
use Rattle.cmm_report.proofs.HexLaws.{IsFree-hex, hex_text-same}

-- the refusal that a text names: its eleventh byte tells all but two, which the tenth does
abbrev read_refusal : List ℕ → FlatRefusal
read_refusal text =
    cond (eqb (get_or text 10 0) 45) NoMapping
    (cond (eqb (get_or text 10 0) 112) AlreadyMapped
    (cond (eqb (get_or text 10 0) 97) ReadOnly
    (cond (eqb (get_or text 10 0) 116) NotPinned
    (cond (eqb (get_or text 10 0) 111) TooManyMaps
    (cond (eqb (get_or text 9 0) 97) OutOfRange Pinned)))))

refusal_read : (refusal : FlatRefusal) → read_refusal (flat_refusal_text refusal) ≡ refusal
refusal_read NoMapping = refl
refusal_read AlreadyMapped = refl
refusal_read OutOfRange = refl
refusal_read ReadOnly = refl
refusal_read Pinned = refl
refusal_read NotPinned = refl
refusal_read TooManyMaps = refl

refusal_same : (a b : FlatRefusal) → flat_refusal_text a ≡ flat_refusal_text b → a ≡ b
refusal_same a b e = sym (refusal_read a) ∙ ap read_refusal e ∙ refusal_read b

IsFree-refusal : (refusal : FlatRefusal) → IsFree 10 (flat_refusal_text refusal)
IsFree-refusal NoMapping = IsFree-text 10 (flat_refusal_text NoMapping) refl
IsFree-refusal AlreadyMapped = IsFree-text 10 (flat_refusal_text AlreadyMapped) refl
IsFree-refusal OutOfRange = IsFree-text 10 (flat_refusal_text OutOfRange) refl
IsFree-refusal ReadOnly = IsFree-text 10 (flat_refusal_text ReadOnly) refl
IsFree-refusal Pinned = IsFree-text 10 (flat_refusal_text Pinned) refl
IsFree-refusal NotPinned = IsFree-text 10 (flat_refusal_text NotPinned) refl
IsFree-refusal TooManyMaps = IsFree-text 10 (flat_refusal_text TooManyMaps) refl

-- the two numbers behind `fail nopage`, with the space between them
pub counts_text : (pinned unslotted : ℕ) → cause_text (NoPage pinned unslotted) ≡ codes "fail nopage " ++ (decimal pinned ++ (32 ∷ decimal unslotted))
counts_text pinned unslotted =
    append_assoc (codes "fail nopage " ++ decimal pinned) (32 ∷ []) (decimal unslotted)
    ∙ append_assoc (codes "fail nopage ") (decimal pinned) (32 ∷ decimal unslotted)

counts_same : (p u q v : ℕ) → CauseFits (NoPage p u) → CauseFits (NoPage q v) → cause_text (NoPage p u) ≡ cause_text (NoPage q v) → NoPage p u ≡ NoPage q v
counts_same p u q v fa fb e =
    let both = append_cancel_left (codes "fail nopage ") (decimal p ++ (32 ∷ decimal u)) (decimal q ++ (32 ∷ decimal v)) (sym (counts_text p u) ∙ e ∙ counts_text q v) in
    let parts = split_same 32 (decimal p) (decimal q) (decimal u) (decimal v) (IsFree-decimal 32 (omega arith) p) (IsFree-decimal 32 (omega arith) q) both in
    let pinned : p ≡ q = decimal_injective p q (omega arith) (omega arith) parts.0 in
    let unslotted : u ≡ v = decimal_injective u v (omega arith) (omega arith) parts.1 in
    ap (λ n. NoPage n u) pinned ∙ ap (λ n. NoPage q n) unslotted

-- the sixth letter of a failure's text
abbrev cause_letter : Cause → ℕ
cause_letter Disk = 100
cause_letter Paging = 112
cause_letter (NoPage pinned unslotted) = 110

cause_first : (cause : Cause) → (get_or (cause_text cause) 0 0 ≡ 102) × (get_or (cause_text cause) 5 0 ≡ cause_letter cause)
cause_first Disk = (refl, refl)
cause_first Paging = (refl, refl)
cause_first (NoPage pinned unslotted) = (refl, refl)

cause_letters : (a b : Cause) → cause_text a ≡ cause_text b → cause_letter a ≡ cause_letter b
cause_letters a b e = sym (cause_first a).1 ∙ ap (λ l. get_or l 5 0) e ∙ (cause_first b).1

cause_same : (a b : Cause) → CauseFits a → CauseFits b → cause_text a ≡ cause_text b → a ≡ b
cause_same Disk Disk fa fb e = refl
cause_same Disk Paging fa fb e = absurd (omega (arith, cause_letters Disk Paging e))
cause_same Disk (NoPage q v) fa fb e = absurd (omega (arith, cause_letters Disk (NoPage q v) e))
cause_same Paging Disk fa fb e = absurd (omega (arith, cause_letters Paging Disk e))
cause_same Paging Paging fa fb e = refl
cause_same Paging (NoPage q v) fa fb e = absurd (omega (arith, cause_letters Paging (NoPage q v) e))
cause_same (NoPage p u) Disk fa fb e = absurd (omega (arith, cause_letters (NoPage p u) Disk e))
cause_same (NoPage p u) Paging fa fb e = absurd (omega (arith, cause_letters (NoPage p u) Paging e))
cause_same (NoPage p u) (NoPage q v) fa fb e = counts_same p u q v fa fb e

IsFree-cause : (cause : Cause) → CauseFits cause → IsFree 10 (cause_text cause)
IsFree-cause Disk fits = IsFree-text 10 (codes "fail disk") refl
IsFree-cause Paging fits = IsFree-text 10 (codes "fail paging") refl
IsFree-cause (NoPage pinned unslotted) fits =
    let head = IsFree-text 10 (codes "fail nopage ") refl in
    let one = IsFree-append 10 (codes "fail nopage ") (decimal pinned) head (IsFree-decimal 10 (omega arith) pinned) in
    let two = IsFree-append 10 (codes "fail nopage " ++ decimal pinned) (codes " ") one (IsFree-text 10 (codes " ") refl) in
    IsFree-append 10 (codes "fail nopage " ++ decimal pinned ++ codes " ") (decimal unslotted) two (IsFree-decimal 10 (omega arith) unslotted)

-- the first letter of a reply's text
abbrev reply_letter : Reply → ℕ
reply_letter Done = 111
reply_letter (Bytes bytes) = 111
reply_letter (Refused refusal) = 114
reply_letter (Fail cause) = 102

refusal_first : (refusal : FlatRefusal) → get_or (flat_refusal_text refusal) 0 0 ≡ 114
refusal_first NoMapping = refl
refusal_first AlreadyMapped = refl
refusal_first OutOfRange = refl
refusal_first ReadOnly = refl
refusal_first Pinned = refl
refusal_first NotPinned = refl
refusal_first TooManyMaps = refl

reply_first : (reply : Reply) → get_or (reply_text reply) 0 0 ≡ reply_letter reply
reply_first Done = refl
reply_first (Bytes bytes) = refl
reply_first (Refused refusal) = refusal_first refusal
reply_first (Fail cause) = (cause_first cause).0

reply_letters : (a b : Reply) → reply_text a ≡ reply_text b → reply_letter a ≡ reply_letter b
reply_letters a b e = sym (reply_first a) ∙ ap (λ l. get_or l 0 0) e ∙ reply_first b

-- a text of bytes has a space behind `ok`, also where there is no byte
spaced : (a b : List ℕ) → a ≡ b → get_or a 2 0 ≡ 0 → get_or b 2 0 ≡ 32 → ⊥
spaced a b e ha hb = omega (arith, ap (λ l. get_or l 2 0) e)

bytes_same : (a b : List ℕ) → reply_text (Bytes a) ≡ reply_text (Bytes b) → a ≡ b
bytes_same a b e = hex_text-same a b (append_cancel_left (codes "ok ") (hex_text a) (hex_text b) e)

pub reply_same : (a b : Reply) → ReplyFits a → ReplyFits b → reply_text a ≡ reply_text b → a ≡ b
reply_same Done Done fa fb e = refl
reply_same Done (Bytes b) fa fb e = absurd (spaced (reply_text Done) (reply_text (Bytes b)) e refl refl)
reply_same Done (Refused b) fa fb e = absurd (omega (arith, reply_letters Done (Refused b) e))
reply_same Done (Fail b) fa fb e = absurd (omega (arith, reply_letters Done (Fail b) e))
reply_same (Bytes a) Done fa fb e = absurd (spaced (reply_text Done) (reply_text (Bytes a)) (sym e) refl refl)
reply_same (Bytes a) (Bytes b) fa fb e = ap Bytes (bytes_same a b e)
reply_same (Bytes a) (Refused b) fa fb e = absurd (omega (arith, reply_letters (Bytes a) (Refused b) e))
reply_same (Bytes a) (Fail b) fa fb e = absurd (omega (arith, reply_letters (Bytes a) (Fail b) e))
reply_same (Refused a) Done fa fb e = absurd (omega (arith, reply_letters (Refused a) Done e))
reply_same (Refused a) (Bytes b) fa fb e = absurd (omega (arith, reply_letters (Refused a) (Bytes b) e))
reply_same (Refused a) (Refused b) fa fb e = ap Refused (refusal_same a b e)
reply_same (Refused a) (Fail b) fa fb e = absurd (omega (arith, reply_letters (Refused a) (Fail b) e))
reply_same (Fail a) Done fa fb e = absurd (omega (arith, reply_letters (Fail a) Done e))
reply_same (Fail a) (Bytes b) fa fb e = absurd (omega (arith, reply_letters (Fail a) (Bytes b) e))
reply_same (Fail a) (Refused b) fa fb e = absurd (omega (arith, reply_letters (Fail a) (Refused b) e))
reply_same (Fail a) (Fail b) fa fb e = ap Fail (cause_same a b fa fb e)

pub IsFree-reply : (reply : Reply) → ReplyFits reply → IsFree 10 (reply_text reply)
IsFree-reply Done fits = IsFree-text 10 (codes "ok") refl
IsFree-reply (Bytes bytes) fits = IsFree-append 10 (codes "ok ") (hex_text bytes) (IsFree-text 10 (codes "ok ") refl) (IsFree-hex 10 (omega arith) bytes)
IsFree-reply (Refused refusal) fits = IsFree-refusal refusal
IsFree-reply (Fail cause) fits = IsFree-cause cause fits
