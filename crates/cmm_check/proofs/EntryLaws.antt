-- The line of an entry is read as what it was written of, both ways.
use Rattle.std.proofs.Common.{◌≡◌, ◌∙◌, ℕ, suc, ◌+◌, ◌*◌, ◌/◌, ◌%◌, ◌^◌, ◌<◌, ◌≤◌, List, [], ◌∷◌, ◌++◌, Bool, true, false, cond, Option, Some, None, Result, Ok, Err}
use Rattle.std.proofs.Common.{length, refl, sym, ap, subst, arith}
use Rattle.std.specs.Prelude.{◌&&◌, ◌||◌, nat_le, codes, decimal}
use Rattle.std.specs.List.{list_any}
use Rattle.std.specs.Char.{is_ascii_uppercase}
use Rattle.std.specs.Str.{bytes_eq}
use Rattle.std.proofs.lemmas.Bool.{and_parts, leb-true, le-leb}
use Rattle.std.proofs.lemmas.Bool.Decides.{nat_tests}
use Rattle.std.proofs.lemmas.Option.{same_Some}
use Rattle.hex.specs.Hex.{IsBytes, hex_digit_value, digit_or_error, value_at, pair_value, decode_pairs, decode_of}
use Rattle.hex.specs.declared.error.FromHexError.{FromHexError}
use Rattle.hex.proofs.HexLemmas.{decode_of-even, decode_of-ok}
use Rattle.cmm_types.specs.declared.command.FlatRefusal.{FlatRefusal}
use Rattle.cmm_types.specs.declared.command.FlatRefusal.TheVariants.{NoMapping, AlreadyMapped, OutOfRange, ReadOnly, Pinned, NotPinned, TooManyMaps}
use Rattle.cmm_types.specs.declared.command.Cause.{Cause}
use Rattle.cmm_types.specs.declared.command.Cause.TheVariants.{Disk, Paging, NoPage}
use Rattle.cmm_types.specs.declared.command.Reply.{Reply}
use Rattle.cmm_types.specs.declared.command.Reply.TheVariants.{Done, Bytes, Refused, Fail}
use Rattle.cmm_report.specs.Texts.{hex_digit, hex_text, flat_refusal_text, cause_text, reply_text}
use Rattle.cmm_report.specs.JournalLines.{CauseFits}
use Rattle.cmm_report.proofs.Splits.{IsFree-decimal}
use Rattle.cmm_report.proofs.JournalLaws.{three_parts}
use Rattle.cmm_report.proofs.ReplyLaws.{counts_text}
use Rattle.cmm_check.specs.Reading.{cut, without_front, numeral_of, two_numbers, decoded, hex_bytes}
use Rattle.cmm_check.specs.Entries.{IsReported, IsEntryLine, all_refusals, refusal_named, no_page_of, cause_of, bytes_reply_of, first_reply, reply_of, entry_head, entry_of}
use Rattle.cmm_check.proofs.ReadingLaws.{then_some, some_then, not_some, same_bytes, cut-append, cut-parts, without_front-append, without_front-is}
use Rattle.cmm_check.proofs.ReadingLaws.{numeral_of-decimal, numeral_of-read, two_numbers-text, two_numbers-read, first_named-text}

-- ---- bytes

-- a digit's value gives the digit
digit_back : (d : ℕ) → d < 16 → hex_digit_value (hex_digit d) ≡ Some d
digit_back d small = grind (arith, nat_tests)

digit_lower : (d : ℕ) → d < 16 → is_ascii_uppercase (hex_digit d) ≡ false
digit_lower d small = grind (arith, nat_tests)

digit_text : (c d : ℕ) → hex_digit_value c ≡ Some d → is_ascii_uppercase c ≡ false → c ≡ hex_digit d
digit_text c d value lower = grind (arith, nat_tests)

decode_hex : (i : ℕ) (bytes : List ℕ) → IsBytes bytes → decode_pairs i (hex_text bytes) ≡ Ok bytes
unfolding decode_pairs
decode_hex i [] fits = refl
decode_hex i (b ∷ bytes) fits =
    let small : b < 256 = fits 0 in
    let high = digit_back (b / 16) (omega arith) in
    let low = digit_back (b % 16) (omega arith) in
    let rest = decode_hex (i + 2) bytes (λ k. fits (suc k)) in
    let whole : b / 16 * 16 + b % 16 ≡ b = omega arith in
    rw (high, low, rest) (ap (λ x. Ok (x ∷ bytes)) whole)

hex_lower : (bytes : List ℕ) → IsBytes bytes → list_any is_ascii_uppercase (hex_text bytes) ≡ false
hex_lower [] fits = refl
hex_lower (b ∷ bytes) fits =
    let small : b < 256 = fits 0 in
    let high = digit_lower (b / 16) (omega arith) in
    let low = digit_lower (b % 16) (omega arith) in
    let rest = hex_lower bytes (λ k. fits (suc k)) in
    rw (high, low) rest

hex_length : (bytes : List ℕ) → length (hex_text bytes) ≡ 2 * length bytes
hex_length [] = refl
hex_length (b ∷ bytes) = let rest = hex_length bytes in omega (arith, rest)

pub hex_bytes-text : (bytes : List ℕ) → 1 ≤ length bytes → length bytes ≤ 64 → IsBytes bytes → hex_bytes (hex_text bytes) ≡ Some bytes
unfolding hex_bytes
hex_bytes-text bytes some few fits =
    let twice = hex_length bytes in
    let lower = hex_lower bytes fits in
    let least = le-leb 1 (length (hex_text bytes)) (omega (arith, twice)) in
    let most = le-leb (length (hex_text bytes)) 128 (omega (arith, twice)) in
    let decodes : decode_of (hex_text bytes) ≡ Ok bytes = decode_of-even (hex_text bytes) (omega (arith, twice)) ∙ decode_hex 0 bytes fits in
    rw (lower, least, most) (ap decoded decodes)

-- what stands before and behind an `or` that doesn't hold
neither : (a b : Bool) → (a || b) ≡ false → (a ≡ false) × (b ≡ false)
neither true b h = cc h
neither false b h = (refl, h)

abbrev then : {A B : Type 0} → Result A FromHexError → (A → Result B FromHexError) → Result B FromHexError
then (Ok x) f = f x
then (Err e) f = Err e

ok_then : {A B : Type 0} (r : Result A FromHexError) (f : A → Result B FromHexError) (y : B) → then r f ≡ Ok y → (x : A) × (r ≡ Ok x) × (f x ≡ Ok y)
ok_then (Ok x) f y h = (x, refl, h)
ok_then (Err e) f y h = cc h

ok_same : {A : Type 0} (a b : A) → ◌≡◌ {A = Result A FromHexError} (Ok a) (Ok b) → a ≡ b
ok_same a b e = cc

read_digit : (c i : ℕ) (o : Option ℕ) (v : ℕ) → digit_or_error c i o ≡ Ok v → o ≡ Some v
read_digit c i (Some w) v h = ap Some (ok_same w v h)
read_digit c i None v h = cc h

high_part : (h l : ℕ) → l < 16 → (h * 16 + l) / 16 ≡ h
high_part h l small = omega arith

low_part : (h l : ℕ) → l < 16 → (h * 16 + l) % 16 ≡ l
low_part h l small = omega arith

digit_small : (c v : ℕ) → hex_digit_value c ≡ Some v → v < 16
digit_small c v h = grind (arith)

hex_from : (i : ℕ) (s bytes : List ℕ) → decode_pairs i s ≡ Ok bytes → list_any is_ascii_uppercase s ≡ false → s ≡ hex_text bytes
unfolding decode_pairs
hex_from i [] bytes e lower = ap hex_text (ok_same [] bytes e)
hex_from i (a ∷ []) bytes e lower = cc e
hex_from i (a ∷ b ∷ s) bytes e lower =
    let pair = ok_then (pair_value a b i) _ bytes e in
    let one = ok_then (value_at a i) _ pair.0 pair.1 in
    let two = ok_then (value_at b (i + 1)) _ pair.0 one.2 in
    let rest = ok_then (decode_pairs (i + 2) s) _ bytes pair.2 in
    let first = neither (is_ascii_uppercase a) (is_ascii_uppercase b || list_any is_ascii_uppercase s) lower in
    let second = neither (is_ascii_uppercase b) (list_any is_ascii_uppercase s) first.1 in
    let va = read_digit a i (hex_digit_value a) one.0 one.1 in
    let vb = read_digit b (i + 1) (hex_digit_value b) two.0 two.1 in
    let small = digit_small b two.0 vb in
    let high : a ≡ hex_digit (one.0) = digit_text a one.0 va first.0 in
    let low : b ≡ hex_digit (two.0) = digit_text b two.0 vb second.0 in
    let more : s ≡ hex_text rest.0 = hex_from (i + 2) s rest.0 rest.1 second.1 in
    let byte : one.0 * 16 + two.0 ≡ pair.0 = ok_same _ _ two.2 in
    let all : pair.0 ∷ rest.0 ≡ bytes = ok_same _ _ rest.2 in
    let above : hex_digit one.0 ≡ hex_digit (pair.0 / 16) = ap hex_digit (sym (high_part one.0 two.0 small) ∙ ap (λ x. x / 16) byte) in
    let below : hex_digit two.0 ≡ hex_digit (pair.0 % 16) = ap hex_digit (sym (low_part one.0 two.0 small) ∙ ap (λ x. x % 16) byte) in
    ap (λ x. x ∷ (b ∷ s)) (high ∙ above) ∙ ap (λ x. hex_digit (pair.0 / 16) ∷ (x ∷ s)) (low ∙ below) ∙ ap (λ t. hex_digit (pair.0 / 16) ∷ (hex_digit (pair.0 % 16) ∷ t)) more ∙ ap hex_text all

pub record AreBytes (digits bytes : List ℕ) : Type 0 where
  pub text : digits ≡ hex_text bytes
  pub some : 1 ≤ length bytes
  pub few : length bytes ≤ 64
  pub fit : IsBytes bytes

decoded_ok : (r : Result (List ℕ) FromHexError) (bytes : List ℕ) → decoded r ≡ Some bytes → r ≡ Ok bytes
decoded_ok (Ok x) bytes e = ap Ok (same_Some x bytes e)
decoded_ok (Err f) bytes e = cc e

sized : (digits bytes : List ℕ) → list_any is_ascii_uppercase digits ≡ false → (nat_le 1 (length digits) && nat_le (length digits) 128) ≡ true → decode_of digits ≡ Ok bytes → AreBytes digits bytes
sized digits bytes lower size e =
    let ok = decode_of-ok digits bytes e in
    let sizes = and_parts (nat_le 1 (length digits)) (nat_le (length digits) 128) size in
    let least = leb-true 1 (length digits) sizes.0 in
    let most = leb-true (length digits) 128 sizes.1 in
    record { text = hex_from 0 digits bytes (sym (decode_of-even digits ok.0) ∙ e) lower; some = omega (arith, ok.2); few = omega (arith, ok.2); fit = ok.3 }

pub hex_bytes-read : (digits bytes : List ℕ) → hex_bytes digits ≡ Some bytes → AreBytes digits bytes
unfolding hex_bytes
hex_bytes-read digits bytes e = at (list_any is_ascii_uppercase digits) (nat_le 1 (length digits) && nat_le (length digits) 128) refl refl e
  where
    at : (upper size : Bool) → list_any is_ascii_uppercase digits ≡ upper → (nat_le 1 (length digits) && nat_le (length digits) 128) ≡ size
        → cond upper None (cond size (decoded (decode_of digits)) None) ≡ Some bytes → AreBytes digits bytes
    at true size lower few h = cc h
    at false true lower few h = sized digits bytes lower few (decoded_ok (decode_of digits) bytes h)
    at false false lower few h = cc h

-- ---- replies

no_page_of-text : (p u : ℕ) → CauseFits (NoPage p u) → no_page_of (cause_text (NoPage p u)) ≡ Some (NoPage p u)
unfolding no_page_of
no_page_of-text p u fits =
    let front = without_front-append (codes "fail nopage ") (decimal p ++ (32 ∷ decimal u)) in
    then_some _ _ (decimal p ++ (32 ∷ decimal u)) _ (ap (without_front (codes "fail nopage ")) (counts_text p u) ∙ front)
    (then_some _ _ (p, u) _ (two_numbers-text p u fits.0 fits.1) refl)

pub cause_of-text : (cause : Cause) → CauseFits cause → cause_of (cause_text cause) ≡ Some cause
unfolding cause_of
cause_of-text Disk fits = refl
cause_of-text Paging fits = refl
cause_of-text (NoPage p u) fits = no_page_of-text p u fits

pub record IsCauseText (text : List ℕ) (cause : Cause) : Type 0 where
  pub text_of : text ≡ cause_text cause
  pub fits : CauseFits cause

no_page_of-read : (text : List ℕ) (cause : Cause) → no_page_of text ≡ Some cause → IsCauseText text cause
unfolding no_page_of
no_page_of-read text cause e =
    let numbers = some_then (without_front (codes "fail nopage ") text) _ cause e in
    let both = some_then (two_numbers numbers.0) _ cause numbers.2 in
    let two = two_numbers-read numbers.0 both.0.0 both.0.1 both.1 in
    let front = without_front-is (codes "fail nopage ") text numbers.0 numbers.1 in
    let made : IsCauseText text (NoPage both.0.0 both.0.1) = record {
      text_of = front ∙ ap (λ t. codes "fail nopage " ++ t) two.text_of ∙ sym (counts_text both.0.0 both.0.1);
      fits = (two.first, two.second);
    } in
    subst (IsCauseText text) (same_Some _ cause both.2) made

pub cause_of-read : (text : List ℕ) (cause : Cause) → cause_of text ≡ Some cause → IsCauseText text cause
unfolding cause_of
cause_of-read text cause e = at (bytes_eq text (codes "fail disk")) (bytes_eq text (codes "fail paging")) refl refl e
  where
    at : (a b : Bool) → bytes_eq text (codes "fail disk") ≡ a → bytes_eq text (codes "fail paging") ≡ b
        → cond a (Some Disk) (cond b (Some Paging) (no_page_of text)) ≡ Some cause → IsCauseText text cause
    at true b is_disk is_paging h = subst (IsCauseText text) (same_Some Disk cause h) (record { text_of = same_bytes text (codes "fail disk") is_disk; fits = tt })
    at false true is_disk is_paging h = subst (IsCauseText text) (same_Some Paging cause h) (record { text_of = same_bytes text (codes "fail paging") is_paging; fits = tt })
    at false false is_disk is_paging h = no_page_of-read text cause h

bytes_reply_of-text : (bytes : List ℕ) → IsReported (Bytes bytes) → bytes_reply_of (reply_text (Bytes bytes)) ≡ Some (Bytes bytes)
unfolding bytes_reply_of
bytes_reply_of-text bytes fits =
    then_some _ _ (hex_text bytes) _ (without_front-append (codes "ok ") (hex_text bytes)) (then_some _ _ bytes _ (hex_bytes-text bytes fits.0 fits.1 fits.2) refl)

refusal_named-text : (refusal : FlatRefusal) → refusal_named (flat_refusal_text refusal) ≡ Some refusal
unfolding refusal_named
refusal_named-text NoMapping = refl
refusal_named-text AlreadyMapped = refl
refusal_named-text OutOfRange = refl
refusal_named-text ReadOnly = refl
refusal_named-text Pinned = refl
refusal_named-text NotPinned = refl
refusal_named-text TooManyMaps = refl

-- a refusal's text is no other's
pub plain_refusal : (refusal : FlatRefusal) → (bytes_eq (flat_refusal_text refusal) (codes "ok") ≡ false) × (cause_of (flat_refusal_text refusal) ≡ None)
unfolding cause_of no_page_of without_front
plain_refusal NoMapping = (refl, refl)
plain_refusal AlreadyMapped = (refl, refl)
plain_refusal OutOfRange = (refl, refl)
plain_refusal ReadOnly = (refl, refl)
plain_refusal Pinned = (refl, refl)
plain_refusal NotPinned = (refl, refl)
plain_refusal TooManyMaps = (refl, refl)

pub plain_bytes : (bytes : List ℕ) → (cause_of (reply_text (Bytes bytes)) ≡ None) × (refusal_named (reply_text (Bytes bytes)) ≡ None)
unfolding cause_of no_page_of without_front refusal_named
plain_bytes bytes = (refl, refl)

plain_cause : (cause : Cause) → bytes_eq (cause_text cause) (codes "ok") ≡ false
plain_cause Disk = refl
plain_cause Paging = refl
plain_cause (NoPage p u) = refl

chosen : (text : List ℕ) (reply : Reply) → bytes_eq text (codes "ok") ≡ false → first_reply (cause_of text) (refusal_named text) (bytes_reply_of text) ≡ Some reply → reply_of text ≡ Some reply
unfolding reply_of
chosen text reply other e = rw other e

first_cause : (c : Option Cause) (r : Option FlatRefusal) (b : Option Reply) (cause : Cause) → c ≡ Some cause → first_reply c r b ≡ Some (Fail cause)
first_cause c r b cause e = ap (λ o. first_reply o r b) e

first_refusal : (c : Option Cause) (r : Option FlatRefusal) (b : Option Reply) (refusal : FlatRefusal) → c ≡ None → r ≡ Some refusal → first_reply c r b ≡ Some (Refused refusal)
first_refusal c r b refusal none e = ap (λ o. first_reply o r b) none ∙ ap (λ o. first_reply None o b) e

first_bytes : (c : Option Cause) (r : Option FlatRefusal) (b : Option Reply) (reply : Reply) → c ≡ None → r ≡ None → b ≡ Some reply → first_reply c r b ≡ Some reply
first_bytes c r b reply none other e = ap (λ o. first_reply o r b) none ∙ ap (λ o. first_reply None o b) other ∙ e

pub reply_of-text : (reply : Reply) → IsReported reply → reply_of (reply_text reply) ≡ Some reply
unfolding reply_of
reply_of-text Done fits = refl
reply_of-text (Bytes bytes) fits =
    let plain = plain_bytes bytes in
    chosen (reply_text (Bytes bytes)) (Bytes bytes) refl (first_bytes _ _ _ (Bytes bytes) plain.0 plain.1 (bytes_reply_of-text bytes fits))
reply_of-text (Refused refusal) fits =
    let plain = plain_refusal refusal in
    chosen (flat_refusal_text refusal) (Refused refusal) plain.0 (first_refusal _ _ _ refusal plain.1 (refusal_named-text refusal))
reply_of-text (Fail cause) fits = chosen (cause_text cause) (Fail cause) (plain_cause cause) (first_cause _ _ _ cause (cause_of-text cause fits))

pub record IsReplyText (text : List ℕ) (reply : Reply) : Type 0 where
  pub text_of : text ≡ reply_text reply
  pub reported : IsReported reply

bytes_reply_of-read : (text : List ℕ) (reply : Reply) → bytes_reply_of text ≡ Some reply → IsReplyText text reply
unfolding bytes_reply_of
bytes_reply_of-read text reply e =
    let digits = some_then (without_front (codes "ok ") text) _ reply e in
    let bytes = some_then (hex_bytes digits.0) _ reply digits.2 in
    let are = hex_bytes-read digits.0 bytes.0 bytes.1 in
    let made : IsReplyText text (Bytes bytes.0) = record {
      text_of = without_front-is (codes "ok ") text digits.0 digits.1 ∙ ap (λ t. codes "ok " ++ t) are.text;
      reported = (are.some, are.few, are.fit);
    } in
    subst (IsReplyText text) (same_Some _ reply bytes.2) made

refusal_named-read : (text : List ℕ) (refusal : FlatRefusal) → refusal_named text ≡ Some refusal → text ≡ flat_refusal_text refusal
unfolding refusal_named
refusal_named-read text refusal e = first_named-text flat_refusal_text text all_refusals refusal e

pub reply_of-read : (text : List ℕ) (reply : Reply) → reply_of text ≡ Some reply → IsReplyText text reply
unfolding reply_of
reply_of-read text reply e = at (bytes_eq text (codes "ok")) (cause_of text) (refusal_named text) refl refl refl e
  where
    at : (b : Bool) (c : Option Cause) (r : Option FlatRefusal) → bytes_eq text (codes "ok") ≡ b → cause_of text ≡ c → refusal_named text ≡ r
        → cond b (Some Done) (first_reply c r (bytes_reply_of text)) ≡ Some reply → IsReplyText text reply
    at true c r is_ok caused named h = subst (IsReplyText text) (same_Some Done reply h) (record { text_of = same_bytes text (codes "ok") is_ok; reported = tt })
    at false (Some cause) r is_ok caused named h =
        let read = cause_of-read text cause caused in
        subst (IsReplyText text) (same_Some (Fail cause) reply h) (record { text_of = read.text_of; reported = read.fits })
    at false None (Some refusal) is_ok caused named h = subst (IsReplyText text) (same_Some (Refused refusal) reply h) (record { text_of = refusal_named-read text refusal named; reported = tt })
    at false None None is_ok caused named h = bytes_reply_of-read text reply h

-- ---- entries

pub entry_head-text : (cpu k : ℕ) (text : List ℕ) → cpu < 2 ^ 32 → k < 2 ^ 32 → entry_head (decimal cpu ++ codes " " ++ decimal k ++ codes " " ++ text) ≡ Some (cpu, (k, text))
unfolding entry_head
entry_head-text cpu k text small_cpu small_k =
    let first = ap (cut 32) (three_parts (decimal cpu) (decimal k) text) ∙ cut-append 32 (decimal cpu) (decimal k ++ (32 ∷ text)) (IsFree-decimal 32 (omega arith) cpu) in
    then_some _ _ (decimal cpu, decimal k ++ (32 ∷ text)) _ first
    (then_some _ _ cpu _ (numeral_of-decimal cpu small_cpu)
    (then_some _ _ (decimal k, text) _ (cut-append 32 (decimal k) text (IsFree-decimal 32 (omega arith) k)) (then_some _ _ k _ (numeral_of-decimal k small_k) refl)))

pub record IsHead (line : List ℕ) (cpu k : ℕ) (text : List ℕ) : Type 0 where
  pub whole : line ≡ decimal cpu ++ codes " " ++ decimal k ++ codes " " ++ text
  pub small_cpu : cpu < 2 ^ 32
  pub small_k : k < 2 ^ 32

pub entry_head-read : (line : List ℕ) (head : ℕ × (ℕ × List ℕ)) → entry_head line ≡ Some head → IsHead line head.0 head.1.0 head.1.1
unfolding entry_head
entry_head-read line head e =
    let first = some_then (cut 32 line) _ head e in
    let cpu = some_then (numeral_of first.0.0) _ head first.2 in
    let second = some_then (cut 32 first.0.1) _ head cpu.2 in
    let k = some_then (numeral_of second.0.0) _ head second.2 in
    let one = cut-parts 32 line first.0.0 first.0.1 first.1 in
    let two = cut-parts 32 first.0.1 second.0.0 second.0.1 second.1 in
    let a = numeral_of-read first.0.0 cpu.0 cpu.1 in
    let b = numeral_of-read second.0.0 k.0 k.1 in
    let text : line ≡ decimal cpu.0 ++ (32 ∷ (decimal k.0 ++ (32 ∷ second.0.1))) =
    one.whole ∙ ap (λ t. t ++ (32 ∷ first.0.1)) a.0 ∙ ap (λ t. decimal cpu.0 ++ (32 ∷ t)) (two.whole ∙ ap (λ t. t ++ (32 ∷ second.0.1)) b.0) in
    let made : IsHead line cpu.0 k.0 second.0.1 = record { whole = text ∙ sym (three_parts (decimal cpu.0) (decimal k.0) second.0.1); small_cpu = a.1; small_k = b.1 } in
    subst (λ (h : ℕ × (ℕ × List ℕ)). IsHead line h.0 h.1.0 h.1.1) (same_Some _ head k.2) made

pub entry_of-text : (line : List ℕ) (cpu k : ℕ) (reply : Reply) → IsEntryLine line cpu k reply → entry_of line ≡ Some (cpu, (k, reply))
unfolding entry_of
entry_of-text line cpu k reply is =
    then_some _ _ (cpu, (k, reply_text reply)) _ (ap entry_head is.text ∙ entry_head-text cpu k (reply_text reply) is.processor is.command)
    (then_some _ _ reply _ (reply_of-text reply is.replied) refl)

pub entry_of-read : (line : List ℕ) (entry : ℕ × (ℕ × Reply)) → entry_of line ≡ Some entry → IsEntryLine line entry.0 entry.1.0 entry.1.1
unfolding entry_of
entry_of-read line entry e =
    let head = some_then (entry_head line) _ entry e in
    let reply = some_then (reply_of head.0.1.1) _ entry head.2 in
    let is = entry_head-read line head.0 head.1 in
    let says = reply_of-read head.0.1.1 reply.0 reply.1 in
    let front = decimal head.0.0 ++ codes " " ++ decimal head.0.1.0 ++ codes " " in
    let made : IsEntryLine line head.0.0 head.0.1.0 reply.0 = record { text = is.whole ∙ ap (λ t. front ++ t) says.text_of; processor = is.small_cpu; command = is.small_k; replied = says.reported } in
    subst (λ (x : ℕ × (ℕ × Reply)). IsEntryLine line x.0 x.1.0 x.1.1) (same_Some _ entry reply.2) made

-- nothing is read where the line is no entry's
pub no_entry : (line : List ℕ) → entry_of line ≡ None → (cpu k : ℕ) (reply : Reply) → IsEntryLine line cpu k reply → ⊥
no_entry line none cpu k reply is = not_some _ (sym none ∙ entry_of-text line cpu k reply is)
