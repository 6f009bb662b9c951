-- What the parser makes of words none of which is an option.
use Rattle.std.proofs.Common.{◌≡◌, ◌∙◌, ◌<◌, ◌⊎◌, ℕ, List, [], ◌∷◌, ◌++◌, length, codes, true, false, Option, Some, None, is_some, option_map, refl, sym, ap, ap₂, subst, inl, inr, arith}
use Rattle.std.specs.Prelude.{if◌then◌else◌}
use Rattle.std.specs.List.{slice_index_or}
use Rattle.std.specs.Option.{option_map_or}
use Rattle.std.specs.Str.{bytes_eq}
use Rattle.clap.specs.Lexer.{long_of, short_of}
use Rattle.std.specs.Borrow.{Bor}
use Rattle.std.proofs.lemmas.Option.{same_Some}
use Rattle.clap.specs.Walk.{Text, Rule, Held, Step, Walk, idle, value, word_met, walked, walk, nothing_held, to_positional, arg_by_index, after_step, trailing}
use Rattle.clap.specs.Walk.{long_or_other, short_or_plain, settled, finished, first_of}
use Rattle.clap.specs.Words.{Shape, built, matches_of, fault_of, is_simple, is_simple_and_free, Kinds, HasKind, kind_of}
use Rattle.clap.specs.Simple.{entered}
use Rattle.clap.specs.Kinds.{or_else}
use Rattle.clap.specs.Faults.{turn_fault, step_fault, walk_fault, settle_fault, defaults_fault, check_fault, entered_fault, word_fault, flag_word_fault, bundle_fault}
use Rattle.clap.specs.declared.error.Error.{Error}
use Rattle.clap.specs.declared.error.kind.ErrorKind.{ErrorKind}
use Rattle.clap.specs.declared.error.kind.ErrorKind.TheVariants as kind
use Rattle.clap.proofs.OnLiterals.{clap_on_literals}
use Rattle.cmm_line.specs.Words.{is_option, if_there}
use Rattle.cmm_line.specs.Parser.{parser}

abbrev top : Shape
top = (built parser).top

abbrev rules : List Rule
rules = top.rules

-- between two values
abbrev before : Held → ℕ → Walk
before h position = record { held = h; waiting = idle; position = position; is_trailing = false; stopped = None }

abbrev after : Held → ℕ → Text → Walk
after h position word = to_positional rules (arg_by_index rules position) word (before h position) h

no_dashes : (word : Text) → is_option word ≡ false → bytes_eq word (45 ∷ 45 ∷ []) ≡ false
no_dashes [] plain = refl
no_dashes (c ∷ word) plain = rw plain refl

no_long : (word : Text) → is_option word ≡ false → long_of word ≡ None
no_long [] plain = refl
no_long (c ∷ word) plain = rw plain refl

no_short : (word : Text) → is_option word ≡ false → short_of word ≡ None
no_short [] plain = refl
no_short (c ∷ word) plain = rw plain refl

-- a word that is no option is a value
met : (h : Held) (position : ℕ) (word : Text) → is_option word ≡ false → word_met rules [] false idle position word h ≡ (h, value)
met h position word plain =
    ap₂ (λ b o. if b then (h, trailing position) else long_or_other rules idle word o h) (no_dashes word plain) (no_long word plain)
    ∙ ap (λ o. short_or_plain rules idle word o h) (no_short word plain)

step : (h : Held) (position : ℕ) (word : Text) → is_option word ≡ false → walked rules [] (before h position) word ≡ after h position word
unfolding walked
step h position word plain = ap (λ (m : Held × Step). after_step rules word (before h position) m.0 m.1) (met h position word plain)

no_flag : (h : Held) (word : Text) → is_option word ≡ false → word_fault top [] false idle word h ≡ []
no_flag h word plain =
    ap₂ (λ b o. if b then [] else flag_word_fault rules false o word h) (no_dashes word plain) (no_long word plain)
    ∙ ap (λ o. option_map_or (λ flags. bundle_fault rules false flags h) o []) (no_short word plain)

turn : (h : Held) (position : ℕ) (word : Text) → is_option word ≡ false → turn_fault top [] (before h position) word ≡ step_fault top position h value
turn h position word plain = ap₂ (λ k (m : Held × Step). or_else k (step_fault top position m.0 m.1)) (no_flag h word plain) (met h position word plain)

next : (h : Held) (position : ℕ) (word : Text) (rest : List Text) → is_option word ≡ false → step_fault top position h value ≡ []
    → walk_fault top [] (before h position) (word ∷ rest) ≡ walk_fault top [] (after h position word) rest
unfolding walk_fault
next h position word rest plain none = ap₂ (λ k w. or_else k (walk_fault top [] w rest)) (turn h position word plain ∙ none) (step h position word plain)

-- no position takes the word
stray : (h : Held) (position : ℕ) (word : Text) (rest : List Text) → is_option word ≡ false → step_fault top position h value ≡ kind.UnknownArgument ∷ []
    → walk_fault top [] (before h position) (word ∷ rest) ≡ kind.UnknownArgument ∷ []
unfolding walk_fault
stray h position word rest plain none = ap (λ k. or_else k (walk_fault top [] (walked rules [] (before h position) word) rest)) (turn h position word plain ∙ none)

-- ---- one word, two and three

abbrev start : Walk
start = before nothing_held 1

abbrev one : Text → Walk
one a = after nothing_held 1 a

abbrev two : Text → Text → Walk
two a b = after (one a).held 2 b

abbrev three : Text → Text → Text → Walk
three a b c = after (two a b).held 3 c

walk_one : (a : Text) → is_option a ≡ false → walk rules [] nothing_held (a ∷ []) ≡ one a
walk_one a pa = step nothing_held 1 a pa

walk_two : (a b : Text) → is_option a ≡ false → is_option b ≡ false → walk rules [] nothing_held (a ∷ b ∷ []) ≡ two a b
walk_two a b pa pb = ap (λ w. walked rules [] w b) (step nothing_held 1 a pa) ∙ step (one a).held 2 b pb

walk_three : (a b c : Text) → is_option a ≡ false → is_option b ≡ false → is_option c ≡ false → walk rules [] nothing_held (a ∷ b ∷ c ∷ []) ≡ three a b c
walk_three a b c pa pb pc = ap (λ w. walked rules [] w c) (walk_two a b pa pb) ∙ step (two a b).held 3 c pc

-- the faults of a walk and those at its end
abbrev fault_with : Kinds → Walk → Kinds
fault_with faults w =
    or_else faults
    (or_else (entered_fault (built parser) w.stopped)
    (or_else (settle_fault rules false w.held)
    (or_else (defaults_fault (settled rules w.held).rows rules)
    (check_fault top (finished rules w.held) (is_some (entered (built parser) w.stopped))))))

fault_is : (words : List Text) → fault_of parser words ≡ fault_with (walk_fault top [] start words) (walk rules [] nothing_held words)
fault_is words = refl

one_passes : (a : Text) → is_option a ≡ false → fault_of parser (a ∷ []) ≡ []
unfolding clap_on_literals
one_passes a pa = fault_is (a ∷ []) ∙ ap₂ fault_with (next nothing_held 1 a [] pa refl) (walk_one a pa)

two_pass : (a b : Text) → is_option a ≡ false → is_option b ≡ false → fault_of parser (a ∷ b ∷ []) ≡ []
unfolding clap_on_literals
two_pass a b pa pb = fault_is (a ∷ b ∷ []) ∙ ap₂ fault_with (next nothing_held 1 a (b ∷ []) pa refl ∙ next (one a).held 2 b [] pb refl) (walk_two a b pa pb)

three_pass : (a b c : Text) → is_option a ≡ false → is_option b ≡ false → is_option c ≡ false → fault_of parser (a ∷ b ∷ c ∷ []) ≡ []
unfolding clap_on_literals
three_pass a b c pa pb pc =
    fault_is (a ∷ b ∷ c ∷ [])
    ∙ ap₂ fault_with (next nothing_held 1 a (b ∷ c ∷ []) pa refl ∙ next (one a).held 2 b (c ∷ []) pb refl ∙ next (two a b).held 3 c [] pc refl) (walk_three a b c pa pb pc)

four_fail : (a b c d : Text) (rest : List Text) → is_option a ≡ false → is_option b ≡ false → is_option c ≡ false → is_option d ≡ false
    → fault_of parser (a ∷ b ∷ c ∷ d ∷ rest) ≡ kind.UnknownArgument ∷ []
unfolding clap_on_literals
four_fail a b c d rest pa pb pc pd =
    let words : List Text = a ∷ b ∷ c ∷ d ∷ rest in
    fault_is words
    ∙ ap (λ k. fault_with k (walk rules [] nothing_held words))
    (next nothing_held 1 a (b ∷ c ∷ d ∷ rest) pa refl ∙ next (one a).held 2 b (c ∷ d ∷ rest) pb refl ∙ next (two a b).held 3 c (d ∷ rest) pc refl
    ∙ stray (three a b c).held 4 d rest pd refl)

no_words : fault_of parser [] ≡ kind.MissingRequiredArgument ∷ []
unfolding clap_on_literals
no_words = refl

pub simple_and_free : is_simple_and_free parser ≡ true
unfolding clap_on_literals
simple_and_free = refl

pub simple : is_simple parser ≡ true
unfolding clap_on_literals
simple = refl

-- ---- the matches

abbrev has : Text → List Text → Option Text
has id words = first_of id (matches_of parser words)

abbrev has_in : Text → Walk → Option Text
has_in id w = first_of id (finished rules w.held)

abbrev text_there : Option Text → List Text
text_there None = []
text_there (Some word) = word ∷ []

there : (o : Option (Bor Text)) → if_there o ≡ text_there (option_map (λ s. s.now) o)
there None = refl
there (Some word) = refl

rebuilt : (name : Bor Text) (first second : Option (Bor Text)) (n : Text) (f s : Option Text) → Some name.now ≡ Some n → option_map (λ w. w.now) first ≡ f → option_map (λ w. w.now) second ≡ s
    → n ∷ (text_there f ++ text_there s) ≡ name.now ∷ (if_there first ++ if_there second)
rebuilt name first second n f s is_name is_first is_second =
    let begin : if_there first ≡ text_there f = there first ∙ ap text_there is_first in
    let end : if_there second ≡ text_there s = there second ∙ ap text_there is_second in
    ap₂ (λ x (rest : List Text). x ∷ rest) (sym (same_Some name.now n is_name)) (sym (ap₂ (λ (x y : List Text). x ++ y) begin end))

not_empty : (k : ErrorKind) → k ∷ [] ≡ [] → ⊥
not_empty k e = let bad : 1 ≡ 0 = ap length e in absurd (omega (arith, bad))

abbrev ArePlain : List Text → Type 0
ArePlain words = (k : ℕ) (d : Text) → k < length words → is_option (slice_index_or words k d) ≡ false

-- where the parser takes the words, they are those that it gives
pub taken : (words : List Text) (name : Bor Text) (first second : Option (Bor Text)) → ArePlain words → fault_of parser words ≡ [] → Some name.now ≡ has (codes "name") words
    → option_map (λ w. w.now) first ≡ has (codes "start") words → option_map (λ w. w.now) second ≡ has (codes "size") words → words ≡ name.now ∷ (if_there first ++ if_there second)
taken [] name first second plain faults is_name is_first is_second = absurd (not_empty _ (sym no_words ∙ faults))
taken (a ∷ []) name first second plain faults is_name is_first is_second =
    let w : walk rules [] nothing_held (a ∷ []) ≡ one a = walk_one a (plain 0 a (omega arith)) in
    rebuilt name first second a None None (is_name ∙ ap (has_in (codes "name")) w) (is_first ∙ ap (has_in (codes "start")) w) (is_second ∙ ap (has_in (codes "size")) w)
taken (a ∷ b ∷ []) name first second plain faults is_name is_first is_second =
    let w : walk rules [] nothing_held (a ∷ b ∷ []) ≡ two a b = walk_two a b (plain 0 a (omega arith)) (plain 1 a (omega arith)) in
    rebuilt name first second a (Some b) None (is_name ∙ ap (has_in (codes "name")) w) (is_first ∙ ap (has_in (codes "start")) w) (is_second ∙ ap (has_in (codes "size")) w)
taken (a ∷ b ∷ c ∷ []) name first second plain faults is_name is_first is_second =
    let w : walk rules [] nothing_held (a ∷ b ∷ c ∷ []) ≡ three a b c = walk_three a b c (plain 0 a (omega arith)) (plain 1 a (omega arith)) (plain 2 a (omega arith)) in
    rebuilt name first second a (Some b) (Some c) (is_name ∙ ap (has_in (codes "name")) w) (is_first ∙ ap (has_in (codes "start")) w) (is_second ∙ ap (has_in (codes "size")) w)
taken (a ∷ b ∷ c ∷ d ∷ rest) name first second plain faults is_name is_first is_second =
    absurd (not_empty _ (sym (four_fail a b c d rest (plain 0 a (omega arith)) (plain 1 a (omega arith)) (plain 2 a (omega arith)) (plain 3 a (omega arith))) ∙ faults))

-- the parser finds the first word wherever it takes the words
pub found : (words : List Text) → ArePlain words → has (codes "name") words ≡ None → (words ≡ []) ⊎ (3 < length words)
found [] plain none = inl refl
found (a ∷ []) plain none =
    let bad : Some a ≡ None = sym (ap (has_in (codes "name")) (walk_one a (plain 0 a (omega arith)))) ∙ none in cc
found (a ∷ b ∷ []) plain none =
    let bad : Some a ≡ None = sym (ap (has_in (codes "name")) (walk_two a b (plain 0 a (omega arith)) (plain 1 a (omega arith)))) ∙ none in cc
found (a ∷ b ∷ c ∷ []) plain none =
    let bad : Some a ≡ None = sym (ap (has_in (codes "name")) (walk_three a b c (plain 0 a (omega arith)) (plain 1 a (omega arith)) (plain 2 a (omega arith)))) ∙ none in cc
found (a ∷ b ∷ c ∷ d ∷ rest) plain none = inr (omega arith)

memory_alone : (kinds : Kinds) (e : Error) → kinds ≡ [] → HasKind kinds e → kind_of e ≡ kind.OutOfMemory
memory_alone kinds e none has_kind = elim (subst (λ ks. HasKind ks e) none has_kind) [
  | inl memory ↦ memory
  | inr other ↦ absurd other
]

-- an error but for memory comes where there are no words, or too many
pub refused : (words : List Text) (e : Error) → ArePlain words → HasKind (fault_of parser words) e → (kind_of e ≡ kind.OutOfMemory → ⊥) → (words ≡ []) ⊎ (3 < length words)
refused [] e plain has_kind other = inl refl
refused (a ∷ []) e plain has_kind other = absurd (other (memory_alone _ e (one_passes a (plain 0 a (omega arith))) has_kind))
refused (a ∷ b ∷ []) e plain has_kind other = absurd (other (memory_alone _ e (two_pass a b (plain 0 a (omega arith)) (plain 1 a (omega arith))) has_kind))
refused (a ∷ b ∷ c ∷ []) e plain has_kind other =
    absurd (other (memory_alone _ e (three_pass a b c (plain 0 a (omega arith)) (plain 1 a (omega arith)) (plain 2 a (omega arith))) has_kind))
refused (a ∷ b ∷ c ∷ d ∷ rest) e plain has_kind other = inr (omega arith)
