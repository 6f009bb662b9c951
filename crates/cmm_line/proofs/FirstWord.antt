-- Which lines begin with the word `run`.
use Rattle.std.proofs.Common.{◌≡◌, ◌<◌, ◌≤◌, ◌∙◌, ℕ, List, [], ◌∷◌, length, map, get_or, codes, arith, Bool, true, false, Option, Some, None, option_map, true≢false, refl, sym, ap, subst}
use Rattle.std.specs.Prelude.{if◌then◌else◌}
use Rattle.std.specs.List.{list_any}
use Rattle.std.specs.Str.{bytes_eq}
use Rattle.std.proofs.lemmas.Slice.Eq.{bytes_eq-Decides}
use Rattle.cmm_line.specs.declared.line.Line.{Line}
use Rattle.cmm_line.specs.declared.line.Line.TheVariants.{Replay, Run, Check, Gen, Demo}
use Rattle.cmm_line.specs.Words.{is_option}
use Rattle.cmm_line.specs.Line.{start_and_size, line_named, line_in, line_of, no_more_words, begins_run, run_line, other_line}

pub first_word : {X : Type 0} (f : X → List ℕ) (xs : List X) (x : X) → 1 ≤ length xs → x ≡ get_or xs 0 x → bytes_eq (f x) (codes "run") ≡ begins_run (map f xs)
first_word f [] x some is = absurd (omega (arith, some))
first_word f (y ∷ ys) x some is = ap (λ z. bytes_eq (f z) (codes "run")) is

pub no_word : {X : Type 0} (f : X → List ℕ) (xs : List X) → length xs < 1 → false ≡ begins_run (map f xs)
no_word f [] none = refl
no_word f (y ∷ ys) none = absurd (omega (arith, none))

-- ---- the first word is `run`

run_alone : (words : List (List ℕ)) → run_line (no_more_words Run words) ≡ no_more_words Run words
run_alone [] = refl
run_alone (word ∷ words) = refl

run_named : (words : List (List ℕ)) → run_line (line_named (codes "run") words) ≡ line_named (codes "run") words
unfolding line_named
run_named words = run_alone words

run_in : (name : List ℕ) (words : List (List ℕ)) → bytes_eq name (codes "run") ≡ true → run_line (line_named name words) ≡ line_named name words
run_in name words run = subst (λ n. run_line (line_named n words) ≡ line_named n words) (sym ((bytes_eq-Decides name (codes "run")).0 run)) (run_named words)

run_if : (option : Bool) (line : Option Line) → run_line line ≡ line → run_line (if option then None else line) ≡ (if option then None else line)
run_if true line run = refl
run_if false line run = run

pub run_is : (words : List (List ℕ)) → begins_run words ≡ true → run_line (line_of words) ≡ line_of words
unfolding line_of
run_is [] run = absurd (true≢false (sym run))
run_is (name ∷ words) run = run_if (list_any is_option (name ∷ words)) (line_named name words) (run_in name words run)

-- ---- it is another word

other_alone : (words : List (List ℕ)) → (other_line (no_more_words Replay words) ≡ no_more_words Replay words) × (other_line (no_more_words Check words) ≡ no_more_words Check words)
other_alone [] = (refl, refl)
other_alone (word ∷ words) = (refl, refl)

gen_same : (o : Option (ℕ × ℕ)) → other_line (option_map (λ p. Gen p.0 p.1) o) ≡ option_map (λ p. Gen p.0 p.1) o
gen_same None = refl
gen_same (Some p) = refl

demo_same : (o : Option (ℕ × ℕ)) → other_line (option_map (λ p. Demo p.0 p.1) o) ≡ option_map (λ p. Demo p.0 p.1) o
demo_same None = refl
demo_same (Some p) = refl

-- the line of the four other names
abbrev one_of_four : (a b c d : Bool) → List (List ℕ) → Option Line
one_of_four a b c d words =
    if a then no_more_words Replay words
    else if false then no_more_words Run words
    else if b then no_more_words Check words
    else if c then option_map (λ p. Gen p.0 p.1) (start_and_size words)
    else if d then option_map (λ p. Demo p.0 p.1) (start_and_size words)
    else None

other_of_four : (a b c d : Bool) (words : List (List ℕ)) → other_line (one_of_four a b c d words) ≡ one_of_four a b c d words
other_of_four true b c d words = (other_alone words).0
other_of_four false true c d words = (other_alone words).1
other_of_four false false true d words = gen_same (start_and_size words)
other_of_four false false false true words = demo_same (start_and_size words)
other_of_four false false false false words = refl

other_in : (name : List ℕ) (words : List (List ℕ)) → bytes_eq name (codes "run") ≡ false → other_line (line_named name words) ≡ line_named name words
unfolding line_named
other_in name words other =
    rw other (other_of_four (bytes_eq name (codes "replay")) (bytes_eq name (codes "check")) (bytes_eq name (codes "gen")) (bytes_eq name (codes "demo")) words)

other_if : (option : Bool) (line : Option Line) → other_line line ≡ line → other_line (if option then None else line) ≡ (if option then None else line)
other_if true line other = refl
other_if false line other = other

pub other_is : (words : List (List ℕ)) → begins_run words ≡ false → other_line (line_of words) ≡ line_of words
unfolding line_of
other_is [] other = refl
other_is (name ∷ words) other = other_if (list_any is_option (name ∷ words)) (line_named name words) (other_in name words other)
