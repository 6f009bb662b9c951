use Rattle.std.proofs.Common.{◌≡◌, ◌∙◌, ℕ, List, [], map, codes, false, Some, None, option_map, string_bytes, sym, ap, subst, rules}
use Rattle.std.specs.Borrow.{Bor}
use Rattle.std.proofs.lemmas.List.Elements.{All-map}
use Rattle.clap.specs.Words.{App, app_of, is_simple, is_simple_and_free, matches_of, fault_of, first_of, first_value, found_of, HasKind}
use Rattle.clap.proofs.WalkLemmas.{first_value-rows}
use Rattle.cmm_line.specs.Words.{is_option}
use Rattle.cmm_line.specs.Parser.{parser}
use Rattle.cmm_line.proofs.Parser.{simple, simple_and_free, taken, found, refused}
use Rattle.cmm_line.proofs.words.read_words.Goals as goal

pub returns-in-Err-2 : goal.returns-in-Err-2
returns-in-Err-2 c =
    let words = map string_bytes c.args.words.now in
    let app : app_of c.in_ok-command.field-0 ≡ parser = search rules in
    let has_kind : HasKind (fault_of (app_of c.in_ok-command.field-0) words) c.in-Err.error = c.in-Err.ensures.kinds (ap is_simple_and_free app ∙ simple_and_free) in
    refused words c.in-Err.error (All-map (λ w. is_option w ≡ false) string_bytes c.args.words.now c.requires)
    (subst (λ (a : App). HasKind (fault_of a words) c.in-Err.error) app has_kind)
    (λ memory. search (rules, memory))

pub returns-in_default : goal.returns-in_default
returns-in_default c =
    let words = map string_bytes c.args.words.now in
    let app : app_of c.in_ok-command.field-0 ≡ parser = search rules in
    let rows = (c.in-Ok.ensures.matches (ap is_simple app ∙ simple)).0 ∙ ap (λ (a : App). matches_of a words) app in
    let none : first_value (found_of c.in-Ok.matches) (codes "name") ≡ None = search rules in
    found words (All-map (λ w. is_option w ≡ false) string_bytes c.args.words.now c.requires)
    (ap (first_of (codes "name")) (sym rows) ∙ sym (first_value-rows (found_of c.in-Ok.matches) (codes "name")) ∙ none)

pub returns : goal.returns
returns c =
    let words = map string_bytes c.args.words.now in
    let app : app_of c.in_ok-command.field-0 ≡ parser = search rules in
    let rows = (c.in-Ok.ensures.matches (ap is_simple app ∙ simple)).0 ∙ ap (λ (a : App). matches_of a words) app in
    let free = c.in-Ok.ensures.kinds (ap is_simple_and_free app ∙ simple_and_free) in
    let has : (id : List ℕ) → first_value (found_of c.in-Ok.matches) id ≡ first_of id (matches_of parser words) = λ id. first_value-rows (found_of c.in-Ok.matches) id ∙ ap (first_of id) rows in
    let name : Some c.in-Some.name.now ≡ first_value (found_of c.in-Ok.matches) (codes "name") = ap (option_map (λ (w : Bor (List ℕ)). w.now)) (sym c.in-Some.is) ∙ c.get_str.ensures in
    taken words c.in-Some.name c.get_str-2.result c.get_str-3.result (All-map (λ w. is_option w ≡ false) string_bytes c.args.words.now c.requires)
    (subst (λ (a : App). fault_of a words ≡ []) app free)
    (name ∙ has (codes "name")) (c.get_str-2.ensures ∙ has (codes "start")) (c.get_str-3.ensures ∙ has (codes "size"))
