use Rattle.std.proofs.Common.{rules, sym, ◌∙◌, ap, subst, ◌≡◌, get_or, is_some, true}
use Rattle.std.specs.Prelude.{All}
use Rattle.state_words.specs.WordsRule.{FitsStart}
use Rattle.state_words.specs.Slots.{bodies_in}
use Rattle.state_words.proofs.Opening.{starts_at, same_house}
use Rattle.state_words.proofs.Pouring.{bodies_in-map, all_some-map}
use Rattle.state_words.proofs.words.Words.open.Goals as goal

pub new-requires : goal.new-requires
new-requires g c =
    let start = c.requires.start in
    starts_at g.B.Body.body g.B.Body.house c.len-count.result c.args.bodies.items c.as_slice.result.now c.put_in.new.slots.items start.0 c.of.result.value
    (search rules) (search rules) (search rules) c.requires.some (search rules) start.1

pub returns-in-Ok-new-clause-housed : goal.returns-in-Ok-new-clause-housed
returns-in-Ok-new-clause-housed g c =
    let start = c.requires.start in
    let first : get_or c.args.bodies.items 0 c.of.result.value ≡ c.of.result.value = search rules in
    let same : c.in-Ok-new.table.shared.key.like.value ≡ c.of.result.value = search rules in
    let house = same_house g.B.Body.body g.B.Body.house c.args.bodies.items start.0 c.of.result.value c.requires.some first start.1 in
    subst (λ q. All (FitsStart g.B.Body.body g.B.Body.house q) c.args.bodies.items) (sym (ap g.B.Body.house same ∙ house)) start.1

pub take_out-requires-clause-full : goal.take_out-requires-clause-full
take_out-requires-clause-full g c =
    subst (λ q. All (λ slot. is_some slot ≡ true) q) (sym (c.in-Err.ensures.err ∙ c.put_in.ensures.slots)) (all_some-map c.args.bodies.items)

pub returns-clause-same : goal.returns-clause-same
returns-clause-same g c = c.take_out.ensures ∙ ap bodies_in (c.in-Err.ensures.err ∙ c.put_in.ensures.slots) ∙ bodies_in-map c.args.bodies.items
