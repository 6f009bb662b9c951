use Rattle.std.proofs.Common.{◌≡◌, length, rules, ap, subst, replicate, List, map}
use Rattle.std.specs.Prelude.{All}
use Rattle.essa_state.specs.PageBody.{Body}
use Rattle.host_plain.specs.MemoryState.{IsWholeBody, frameless}
use Rattle.essa_state.specs.StateWord.{opening_word}
use Rattle.host_plain.specs.Bodies.{BodiesView}
use Rattle.host_plain.proofs.Opening.{opening-sound, opening-memory}
use Rattle.host_plain.proofs.Seen.{sound-by}
use Rattle.host_plain.proofs.memory.Memory.open.Goals as goal

pub returns-clause-memory : goal.returns-clause-memory
returns-clause-memory c =
    let words : c.in_ok-open.field-0 ≡ replicate (length c.args.blocks.items) opening_word = search rules in
    opening-memory c.args.blocks.items c.args.frames c.in_ok-open.field-0 c.in_ok-open-2.field-0 words c.in_ok-open-2.ensures.bodies

pub returns-clause-sound : goal.returns-clause-sound
returns-clause-sound c =
    let bodies : c.in_ok-open-2.field-0.bodies ≡ map frameless c.args.blocks.items = ap (λ (v : BodiesView). v.bodies) c.in_ok-open-2.ensures.bodies in
    let whole : All IsWholeBody (map frameless c.args.blocks.items) = subst (λ (bs : List Body). All IsWholeBody bs) bodies c.in_ok-open-2.ensures.whole in
    sound-by _ _ (returns-clause-memory c)
    (opening-sound c.args.blocks.items c.args.frames c.requires.some_pages c.requires.most_pages c.requires.some_frames c.requires.most_frames whole)

pub invariant_of-result : goal.invariant_of-result
invariant_of-result c = returns-clause-sound c
