use Rattle.std.proofs.Common.{rules, ◌≡◌, is_some, true}
use Rattle.std.proofs.lemmas.List.Elements.{All-pop}
use Rattle.state_words.proofs.Pouring.{poured}
use Rattle.state_words.proofs.slots.take_out.Goals as goal

pub loop-slot-preserved : goal.loop-slot-preserved
loop-slot-preserved g c =
    let i = c.loop-slot.invariant in (
      poured c.args.slots.items c.loop-slot.slots.items c.pop.new.self.items c.loop-slot.bodies.items c.push_reserved.new.self.items c.in-Some.slot c.in-Some-slot.body
          i.0 c.in-Some.ensures.items c.in-Some-slot.is c.push_reserved.ensures.items,
      (All-pop (λ s. is_some s ≡ true) c.loop-slot.slots.items c.pop.new.self.items c.pop.result c.pop.ensures.items i.1).0,
      search rules,
      search rules,
    )

pub unreachable-requires : goal.unreachable-requires
unreachable-requires g c =
    let last = (All-pop (λ s. is_some s ≡ true) c.loop-slot.slots.items c.pop.new.self.items c.pop.result c.pop.ensures.items c.loop-slot.invariant.1).1 in
    grind (rules, last, c.in-Some.is, c.in-None.is)
