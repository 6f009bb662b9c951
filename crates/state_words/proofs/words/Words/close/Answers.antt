use Rattle.std.proofs.Common.{rules, arith, ◌≡◌, ◌<◌, length, sym, ap, ◌∙◌, subst, Some, None}
use Rattle.std.proofs.lemmas.Option.{same_Some}
use Rattle.std.specs.Mem.Slots.{slots_filled, slots_len, slots_items}
use lib.ListN.{get_elem?}
use Rattle.state_words.proofs.Closing.{closed_word, closed_home, not_none, still_filled, now_empty, moved_none, moved_one, counted_busy, counted_free}
use Rattle.state_words.proofs.words.Words.close.Goals.{then-held, else-held+in-Some}
use Rattle.state_words.proofs.words.Words.close.Goals as goal

pub is_busy-held-requires : goal.is_busy-held-requires
is_busy-held-requires g c =
    closed_word g.B.Body.body g.B.Body.house _ _ _ _ _ c.loop-page.page c.word.result c.close_with-closed.ensures.values.2
    (ap (λ q. get_elem? (slots_items q) c.loop-page.page) (sym c.loop-page.invariant.0) ∙ c.word.ensures)

pub unreachable-requires : goal.unreachable-requires
unreachable-requires g c =
    let there = ap (λ q. get_elem? (slots_items q) c.loop-page.page) (sym c.loop-page.invariant.0) ∙ c.word.ensures in
    let h = closed_home g.B.Body.body g.B.Body.house _ _ _ _ _ c.loop-page.page c.word.result c.close_with-closed.ensures.values.2 there (sym c.is_busy-held.ensures ∙ c.if-held.false) in
    let found = not_none _ _ c.loop-page.page h.there c.take-slot.result h.home c.loop-page.invariant.1 c.take-slot.ensures.value in
    let bad : None ≡ Some h.there = sym c.in-None.is ∙ found in
    absurd (cc)

pub loop-page-preserved : goal.loop-page-preserved
loop-page-preserved g c =
    let i = c.loop-page.invariant in
    let o = c.take-slot.ensures.others in
    let words = slots_items c.close_with-closed.result.words in
    let there = ap (λ q. get_elem? (slots_items q) c.loop-page.page) (sym i.0) ∙ c.word.ensures in
    let counts : length (slots_filled c.loop-page.closed.slots) ≡ slots_len c.loop-page.closed.slots = search rules in
    let inside : c.loop-page.page < slots_len c.loop-page.closed.slots = search rules in
    let len_same : slots_len c.take-slot.new.self.slots ≡ slots_len c.loop-page.closed.slots = o.2 in
    let filled = still_filled (slots_filled c.loop-page.closed.slots) (slots_filled c.take-slot.new.self.slots) c.loop-page.page (slots_len c.loop-page.closed.slots) o.1 counts i.3 in
    let empty = now_empty (slots_filled c.loop-page.closed.slots) (slots_filled c.take-slot.new.self.slots) c.loop-page.page (slots_len c.loop-page.closed.slots) o.1 counts inside i.4 in (
      o.3 ∙ i.0,
      o.0 ∙ i.1,
      len_same ∙ i.2,
      (λ k a b. filled k a (subst (λ q. k < q) len_same b)),
      empty,
      (elim c.if-held.branch [ then-held v ↦ search (rules, arith) | else-held+in-Some v ↦ search (rules, arith) ]),
      (elim c.if-held.branch [ then-held v ↦ search rules | else-held+in-Some v ↦ search rules ]),
      (elim c.if-held.branch [
        | then-held v ↦ moved_none _ _ _ _ _ _ i.7 _ _ (search rules) (search rules)
        | else-held+in-Some v ↦
            let h = closed_home g.B.Body.body g.B.Body.house _ _ _ _ _ c.loop-page.page c.word.result c.close_with-closed.ensures.values.2 there (sym c.is_busy-held.ensures ∙ v.if-held.false) in
            let found = not_none _ _ c.loop-page.page h.there c.take-slot.result h.home i.1 c.take-slot.ensures.value in
            let same = same_Some v.in-Some.body h.there (sym v.in-Some.is ∙ found) in
            moved_one _ _ _ _ _ _ i.7 _ _ v.in-Some.body (search rules) (search rules) (ap g.B.Body.house same ∙ h.housed ∙ ap (λ w. w.house) c.self.view_is)
      ]),
      (elim c.if-held.branch [
        | then-held v ↦ counted_busy words c.loop-page.page c.word.result c.loop-page.busy c.if-held.busy there i.8 (sym c.is_busy-held.ensures ∙ v.if-held.true) v.busy-is
        | else-held+in-Some v ↦ counted_free words c.loop-page.page c.word.result c.loop-page.busy c.if-held.busy there i.8 (sym c.is_busy-held.ensures ∙ v.if-held.false) v.busy-is
      ]),
    )
