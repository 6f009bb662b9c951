use Rattle.std.proofs.Common.{◌∙◌, sym}
use Rattle.cmm_scenario.proofs.Trees.{item_read, items_read, item_fault_given}
use Rattle.cmm_scenario.proofs.tree.items.Goals as goal

pub returns-in-Err : goal.returns-in-Err
returns-in-Err g c =
    item_fault_given _ (g.R.Reader.reads c.args.reader.now) c.args.list.now c.loop-place.place c.loop-place.items.items c.index-list-place.result c.in-Err.e _ c.loop-place-test.true
    c.index-list-place.is c.in-Err.ensures c.item_fault.ensures c.loop-place.invariant

pub loop-place-preserved : goal.loop-place-preserved
loop-place-preserved g c =
    rw c.in_ok-push-in-Ok.ensures.items (sym (item_read (g.R.Reader.reads c.args.reader.now)
    c.args.list.now c.loop-place.place c.loop-place.items.items c.index-list-place.result c.in-Ok.item c.loop-place-test.true c.index-list-place.is c.in-Ok.ensures) ∙ c.loop-place.invariant)

pub returns : goal.returns
returns g c =
    rw c.from_vec.ensures (items_read (g.R.Reader.reads c.args.reader.now) c.args.list.now c.loop-place.place c.loop-place.items.items _ c.loop-place-test.false c.loop-place.invariant)
