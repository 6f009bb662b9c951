use Rattle.std.proofs.Common.{◌≡◌, drop, map}
use Rattle.cmm_scenario.specs.Borrowed.{view}
use Rattle.cmm_scenario.specs.Tree.{each_from}
use Rattle.cmm_scenario.proofs.Trees.{with_front}
use Rattle.cmm_scenario.proofs.tree.items.Given as goal

abbrev pub invariant-loop-place : goal.invariant-loop-place
invariant-loop-place g l = with_front l.items.items (each_from l.place (g.R.Reader.reads l.reader) (map view (drop l.place l.list))) ≡ each_from 0 (g.R.Reader.reads l.reader) (map view l.list)
