use Rattle.std.proofs.Common.{◌≡◌, drop}
use Rattle.mj_tree.specs.State.{root}
use Rattle.mj_tree.specs.Walk.{walk_from}
use Rattle.mj_tree.proofs.walking.walk_names.Given as goal

abbrev pub invariant-loop-name : goal.invariant-loop-name
invariant-loop-name g l = walk_from (g.V.TreeView.tree l.view) l.at (drop l.name-index l.names) ≡ walk_from (g.V.TreeView.tree l.view) root l.names
