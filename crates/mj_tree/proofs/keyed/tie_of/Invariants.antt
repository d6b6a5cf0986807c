use Rattle.std.proofs.Common.{◌≡◌, ◌++◌, take, drop}
use Rattle.mj_tree.specs.Placing.{replaced}
use Rattle.mj_tree.proofs.keyed.tie_of.Given as goal

abbrev pub invariant-loop-i : goal.invariant-loop-i
invariant-loop-i g l = replaced g.T.Keyed.order l.item l.items ≡ take l.i l.items ++ replaced g.T.Keyed.order l.item (drop l.i l.items)
