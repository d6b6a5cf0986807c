use Rattle.std.proofs.Common.{◌≡◌, ◌≤◌, ◌-◌, ◌++◌, length, take, drop}
use Rattle.mj_base.specs.InOrder.{placed}
use Rattle.mj_tree.proofs.keyed.place_of.Given as goal

abbrev pub invariant-loop-at : goal.invariant-loop-at
invariant-loop-at g l = (l.at ≤ length l.items) × (placed g.T.Keyed.order l.item l.items ≡ take l.at l.items ++ placed g.T.Keyed.order l.item (drop l.at l.items))

abbrev pub decreases-loop-at : goal.decreases-loop-at
decreases-loop-at g l = length l.items - l.at
