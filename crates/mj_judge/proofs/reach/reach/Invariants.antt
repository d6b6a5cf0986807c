use Rattle.std.proofs.Common.{length}
use Rattle.mj_judge.proofs.Passes.{SoFar}
use Rattle.mj_judge.proofs.reach.reach.Given as goal

abbrev pub invariant-passes : goal.invariant-passes
invariant-passes l = SoFar l.fn.edges.items l.dirs.keys l.left.items

abbrev pub decreases-passes : goal.decreases-passes
decreases-passes l = length l.left.items
