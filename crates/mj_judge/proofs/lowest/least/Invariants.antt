use Rattle.std.proofs.Common.{◌≡◌, drop}
use Rattle.mj_recovery.specs.Damage.{least}
use Rattle.mj_judge.proofs.Lesser.{lesser}
use Rattle.mj_judge.proofs.lowest.least.Given as goal

abbrev pub invariant-loop-n : goal.invariant-loop-n
invariant-loop-n l = lesser l.found (least (drop l.n-index l.inodes)) ≡ least l.inodes
