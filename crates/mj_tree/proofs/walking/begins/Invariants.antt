use Rattle.std.proofs.Common.{◌≡◌, drop}
use Rattle.mj_tree.specs.Walk.{begins}
use Rattle.mj_tree.proofs.walking.begins.Given as goal

abbrev pub invariant-loop-i : goal.invariant-loop-i
invariant-loop-i l = begins (drop l.i l.from) (drop l.i l.to) ≡ begins l.from l.to
