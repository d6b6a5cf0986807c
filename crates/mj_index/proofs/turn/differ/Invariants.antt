use Rattle.std.proofs.Common.{drop}
use Rattle.mj_index.specs.Course.{AreOnce}
use Rattle.mj_index.proofs.turn.differ.Given as goal

abbrev pub invariant-loop-i : goal.invariant-loop-i
invariant-loop-i l = AreOnce (drop l.i l.ws) → AreOnce l.ws
