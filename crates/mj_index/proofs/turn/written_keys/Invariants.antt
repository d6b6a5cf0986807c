use Rattle.std.proofs.Common.{drop}
use Rattle.mj_index.specs.Turning.{AreKeysOf}
use Rattle.mj_index.proofs.turn.written_keys.Given as goal

abbrev pub invariant-loop-i : goal.invariant-loop-i
invariant-loop-i l = AreKeysOf l.keys (drop l.i l.ws)
