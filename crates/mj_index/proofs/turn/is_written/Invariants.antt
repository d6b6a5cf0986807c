use Rattle.std.proofs.Common.{◌≡◌, drop}
use Rattle.mj_tables.specs.Layered.{writes_key}
use Rattle.mj_index.proofs.turn.is_written.Given as goal

abbrev pub invariant-loop-w : goal.invariant-loop-w
invariant-loop-w l = writes_key l.key (drop l.w-index l.ws) ≡ writes_key l.key l.ws
