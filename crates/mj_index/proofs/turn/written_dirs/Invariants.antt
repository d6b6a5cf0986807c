use Rattle.std.proofs.Common.{◌≡◌, ◌++◌, drop}
use Rattle.mj_index.specs.Said.{written_dirs}
use Rattle.mj_index.proofs.turn.written_dirs.Given as goal

abbrev pub invariant-loop-w : goal.invariant-loop-w
invariant-loop-w l = l.found.items ++ written_dirs (drop l.w-index l.ws) ≡ written_dirs l.ws
