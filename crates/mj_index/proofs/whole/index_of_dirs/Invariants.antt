use Rattle.std.proofs.Common.{◌≡◌}
use Rattle.mj_index.specs.Following.{with_dirs}
use Rattle.mj_index.proofs.whole.index_of_dirs.Given as goal

abbrev pub invariant-loop-dir : goal.invariant-loop-dir
invariant-loop-dir l = with_dirs l.dir-iterator l.index ≡ with_dirs l.initial.dir-iterator l.initial.index
