use Rattle.std.proofs.Common.{◌≡◌, ◌++◌}
use Rattle.mj_judge.specs.Rows.{count_in, over_dirs}
use Rattle.mj_judge.proofs.rows.over_dirs.Given as goal

abbrev pub invariant-loop-dir : goal.invariant-loop-dir
invariant-loop-dir l = l.found.items ++ over_dirs (count_in l.counts) l.dir-iterator ≡ over_dirs (count_in l.counts) l.initial.dir-iterator
