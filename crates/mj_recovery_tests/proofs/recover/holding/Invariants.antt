use Rattle.std.proofs.Common.{◌≡◌, ◌++◌}
use Rattle.mj_recovery_tests.proofs.recover.holding.Given as goal

abbrev pub invariant-loop-dir : goal.invariant-loop-dir
invariant-loop-dir l = l.all.items ++ l.dir-iterator ≡ l.initial.all.items ++ l.initial.dir-iterator
