use Rattle.std.proofs.Common.{◌≡◌, ◌++◌, drop}
use Rattle.mj_recovery.specs.Damage.{lump_dirs}
use Rattle.mj_recovery_tests.proofs.recover.push_heads.Given as goal

abbrev pub invariant-loop-w : goal.invariant-loop-w
invariant-loop-w l = l.found.items ++ lump_dirs (drop l.w-index l.writes) ≡ l.fn.found.items ++ lump_dirs l.writes
