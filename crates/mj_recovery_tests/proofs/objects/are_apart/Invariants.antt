use Rattle.std.proofs.Common.{◌≡◌, drop}
use Rattle.mj_recovery.specs.Objects.{are_apart}
use Rattle.mj_recovery_tests.proofs.objects.are_apart.Given as goal

abbrev pub invariant-loop-i : goal.invariant-loop-i
invariant-loop-i l = are_apart (drop l.i l.objects) ≡ are_apart l.objects
