use Rattle.std.proofs.Common.{◌≡◌, drop}
use Rattle.mj_recovery.specs.Listed.{found}
use Rattle.mj_recovery_tests.proofs.stream.find.Given as goal

abbrev pub invariant-loop-object : goal.invariant-loop-object
invariant-loop-object l = found l.name (drop l.object-index l.objects) ≡ found l.name l.objects
