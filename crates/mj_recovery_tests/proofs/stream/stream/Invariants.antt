use Rattle.std.proofs.Common.{◌≡◌, ◌++◌}
use Rattle.mj_recovery.specs.Stream.{stream}
use Rattle.mj_recovery.specs.Listed.{image_of}
use Rattle.mj_recovery_tests.proofs.stream.stream.Given as goal

abbrev pub invariant-loop-x : goal.invariant-loop-x
invariant-loop-x l = l.bytes.items ++ stream (image_of l.objects) l.rank l.layout l.x ≡ stream (image_of l.objects) l.rank l.layout l.from
