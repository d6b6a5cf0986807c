use Rattle.std.proofs.Common.{◌≡◌, drop}
use Rattle.mj_recovery.specs.Stored.{bad_pair}
use Rattle.mj_recovery.specs.Objects.{pair_entries}
use Rattle.mj_recovery_tests.proofs.bad.bad_pair.Given as goal

abbrev pub invariant-loop-pair : goal.invariant-loop-pair
invariant-loop-pair l = bad_pair l.name (pair_entries (drop l.pair-index l.pairs)) ≡ bad_pair l.name (pair_entries l.pairs)
