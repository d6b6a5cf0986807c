use Rattle.std.proofs.Common.{◌≡◌, ◌++◌, drop}
use Rattle.std.specs.Prelude.{filter, is_some}
use Rattle.mj_recovery.specs.ListedObjects.{listed_bad_key}
use Rattle.mj_recovery_tests.proofs.bad.bad_dirs.Given as goal

abbrev pub invariant-loop-dir : goal.invariant-loop-dir
invariant-loop-dir l = l.found.items ++ filter (λ d. is_some (listed_bad_key l.objects d)) (drop l.dir-index l.dirs) ≡ filter (λ d. is_some (listed_bad_key l.objects d)) l.dirs
