use Rattle.std.proofs.Common.{◌≡◌, ◌++◌, drop}
use Rattle.std.specs.Prelude.{filter, not}
use Rattle.mj_recovery.specs.Damage.{is_known}
use Rattle.mj_judge.proofs.range.push_unknown.Given as goal

abbrev pub invariant-loop-dir : goal.invariant-loop-dir
invariant-loop-dir l = l.found.items ++ filter (λ d. not (is_known l.rank l.next d)) (drop l.dir-index l.dirs) ≡ l.fn.found.items ++ filter (λ d. not (is_known l.rank l.next d)) l.dirs
