use Rattle.std.proofs.Common.{◌≡◌, ◌++◌, drop}
use Rattle.std.specs.Prelude.{filter, not}
use Rattle.mj_recovery.specs.Damage.{is_given}
use Rattle.mj_judge.proofs.range.push_not_given.Given as goal

abbrev pub invariant-loop-ino : goal.invariant-loop-ino
invariant-loop-ino l = l.found.items ++ filter (λ i. not (is_given l.rank l.next i)) (drop l.ino-index l.inodes) ≡ l.fn.found.items ++ filter (λ i. not (is_given l.rank l.next i)) l.inodes
