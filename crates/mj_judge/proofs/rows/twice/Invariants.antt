use Rattle.std.proofs.Common.{◌≡◌, ◌++◌, drop}
use Rattle.std.specs.Prelude.{filter, ◌==◌, ◌||◌, nat_lt}
use Rattle.mj_tree.specs.State.{root}
use Rattle.mj_judge.specs.Rows.{count_in}
use Rattle.mj_judge.proofs.rows.twice.Given as goal

abbrev pub invariant-loop-ino : goal.invariant-loop-ino
invariant-loop-ino l = l.found.items ++ filter (λ i. (i == root) || nat_lt 1 (count_in l.counts i)) (drop l.ino-index l.inodes) ≡ filter (λ i. (i == root) || nat_lt 1 (count_in l.counts i)) l.inodes
