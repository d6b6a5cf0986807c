use Rattle.mj_judge.specs.Rows.{count_in}
use Rattle.mj_judge.proofs.Counted.{Counting}
use Rattle.mj_judge.proofs.counts.Counts.of_inodes.Given as goal

abbrev pub invariant-loop-ino : goal.invariant-loop-ino
invariant-loop-ino l = Counting l.inodes l.ino-index (count_in l.counts)
