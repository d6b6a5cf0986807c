use Rattle.std.proofs.Common.{◌≡◌, ◌++◌, drop}
use Rattle.mj_judge.specs.Rows.{count_in, kept_of}
use Rattle.mj_judge.proofs.rows.kept_of.Given as goal

abbrev pub invariant-loop-ino : goal.invariant-loop-ino
invariant-loop-ino l = l.found.items ++ kept_of (count_in l.links) (count_in l.opens) (drop l.ino-index l.inodes) ≡ kept_of (count_in l.links) (count_in l.opens) l.inodes
