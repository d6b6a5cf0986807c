use Rattle.std.proofs.Common.{◌≡◌, ◌||◌, ℕ, drop}
use Rattle.mj_recovery.specs.Tree.{is_among}
use Rattle.mj_index.proofs.turn.set_of.Given as goal

abbrev pub invariant-loop-ino : goal.invariant-loop-ino
invariant-loop-ino l = (d : ℕ) → (is_among l.set.keys d || is_among (drop l.ino-index l.inodes) d) ≡ is_among l.inodes d
