use Rattle.std.proofs.Common.{◌≡◌, take}
use Rattle.mj_tree.proofs.copying.copy_records.Given as goal

abbrev pub invariant-loop-inode : goal.invariant-loop-inode
invariant-loop-inode l = l.all.items ≡ take l.inode-index l.inode-items
