use Rattle.mj_tree.proofs.Listed.{records_len}
use Rattle.mj_tree.proofs.tables.PlainTreeTreeView.inode_count.Goals as goal

pub returns : goal.returns
returns c = rw c.len.ensures (records_len c.args.self.now)
