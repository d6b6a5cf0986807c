use Rattle.mj_tree.proofs.Listed.{opens_len}
use Rattle.mj_tree.proofs.tables.PlainTreeTreeView.open_count.Goals as goal

pub returns : goal.returns
returns c = rw c.len.ensures (opens_len c.args.self.now)
