use Rattle.mj_tree.proofs.Listed.{entry_count_is}
use Rattle.mj_tree.proofs.tables.PlainTreeTreeView.entry_count.Goals as goal

pub returns : goal.returns
returns c = rw c.links_from.ensures (entry_count_is c.args.self.now c.args.dir)
