use Rattle.mj_tree.proofs.Listed.{link_count_is}
use Rattle.mj_tree.proofs.tables.PlainTreeTreeView.link_count.Goals as goal

pub returns : goal.returns
returns c = rw c.links_to.ensures (link_count_is c.args.self.now c.args.ino)
