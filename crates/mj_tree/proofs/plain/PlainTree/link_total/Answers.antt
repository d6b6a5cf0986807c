use Rattle.mj_tree.proofs.Listed.{links_len}
use Rattle.mj_tree.proofs.plain.PlainTree.link_total.Goals as goal

pub returns : goal.returns
returns c = rw c.len.ensures (links_len c.args.self.now)
