use Rattle.mj_tree.proofs.Listed.{open_count_is}
use Rattle.mj_tree.proofs.plain.PlainTree.opens_to.Goals as goal

pub returns : goal.returns
returns c = rw c.opens_to.ensures (open_count_is c.args.self.now c.args.ino)
