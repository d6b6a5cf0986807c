use Rattle.mj_tree.proofs.Listed.{link_found}
use Rattle.mj_tree.proofs.tables.PlainTreeTreeView.link_at.Goals as goal

pub returns : goal.returns
returns c = rw c.link_in.ensures (link_found _ _ _)
