use Rattle.mj_tree.proofs.Listed.{session_found}
use Rattle.mj_tree.proofs.plain.PlainTree.session.Goals as goal

pub returns : goal.returns
returns c = rw c.session_in.ensures (session_found _ _)
