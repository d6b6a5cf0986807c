use Rattle.mj_tree.proofs.Listed.{sessions_len}
use Rattle.mj_tree.proofs.tables.PlainTreeTreeView.session_count.Goals as goal

pub returns : goal.returns
returns c = rw c.len.ensures (sessions_len c.args.self.now)
