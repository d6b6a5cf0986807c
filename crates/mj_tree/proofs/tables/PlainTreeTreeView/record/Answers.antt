use Rattle.mj_tree.proofs.Listed.{record_found}
use Rattle.mj_tree.proofs.tables.PlainTreeTreeView.record.Goals as goal

pub returns : goal.returns
returns c = rw c.record_in.ensures (record_found _ _)
