use Rattle.mj_recovery.proofs.Lawful.{same_tree}
use Rattle.mj_recovery.proofs.laws.one_tree_per_table.Goals as goal

pub returns : goal.returns
returns c = same_tree
