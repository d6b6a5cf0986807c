use Rattle.mj_delta.proofs.Undamaged.{spelled_tree}
use Rattle.mj_delta.proofs.laws.spelled_has_tree.Goals as goal

pub returns : goal.returns
returns c = spelled_tree
