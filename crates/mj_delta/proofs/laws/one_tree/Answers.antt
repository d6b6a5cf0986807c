use Rattle.mj_delta.proofs.OneTree.{same_state}
use Rattle.mj_delta.proofs.laws.one_tree.Goals as goal

pub returns : goal.returns
returns c = same_state
