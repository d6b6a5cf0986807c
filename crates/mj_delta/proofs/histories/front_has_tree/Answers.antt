use Rattle.mj_delta.proofs.Fronts.{front_tree}
use Rattle.mj_delta.proofs.histories.front_has_tree.Goals as goal

pub returns : goal.returns
returns c = front_tree
