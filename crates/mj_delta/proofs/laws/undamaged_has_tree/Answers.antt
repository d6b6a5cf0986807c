use Rattle.mj_delta.proofs.Undamaged.{undamaged_tree}
use Rattle.mj_delta.proofs.laws.undamaged_has_tree.Goals as goal

pub returns : goal.returns
returns c = undamaged_tree
