use Rattle.mj_delta.proofs.TreeIs.{tree_is}
use Rattle.mj_delta.proofs.laws.tree_is_computed.Goals as goal

pub returns : goal.returns
returns c = tree_is
