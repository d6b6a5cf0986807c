use Rattle.mj_delta.proofs.Spelled.{image_tree}
use Rattle.mj_delta.proofs.laws.image_has_tree.Goals as goal

pub returns : goal.returns
returns c = image_tree
