use Rattle.mj_plan.proofs.Projecting.{undamaged, has_tree, tree_after}
use Rattle.mj_plan.proofs.laws.a_plan_is_projected.Goals as goal

pub returns : goal.returns
returns c = record { undamaged = undamaged; tree = has_tree; after = tree_after }
