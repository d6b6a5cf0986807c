use Rattle.mj_plan.proofs.Projecting.{new_sound, new_has_tree, new_is}
use Rattle.mj_plan.proofs.laws.a_new_rank_is_cached.Goals as goal

pub returns : goal.returns
returns c = record { undamaged = new_sound; tree = new_has_tree; state = new_is }
