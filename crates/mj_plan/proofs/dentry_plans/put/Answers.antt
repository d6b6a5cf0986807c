use Rattle.std.proofs.Common.{refl}
use Rattle.mj_maps.proofs.MapLaws.{exact_place}
use Rattle.mj_recovery.proofs.Merges.{collect_put}
use Rattle.mj_plan.specs.Planning.{dentry_said}
use Rattle.mj_plan.proofs.dentry_plans.put.Goals as goal

pub returns : goal.returns
returns c = collect_put exact_place dentry_said _ _ _ _ _ c.in_ok-insert.ensures.entries refl
