use Rattle.std.proofs.Common.{List, Option, ℕ, ap, ◌∙◌}
use Rattle.mj_maps.specs.Map.{collect, from_entries}
use Rattle.mj_maps.proofs.MapLaws.{exact_place, collect-empty}
use Rattle.mj_plan.specs.declared.dentry_plans.Naming.{Naming}
use Rattle.mj_plan.specs.Planning.{dentry_said}
use Rattle.mj_plan.proofs.dentry_plans.no_dentries.Goals as goal

pub returns : goal.returns
returns c = ap (λ (es : List ((ℕ × List ℕ) × Option Naming)). collect dentry_said (from_entries es)) c.new.ensures.empty ∙ collect-empty exact_place dentry_said
