use Rattle.std.proofs.Common.{ap, ◌∙◌}
use Rattle.mj_cache.specs.Cached.{early_table}
use Rattle.mj_delta.specs.Plan.{with_dentry}
use Rattle.mj_plan.proofs.dentry_plans.replace_plan.Goals as goal

pub returns : goal.returns
returns c = λ r.
    let dentries = c.in_ok-move_dentry.ensures ∙ ap (with_dentry (early_table c.args.cache.now) c.args.from.now c.args.to.now) (c.in_ok-dentries.ensures r) in
    λ z. record { dentries = dentries z; removed = c.where_dir-removed.ensures z }
