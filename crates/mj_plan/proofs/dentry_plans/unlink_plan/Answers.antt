use Rattle.mj_plan.proofs.dentry_plans.unlink_plan.Goals as goal

pub returns : goal.returns
returns c = λ r z. record { dentries = c.in_ok-dentries.ensures r z; removed = c.where_dir-removed.ensures z }
