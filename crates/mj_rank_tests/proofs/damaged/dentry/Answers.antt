use Rattle.mj_rank_tests.proofs.damaged.dentry.Goals as goal

pub returns : goal.returns
returns c = c.requires c.in_ok-name.name
