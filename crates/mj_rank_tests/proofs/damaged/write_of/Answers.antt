use Rattle.mj_rank_tests.proofs.damaged.write_of.Goals as goal

pub dentry-requires : goal.dentry-requires
dentry-requires c = c.full.ensures c.in-Dir.dir

pub dentry-requires-in-File : goal.dentry-requires-in-File
dentry-requires-in-File c = c.full-in-File.ensures c.in-File.dir
