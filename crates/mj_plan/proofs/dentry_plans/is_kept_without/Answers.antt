use Rattle.mj_cache.specs.Cached.{early_tree}
use Rattle.mj_plan.proofs.Left.{kept_by_links, kept_by_opens}
use Rattle.mj_plan.proofs.dentry_plans.is_kept_without.Goals as goal

pub returns-then-full-gt1 : goal.returns-then-full-gt1
returns-then-full-gt1 c = kept_by_links (early_tree c.args.cache.now) c.args.place.now c.args.ino c.args.full.now.inode.now.links c.requires.link c.requires.links c.if-full-gt1.true

pub returns-else-full-gt1 : goal.returns-else-full-gt1
returns-else-full-gt1 c = kept_by_opens (early_tree c.args.cache.now) c.args.place.now c.args.ino c.args.full.now.inode.now.links c.opens_of.result c.requires.link c.requires.links c.if-full-gt1.false c.opens_of.ensures
