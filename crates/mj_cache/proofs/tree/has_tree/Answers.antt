use Rattle.mj_cache.proofs.EachTree.{each_tree}
use Rattle.mj_cache.proofs.tree.has_tree.Goals as goal

pub returns : goal.returns
returns c = each_tree c.args.cache.now c.has_tree.ensures c.all_fit.ensures.early c.all_in_range.ensures
