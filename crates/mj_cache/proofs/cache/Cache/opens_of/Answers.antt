use Rattle.std.proofs.Common.{ap, ◌∙◌}
use Rattle.mj_tree.specs.State.{open_count}
use Rattle.mj_cache.specs.Cached.{early_tree}
use Rattle.mj_index.proofs.IndexIs.{index_is}
use Rattle.mj_tables.specs.Layered.{early_cells}
use Rattle.mj_cache.proofs.cache.Cache.opens_of.Goals as goal

pub returns : goal.returns
returns c = c.opens_of.ensures ∙ (index_is c.self.inside.rank (early_cells c.self.inside.layers) c.self.invariant.undamaged c.self.inside.index c.self.invariant.index).opened c.args.ino ∙ ap (λ v. open_count (early_tree v) c.args.ino) c.self.view_is
