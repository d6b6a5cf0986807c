use Rattle.std.proofs.Common.{ap, ◌∙◌}
use Rattle.mj_cache.specs.Cached.{primary_of}
use Rattle.mj_index.proofs.IndexIs.{index_is}
use Rattle.mj_tables.specs.Layered.{early_cells}
use Rattle.mj_cache.proofs.cache.Cache.primary_of.Goals as goal

pub returns : goal.returns
returns c = c.primary_of.ensures ∙ (index_is c.self.inside.rank (early_cells c.self.inside.layers) c.self.invariant.undamaged c.self.inside.index c.self.invariant.index).primary c.args.ino ∙ ap (λ v. primary_of v c.args.ino) c.self.view_is
