use Rattle.std.proofs.Common.{ap, ◌∙◌}
use Rattle.mj_cache.specs.Cached.{early_tree}
use Rattle.mj_index.specs.Places.{inodes_of, sessions_of, opens_of}
use Rattle.mj_index.proofs.IndexIs.{index_is}
use Rattle.mj_tables.specs.Layered.{early_cells}
use Rattle.mj_cache.proofs.cache.Cache.sums.Goals as goal

pub returns-clause-inodes : goal.returns-clause-inodes
returns-clause-inodes c = c.sums.ensures.inodes ∙ (index_is c.self.inside.rank (early_cells c.self.inside.layers) c.self.invariant.undamaged c.self.inside.index c.self.invariant.index).inodes ∙ ap (λ v. inodes_of (early_tree v)) c.self.view_is

pub returns-clause-sessions : goal.returns-clause-sessions
returns-clause-sessions c = c.sums.ensures.sessions ∙ (index_is c.self.inside.rank (early_cells c.self.inside.layers) c.self.invariant.undamaged c.self.inside.index c.self.invariant.index).sessions ∙ ap (λ v. sessions_of (early_tree v)) c.self.view_is

pub returns-clause-opens : goal.returns-clause-opens
returns-clause-opens c = c.sums.ensures.opens ∙ (index_is c.self.inside.rank (early_cells c.self.inside.layers) c.self.invariant.undamaged c.self.inside.index c.self.invariant.index).opens ∙ ap (λ v. opens_of (early_tree v)) c.self.view_is
