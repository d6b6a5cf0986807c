use Rattle.std.proofs.Common.{ap, ◌∙◌}
use Rattle.mj_maps.specs.Map.{get}
use Rattle.mj_cache.specs.Cached.{early_cells}
use Rattle.mj_cache.proofs.cache.Cache.early.Goals as goal

pub returns : goal.returns
returns c = c.early.ensures ∙ ap (λ v. get (early_cells v) c.args.key.now) c.self.view_is
