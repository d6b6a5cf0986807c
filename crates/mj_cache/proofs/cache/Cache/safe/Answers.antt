use Rattle.std.proofs.Common.{ap, ◌∙◌}
use Rattle.mj_maps.specs.Map.{get}
use Rattle.mj_cache.proofs.cache.Cache.safe.Goals as goal

pub returns : goal.returns
returns c = c.safe.ensures ∙ ap (λ v. get v.safe c.args.key.now) c.self.view_is
