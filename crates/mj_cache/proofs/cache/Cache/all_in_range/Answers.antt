use Rattle.std.proofs.Common.{subst}
use Rattle.mj_cache.specs.Cached.{early_cells}
use Rattle.mj_cache.specs.Ranges.{AllInRange}
use Rattle.mj_cache.proofs.cache.Cache.all_in_range.Goals as goal

pub returns : goal.returns
returns c = subst (λ v. AllInRange (early_cells v)) c.self.view_is c.self.invariant.range
