use Rattle.std.proofs.Common.{ap}
use Rattle.mj_cache.specs.Cached.{CacheValue}
use Rattle.mj_rank_tests.proofs.served.begin.Goals as goal

pub returns : goal.returns
returns c = ap (λ (v : CacheValue). v.groups) c.in_ok-cache.ensures.holds
