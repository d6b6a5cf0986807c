use Rattle.std.proofs.Common.{◌≡◌, None, subst}
use Rattle.mj_cache.specs.Cached.{early_table}
use Rattle.mj_judge.specs.Own.{own_damage}
use Rattle.mj_cache.proofs.cache.Cache.has_tree.Goals as goal

pub returns : goal.returns
returns c = subst (λ v. own_damage v.rank (early_table v) ≡ None) c.self.view_is c.self.invariant.undamaged
