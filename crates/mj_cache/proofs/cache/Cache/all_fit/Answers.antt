use Rattle.std.proofs.Common.{subst}
use Rattle.mj_cells.specs.Cell.{AllFit}
use Rattle.mj_cells.proofs.Fitting.{fit-put_all}
use Rattle.mj_tables.specs.Layered.{all_writes}
use Rattle.mj_cache.specs.Cached.{early_cells}
use Rattle.mj_cache.proofs.cache.Cache.all_fit.Goals as goal

pub returns-clause-safe : goal.returns-clause-safe
returns-clause-safe c = subst (λ v. AllFit v.safe) c.self.view_is c.self.invariant.safe_fit

pub returns-clause-early : goal.returns-clause-early
returns-clause-early c = subst (λ v. AllFit (early_cells v)) c.self.view_is (fit-put_all c.self.inside.layers.safe (all_writes c.self.inside.layers.groups) c.self.invariant.safe_fit c.self.invariant.writes_fit)
