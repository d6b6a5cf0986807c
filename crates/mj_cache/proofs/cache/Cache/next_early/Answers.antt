use Rattle.std.proofs.Common.{ap, ◌∙◌}
use Rattle.std.specs.Option.{option_copied}
use Rattle.mj_tables.specs.Layered.{next_there}
use Rattle.mj_cache.specs.Cached.{early_cells}
use Rattle.mj_cache.proofs.cache.Cache.next_early.Goals as goal

pub returns : goal.returns
returns c = c.next_there.ensures ∙ ap (λ v. next_there (early_cells v) (option_copied c.args.after)) c.self.view_is
