use Rattle.std.proofs.Common.{sym, ◌∙◌}
use Rattle.mj_cache.specs.Cached.{early_tree}
use Rattle.mj_cache.proofs.Replies.{nothing_kept}
use Rattle.mj_cache.proofs.over_keys.kept_tids.Goals as goal

pub returns-in-None : goal.returns-in-None
returns-in-None c = c.new.ensures.items ∙ nothing_kept (early_tree c.args.cache.now) c.args.client (sym c.in-None.ensures)
