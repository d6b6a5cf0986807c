use Rattle.std.proofs.Common.{sym, ◌∙◌}
use Rattle.mj_cache.specs.Cached.{early_cells}
use Rattle.mj_judge.proofs.PartMaps.{get-sessions}
use Rattle.mj_cache.proofs.view.CacheTreeView.session_oldest.Goals as goal

pub returns-in-Some : goal.returns-in-Some
returns-in-Some c = c.in-Some.ensures ∙ sym (get-sessions (early_cells c.args.self.now) c.args.client) ∙ c.has_tree.ensures.sessions.sessions c.args.client

pub returns : goal.returns
returns c = c.in-None.ensures ∙ sym (get-sessions (early_cells c.args.self.now) c.args.client) ∙ c.has_tree.ensures.sessions.sessions c.args.client
