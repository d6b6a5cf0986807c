use Rattle.std.proofs.Common.{sym, ◌∙◌}
use Rattle.mj_cache.specs.Cached.{early_cells}
use Rattle.mj_judge.proofs.PartMaps.{get-done}
use Rattle.mj_cache.proofs.view.CacheTreeView.kept_reply.Goals as goal

pub returns-in-Some : goal.returns-in-Some
returns-in-Some c = c.in-Some.ensures ∙ sym (get-done (early_cells c.args.self.now) (c.args.client, c.args.tid)) ∙ c.has_tree.ensures.sessions.replies c.args.client c.args.tid

pub returns : goal.returns
returns c = c.in-None.ensures ∙ sym (get-done (early_cells c.args.self.now) (c.args.client, c.args.tid)) ∙ c.has_tree.ensures.sessions.replies c.args.client c.args.tid
