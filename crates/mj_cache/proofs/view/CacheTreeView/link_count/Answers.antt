use Rattle.std.proofs.Common.{ap, ◌∙◌}
use Rattle.mj_cache.proofs.Placed.{links_in, links_are}
use Rattle.mj_cache.proofs.view.CacheTreeView.link_count.Goals as goal

pub returns-in-Some : goal.returns-in-Some
returns-in-Some c = c.from.ensures ∙ ap links_in c.in-Some.ensures ∙ links_are c.args.self.now c.has_tree.ensures c.args.ino

pub returns-in-None : goal.returns-in-None
returns-in-None c = ap links_in c.in-None.ensures ∙ links_are c.args.self.now c.has_tree.ensures c.args.ino
