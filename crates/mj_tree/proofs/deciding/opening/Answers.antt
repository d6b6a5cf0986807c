use Rattle.std.proofs.Common.{sym, ◌∙◌}
use Rattle.mj_maps.specs.Map.{get}
use Rattle.mj_tree.proofs.ByOldest.{opening_some, opening_none}
use Rattle.mj_tree.proofs.deciding.opening.Goals as goal

pub returns-in-Some : goal.returns-in-Some
returns-in-Some g c = c.refused.ensures ∙ sym (opening_some (g.V.TreeView.tree c.args.view.now) (get (g.V.TreeView.tree c.args.view.now).sessions c.args.client) _ (sym c.in-Some.ensures))

pub returns-in-None : goal.returns-in-None
returns-in-None g c = c.beginning.ensures ∙ sym (opening_none (g.V.TreeView.tree c.args.view.now) (get (g.V.TreeView.tree c.args.view.now).sessions c.args.client) (sym c.in-None.ensures))
