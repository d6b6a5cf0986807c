use Rattle.std.proofs.Common.{◌≡◌, IfOk, sym, subst, ◌∙◌}
use Rattle.mj_maps.specs.Map.{get}
use Rattle.mj_tree.specs.declared.change.Decision.{Decision}
use Rattle.mj_tree.proofs.ByOldest.{by_session_some, stale_none}
use Rattle.mj_tree.proofs.deciding.by_session.Goals as goal

pub returns-in-Some : goal.returns-in-Some
returns-in-Some g c =
    subst (λ (x : Decision). IfOk c.by_oldest.result (λ d. d ≡ x)) (sym (by_session_some (g.V.TreeView.tree c.args.view.now) c.args.r.now c.in-Some.oldest (sym c.in-Some.ensures))) c.by_oldest.ensures

pub returns-in-None : goal.returns-in-None
returns-in-None g c = c.refused.ensures ∙ sym (stale_none (g.V.TreeView.tree c.args.view.now) c.args.r.now (get (g.V.TreeView.tree c.args.view.now).sessions c.args.r.now.client) (sym c.in-None.ensures))
