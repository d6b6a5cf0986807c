use Rattle.std.proofs.Common.{◌∙◌}
use Rattle.mj_tree.proofs.Listed.{kept_in_session, none_kept}
use Rattle.mj_tree.proofs.plain.PlainTree.kept_from.Goals as goal

pub returns-in-Some : goal.returns-in-Some
returns-in-Some c = c.kept_from.ensures ∙ kept_in_session c.args.self.now c.args.client c.args.oldest c.in-Some.session.now c.in-Some.ensures

pub returns-in-None : goal.returns-in-None
returns-in-None c = none_kept c.args.self.now c.args.client c.args.oldest c.in-None.ensures
