use Rattle.std.proofs.Common.{◌∙◌}
use Rattle.mj_tree.proofs.Listed.{kept_by}
use Rattle.mj_tree.proofs.tables.PlainTreeTreeView.kept_reply.Goals as goal

pub returns-in-Some : goal.returns-in-Some
returns-in-Some c = c.reply_in.ensures ∙ kept_by c.args.self.now c.args.client c.args.tid c.in-Some.session.now c.in-Some.ensures
