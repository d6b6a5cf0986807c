use Rattle.std.proofs.Common.{ap, nat_lt, ◌∙◌}
use Rattle.mj_tree.proofs.Listed.{opens_of_is}
use Rattle.mj_tree.proofs.tables.PlainTreeTreeView.has_opens.Goals as goal

pub returns : goal.returns
returns c = ap (nat_lt 0) (c.opens_from.ensures ∙ opens_of_is c.args.self.now c.args.client)
