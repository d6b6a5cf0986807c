use Rattle.std.proofs.Common.{ap, is_some, ◌∙◌}
use Rattle.mj_tree.proofs.Listed.{open_found, some_mapped}
use Rattle.mj_tree.proofs.tables.PlainTreeTreeView.is_open.Goals as goal

pub returns : goal.returns
returns c = c.is_some.ensures ∙ some_mapped (λ o. o.now) c.open_in.result ∙ ap is_some c.open_in.ensures ∙ open_found c.args.self.now.opens c.args.client c.args.ino
