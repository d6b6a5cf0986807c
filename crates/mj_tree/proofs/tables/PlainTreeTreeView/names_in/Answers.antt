use Rattle.std.proofs.Common.{◌≡◌, ℕ, List, subst, IfOk}
use Rattle.mj_tree.proofs.Listed.{names_are}
use Rattle.mj_tree.proofs.tables.PlainTreeTreeView.names_in.Goals as goal

pub returns : goal.returns
returns c = subst (λ (x : List (List ℕ)). IfOk c.names_in.result (λ names. names ≡ x)) (names_are c.args.self.now c.args.dir) c.names_in.ensures
