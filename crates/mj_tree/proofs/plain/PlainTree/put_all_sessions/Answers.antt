use Rattle.std.proofs.Common.{◌≡◌, ℕ, List, ◌++◌, subst, OnOk}
use Rattle.mj_tree.proofs.Texts.{sessions_are}
use Rattle.mj_tree.proofs.plain.PlainTree.put_all_sessions.Goals as goal

pub returns : goal.returns
returns c = subst (λ (text : List ℕ). OnOk c.put_sessions.result (c.put_sessions.new.out.items ≡ c.args.out.now.items ++ text)) (sessions_are c.args.self.now) c.put_sessions.ensures
