use Rattle.std.proofs.Common.{◌≡◌, ℕ, List, ◌++◌, subst, OnOk}
use Rattle.mj_tree.proofs.Texts.{opens_are}
use Rattle.mj_tree.proofs.plain.PlainTree.put_open_files.Goals as goal

pub returns : goal.returns
returns c = subst (λ (text : List ℕ). OnOk c.put_opens.result (c.put_opens.new.out.items ≡ c.args.out.now.items ++ text)) (opens_are c.args.self.now) c.put_opens.ensures
