use Rattle.std.proofs.Common.{◌≡◌, ℕ, List, ◌++◌, subst, OnOk}
use Rattle.mj_tree.proofs.Texts.{kept_are}
use Rattle.mj_tree.proofs.plain.PlainTree.put_kept_records.Goals as goal

pub returns : goal.returns
returns c = subst (λ (text : List ℕ). OnOk c.put_kept_lines.result (c.put_kept_lines.new.out.items ≡ c.args.out.now.items ++ text)) (kept_are c.args.self.now) c.put_kept_lines.ensures
