use Rattle.std.proofs.Common.{◌≡◌, ℕ, List, ◌++◌, subst, OnOk}
use Rattle.mj_tree.proofs.Texts.{replies_are}
use Rattle.mj_tree.proofs.listing.put_kept_replies.Goals as goal

pub returns : goal.returns
returns c = subst (λ (text : List ℕ). OnOk c.put_replies.result (c.put_replies.new.out.items ≡ c.args.out.now.items ++ text)) (replies_are c.args.session.now) c.put_replies.ensures
