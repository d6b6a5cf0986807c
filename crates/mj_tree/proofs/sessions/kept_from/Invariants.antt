use Rattle.std.proofs.Common.{◌≡◌, nat_le, take, filter}
use Rattle.mj_tree.specs.declared.session.KeptReply.{KeptReply}
use Rattle.mj_tree.proofs.sessions.kept_from.Given as goal

abbrev pub invariant-loop-reply : goal.invariant-loop-reply
invariant-loop-reply l = l.left.items ≡ filter (λ (k : KeptReply). nat_le l.oldest k.tid) (take l.reply-index l.reply-items)
