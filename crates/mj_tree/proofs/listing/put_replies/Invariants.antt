use Rattle.std.proofs.Common.{◌≡◌, ◌++◌, take}
use Rattle.std.specs.List.{flat_map}
use Rattle.mj_tree.specs.declared.session.KeptReply.{KeptReply}
use Rattle.mj_tree.specs.Listing.{reply_line}
use Rattle.mj_tree.proofs.listing.put_replies.Given as goal

abbrev pub invariant-loop-reply : goal.invariant-loop-reply
invariant-loop-reply l = l.out.items ≡ l.initial.out.items ++ flat_map (λ (x : KeptReply). reply_line (x.tid, x.ino)) (take l.reply-index l.reply-items)
