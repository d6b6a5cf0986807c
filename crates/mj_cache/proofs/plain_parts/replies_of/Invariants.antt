use Rattle.std.proofs.Common.{◌≡◌, ◌++◌, drop}
use Rattle.std.specs.Prelude.{filter_map}
use Rattle.mj_tree.specs.Replies.{kept_entries}
use Rattle.mj_recovery.specs.Tree.{reply_of}
use Rattle.mj_cache.proofs.plain_parts.replies_of.Given as goal

abbrev pub invariant-loop-i : goal.invariant-loop-i
invariant-loop-i l = kept_entries l.found.items ++ filter_map (reply_of l.client) (drop l.i l.replies) ≡ filter_map (reply_of l.client) l.replies
