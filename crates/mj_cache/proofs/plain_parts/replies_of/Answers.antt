use Rattle.std.proofs.Common.{sym, ◌∙◌}
use Rattle.mj_tree.specs.Replies.{kept_entries}
use Rattle.mj_cache.proofs.PlainReplies.{lt_ordered, none_from, none_past, all_found}
use Rattle.mj_cache.proofs.plain_parts.replies_of.Goals.{else-loop-i-test, then-loop-i-test+then-lt}
use Rattle.mj_cache.proofs.plain_parts.replies_of.Goals as goal

pub returns : goal.returns
returns c =
    all_found c.args.client (kept_entries c.loop-i.found.items) c.loop-i.i c.args.replies.now c.loop-i.invariant (elim c.loop-i-test.branch [
      | else-loop-i-test w ↦ none_past c.args.client c.loop-i.i c.args.replies.now w.loop-i-test.false
      | then-loop-i-test+then-lt w ↦ none_from c.args.client c.loop-i.i c.args.replies.now _ c.requires w.loop-i-test.true (lt_ordered _ _ (sym w.lt.ensures ∙ w.if-lt.true))
    ])
