use Rattle.mj_cache.proofs.PlainSessions.{session_more}
use Rattle.mj_cache.proofs.plain_parts.plain_sessions.Goals as goal

pub loop-held-preserved : goal.loop-held-preserved
loop-held-preserved c = rw c.in_ok-push.ensures.items (session_more c.args.replies.now c.args.oldest.now c.loop-held.found.items c.loop-held.held-index c.held-item.result c.in_ok-session.session c.loop-held-test.true c.held-item.is c.in_ok-session.ensures.client c.in_ok-session.ensures.session c.loop-held.invariant)
