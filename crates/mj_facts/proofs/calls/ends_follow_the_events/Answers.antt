use Rattle.mj_facts.proofs.Computed.{ends_left, ends_more}
use Rattle.mj_facts.proofs.calls.ends_follow_the_events.Goals as goal

pub returns-clause-left : goal.returns-clause-left
returns-clause-left c = ends_left

pub returns-clause-more : goal.returns-clause-more
returns-clause-more c = ends_more
