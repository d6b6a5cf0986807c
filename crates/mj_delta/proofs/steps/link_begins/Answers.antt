use Rattle.mj_delta.proofs.Linked.{link_gives}
use Rattle.mj_delta.proofs.steps.link_begins.Goals as goal

pub returns : goal.returns
returns c = link_gives
