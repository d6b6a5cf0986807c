use Rattle.mj_delta.proofs.Unlinked.{unlink_gives}
use Rattle.mj_delta.proofs.steps.link_ends.Goals as goal

pub returns : goal.returns
returns c = unlink_gives
