use Rattle.mj_delta.proofs.Ended.{session_ends_gives}
use Rattle.mj_delta.proofs.steps.session_ends.Goals as goal

pub returns : goal.returns
returns c = session_ends_gives
