use Rattle.mj_delta.proofs.Begun.{session_begins_gives}
use Rattle.mj_delta.proofs.steps.session_begins.Goals as goal

pub returns : goal.returns
returns c = session_begins_gives
