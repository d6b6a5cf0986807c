use Rattle.mj_delta.proofs.Held.{hold_gives}
use Rattle.mj_delta.proofs.steps.file_opens.Goals as goal

pub returns : goal.returns
returns c = hold_gives
