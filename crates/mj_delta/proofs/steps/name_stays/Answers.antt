use Rattle.mj_delta.proofs.Held.{nothing_gives}
use Rattle.mj_delta.proofs.steps.name_stays.Goals as goal

pub returns : goal.returns
returns c = nothing_gives
