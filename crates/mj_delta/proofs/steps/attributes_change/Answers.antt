use Rattle.mj_delta.proofs.SetIn.{set_gives}
use Rattle.mj_delta.proofs.steps.attributes_change.Goals as goal

pub returns : goal.returns
returns c = set_gives
