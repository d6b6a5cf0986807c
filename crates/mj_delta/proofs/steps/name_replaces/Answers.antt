use Rattle.mj_delta.proofs.Replaced.{replace_gives}
use Rattle.mj_delta.proofs.steps.name_replaces.Goals as goal

pub returns : goal.returns
returns c = replace_gives
