use Rattle.mj_delta.proofs.Renamed.{move_gives}
use Rattle.mj_delta.proofs.steps.name_moves.Goals as goal

pub returns : goal.returns
returns c = move_gives
