use Rattle.mj_delta.proofs.Fronts.{carries_front, carries_rest, carries_on}
use Rattle.mj_delta.proofs.histories.history_is_parted.Goals as goal

pub returns : goal.returns
returns c = record { front = carries_front; rest = carries_rest; joined = carries_on }
