use Rattle.mj_delta.proofs.Fronts.{front_undamaged, rest_own, all_orderly}
use Rattle.mj_delta.proofs.histories.front_is_undamaged.Goals as goal

pub returns : goal.returns
returns c = record { undamaged = front_undamaged; own = rest_own; orderly = all_orderly }
