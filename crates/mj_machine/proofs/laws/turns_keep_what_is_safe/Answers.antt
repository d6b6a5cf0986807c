use Rattle.mj_machine.proofs.Runs.{turns_stay}
use Rattle.mj_machine.proofs.laws.turns_keep_what_is_safe.Goals as goal

pub returns : goal.returns
returns c = turns_stay
