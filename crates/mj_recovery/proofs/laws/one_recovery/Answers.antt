use Rattle.mj_recovery.proofs.Lawful.{same_recovery}
use Rattle.mj_recovery.proofs.laws.one_recovery.Goals as goal

pub returns : goal.returns
returns c = same_recovery
