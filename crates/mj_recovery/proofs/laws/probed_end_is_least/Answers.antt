use Rattle.mj_recovery.proofs.Probing.{probed_end_is}
use Rattle.mj_recovery.proofs.Lawful.{only_end}
use Rattle.mj_recovery.proofs.laws.probed_end_is_least.Goals as goal

pub returns : goal.returns
returns c = record { is = probed_end_is; only = only_end }
