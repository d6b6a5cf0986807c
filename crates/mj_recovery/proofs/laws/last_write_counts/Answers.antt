use Rattle.mj_recovery.proofs.Stores.{merged_look}
use Rattle.mj_recovery.proofs.laws.last_write_counts.Goals as goal

pub returns : goal.returns
returns c = merged_look
