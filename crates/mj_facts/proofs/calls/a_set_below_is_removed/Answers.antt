use Rattle.mj_facts.proofs.Computed.{may_remove}
use Rattle.mj_facts.proofs.calls.a_set_below_is_removed.Goals as goal

pub returns : goal.returns
returns c = may_remove
