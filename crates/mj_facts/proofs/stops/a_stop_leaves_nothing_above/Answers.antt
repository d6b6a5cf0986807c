use Rattle.mj_facts.proofs.WhileServing.{serves_above}
use Rattle.mj_facts.proofs.WhileMounting.{mount_above}
use Rattle.mj_facts.proofs.stops.a_stop_leaves_nothing_above.Goals as goal

pub returns-clause-serving : goal.returns-clause-serving
returns-clause-serving c = serves_above

pub returns-clause-mounting : goal.returns-clause-mounting
returns-clause-mounting c = mount_above
