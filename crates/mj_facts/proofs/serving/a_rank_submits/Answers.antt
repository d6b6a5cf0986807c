use Rattle.mj_facts.proofs.WhileServing.{serves_wrote, serves_headed, serves_removed, serves_elsewhere}
use Rattle.mj_facts.proofs.serving.a_rank_submits.Goals as goal

pub returns-clause-write : goal.returns-clause-write
returns-clause-write c = serves_wrote

pub returns-clause-header : goal.returns-clause-header
returns-clause-header c = serves_headed

pub returns-clause-removal : goal.returns-clause-removal
returns-clause-removal c = serves_removed

pub returns-clause-elsewhere : goal.returns-clause-elsewhere
returns-clause-elsewhere c = serves_elsewhere
