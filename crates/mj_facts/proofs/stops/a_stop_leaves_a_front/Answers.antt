use Rattle.mj_facts.proofs.WhileServing.{serves_rests}
use Rattle.mj_facts.proofs.WhileMounting.{mount_rests}
use Rattle.mj_facts.proofs.Laws.{serving_leaves, mounting_leaves}
use Rattle.mj_facts.proofs.stops.a_stop_leaves_a_front.Goals as goal

pub returns-clause-serving : goal.returns-clause-serving
returns-clause-serving c = serving_leaves

pub returns-clause-serving_rests : goal.returns-clause-serving_rests
returns-clause-serving_rests c = serves_rests

pub returns-clause-mounting : goal.returns-clause-mounting
returns-clause-mounting c = mounting_leaves

pub returns-clause-mounting_rests : goal.returns-clause-mounting_rests
returns-clause-mounting_rests c = mount_rests
