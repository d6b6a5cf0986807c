use Rattle.mj_facts.proofs.WhileMounting.{mount_serves, in_order}
use Rattle.mj_facts.proofs.mounting.a_mount_in_order_serves.Goals as goal

pub returns-clause-serves : goal.returns-clause-serves
returns-clause-serves c = mount_serves

pub returns-clause-in_order : goal.returns-clause-in_order
returns-clause-in_order c = in_order
