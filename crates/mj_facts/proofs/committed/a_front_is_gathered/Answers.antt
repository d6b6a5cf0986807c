use Rattle.mj_facts.proofs.Gathers.{front_gathered}
use Rattle.mj_facts.proofs.committed.a_front_is_gathered.Goals as goal

pub returns : goal.returns
returns c = front_gathered
