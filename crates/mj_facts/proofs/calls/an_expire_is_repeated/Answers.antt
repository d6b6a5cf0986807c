use Rattle.mj_facts.proofs.Computed.{bounded_again}
use Rattle.mj_facts.proofs.calls.an_expire_is_repeated.Goals as goal

pub returns : goal.returns
returns c = bounded_again
