use Rattle.mj_facts.proofs.Computed.{may_write, buffer_sent}
use Rattle.mj_facts.proofs.calls.a_write_goes_on.Goals as goal

pub returns-clause-may : goal.returns-clause-may
returns-clause-may c = may_write

pub returns-clause-buffer : goal.returns-clause-buffer
returns-clause-buffer c = buffer_sent
