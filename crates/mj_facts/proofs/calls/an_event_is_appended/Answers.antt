use Rattle.mj_facts.proofs.Computed.{may_append, buffer_event}
use Rattle.mj_facts.proofs.calls.an_event_is_appended.Goals as goal

pub returns-clause-may : goal.returns-clause-may
returns-clause-may c = may_append

pub returns-clause-buffer : goal.returns-clause-buffer
returns-clause-buffer c = buffer_event
