use Rattle.mj_facts.proofs.Found.{found_rests, recovers_rests}
use Rattle.mj_facts.proofs.stops.what_is_read_rests.Goals as goal

pub returns-clause-recovers : goal.returns-clause-recovers
returns-clause-recovers c = recovers_rests

pub returns-clause-read : goal.returns-clause-read
returns-clause-read c = found_rests
