use Rattle.mj_facts.proofs.WhileMounting.{journalled_taken}
use Rattle.mj_facts.proofs.Laws.{stop_begins}
use Rattle.mj_facts.proofs.Quiet.{mounts_quiet}
use Rattle.mj_facts.proofs.mounting.a_mount_begins.Goals as goal

pub returns-clause-journalled : goal.returns-clause-journalled
returns-clause-journalled c = journalled_taken

pub returns-clause-begins : goal.returns-clause-begins
returns-clause-begins c = stop_begins

pub returns-clause-quiet : goal.returns-clause-quiet
returns-clause-quiet c = mounts_quiet
