use Rattle.mj_base.proofs.MemoryLemmas.{files_in-clone}
use Rattle.mj_base.proofs.memory.MemFiles.copy.Goals as goal

pub returns-clause-files : goal.returns-clause-files
returns-clause-files c = files_in-clone c.args.self.now.files c.in_ok-clone.field-0 c.in_ok-clone.ensures.cases
