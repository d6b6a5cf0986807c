use Rattle.mj_chronicle.proofs.LastEnds.{without_end}
use Rattle.mj_chronicle.proofs.law.an_entry_without_an_end_changes_none.Goals as goal

pub returns : goal.returns
returns c = without_end
