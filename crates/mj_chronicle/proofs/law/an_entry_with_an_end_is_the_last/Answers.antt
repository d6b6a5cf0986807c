use Rattle.mj_chronicle.proofs.LastEnds.{last_is, others_stay}
use Rattle.mj_chronicle.proofs.law.an_entry_with_an_end_is_the_last.Goals as goal

pub returns-clause-own : goal.returns-clause-own
returns-clause-own c = last_is

pub returns-clause-others : goal.returns-clause-others
returns-clause-others c = others_stay
