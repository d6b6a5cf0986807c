use Rattle.mj_tree.proofs.Differing.{unchanged, changes_state}
use Rattle.mj_tree.proofs.law.changes_just_where_accepted.Goals as goal

pub returns-clause-same : goal.returns-clause-same
returns-clause-same c = unchanged

pub returns-clause-differs : goal.returns-clause-differs
returns-clause-differs c = changes_state
