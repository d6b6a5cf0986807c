use Rattle.mj_facts.proofs.Uncommitted.{uncommitted_elsewhere, uncommitted_keys, uncommitted_cells, uncommitted_table}
use Rattle.mj_facts.proofs.committed.what_is_not_committed_is_stored.Goals as goal

pub returns-clause-elsewhere : goal.returns-clause-elsewhere
returns-clause-elsewhere c = uncommitted_elsewhere

pub returns-clause-keys : goal.returns-clause-keys
returns-clause-keys c = uncommitted_keys

pub returns-clause-cells : goal.returns-clause-cells
returns-clause-cells c = uncommitted_cells

pub returns-clause-table : goal.returns-clause-table
returns-clause-table c = uncommitted_table
