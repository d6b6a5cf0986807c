use Rattle.mj_cells.proofs.CellMaps.{table_of-insert, table_of-remove}
use Rattle.mj_cells.proofs.law.cells_make_a_table.Goals as goal

pub returns-clause-written : goal.returns-clause-written
returns-clause-written c = table_of-insert

pub returns-clause-gone : goal.returns-clause-gone
returns-clause-gone c = table_of-remove
