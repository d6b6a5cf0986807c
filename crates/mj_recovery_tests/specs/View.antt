-- What the program found, as the definitions say it.
use Rattle.mj_tree.specs.Meaning.{state_of}
use Rattle.mj_cells.specs.Table.{Table, table_of}
use Rattle.mj_tables.specs.Layered.{Layered, early_cells}
use Rattle.mj_recovery.specs.Recovered.{Recovery}
use Rattle.mj_recovery_tests.specs.declared.recover.Recovery as found

abbrev pub table_in : Layered → Table
table_in l = table_of (early_cells l)

abbrev pub recovery_of : found.Recovery → Recovery
recovery_of r = record { journal = r.journal; table = table_in r.layers; tree = state_of r.tree }
