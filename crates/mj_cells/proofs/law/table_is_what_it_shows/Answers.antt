use Rattle.mj_cells.proofs.Tables.{same_table}
use Rattle.mj_cells.proofs.law.table_is_what_it_shows.Goals as goal

pub returns : goal.returns
returns c = same_table
