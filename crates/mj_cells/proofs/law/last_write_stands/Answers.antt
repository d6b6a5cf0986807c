use Rattle.mj_cells.proofs.Tables.{value_of-overlay}
use Rattle.mj_cells.proofs.law.last_write_stands.Goals as goal

pub returns : goal.returns
returns c = value_of-overlay
