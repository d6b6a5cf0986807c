use Rattle.mj_cells.proofs.Least.{next_is_least}
use Rattle.mj_cells.proofs.law.next_cell_is_least.Goals as goal

pub returns : goal.returns
returns c = next_is_least
