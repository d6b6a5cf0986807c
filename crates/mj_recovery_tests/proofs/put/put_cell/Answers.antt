use Rattle.std.proofs.Common.{ap, ◌∙◌}
use Rattle.mj_cells.specs.Table.{table_of}
use Rattle.mj_cells.proofs.CellMaps.{table_of-insert}
use Rattle.mj_recovery_tests.proofs.put.put_cell.Goals as goal

pub returns : goal.returns
returns c = ap table_of c.in_ok-put.ensures.ok ∙ table_of-insert c.args.cells.now c.args.w.key c.args.w.value
