use Rattle.std.proofs.Common.{ap, ◌∙◌}
use Rattle.mj_cells.specs.Table.{table_of, overlay}
use Rattle.mj_cells.proofs.CellMaps.{table_of-put_all}
use Rattle.mj_recovery_tests.proofs.put.put_event.Goals as goal

pub put_all-requires : goal.put_all-requires
put_all-requires c = c.in_ok-ws.ensures.fit c.requires

pub returns : goal.returns
returns c = ap table_of c.in_ok-put_all.ensures ∙ table_of-put_all c.args.cells.now c.in_ok-ws.ws.items ∙ ap (overlay (table_of c.args.cells.now)) c.in_ok-ws.ensures.writes
