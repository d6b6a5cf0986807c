use Rattle.std.proofs.Common.{◌&&◌, List, ap, ◌∙◌}
use Rattle.mj_cells.specs.declared.cell.CellWrite.{CellWrite}
use Rattle.mj_cells.specs.Table.{table_of, overlay}
use Rattle.mj_cells.proofs.CellMaps.{table_of-put_all}
use Rattle.mj_replay.specs.Lumps.{none_strange, lumps_known}
use Rattle.mj_replay.proofs.overlaid.Overlaid.put_event.Goals as goal

pub put_all-requires : goal.put_all-requires
put_all-requires c = c.in_ok-ws.ensures.fit c.requires

pub returns-clause-cells : goal.returns-clause-cells
returns-clause-cells c =
    ap table_of c.in_ok-put_all.ensures ∙ table_of-put_all c.args.self.now.cells c.in_ok-ws.ws.items ∙ ap (overlay (table_of c.args.self.now.cells)) c.in_ok-ws.ensures.writes

pub returns-clause-lumps : goal.returns-clause-lumps
returns-clause-lumps c = λ next.
    c.add_writes.ensures next ∙ ap (λ (ws : List CellWrite). none_strange next c.args.self.now.lumps && lumps_known c.args.rank next ws) (c.deref.ensures.value ∙ c.in_ok-ws.ensures.writes)
