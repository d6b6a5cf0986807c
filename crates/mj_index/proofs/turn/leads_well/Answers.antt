use Rattle.std.proofs.Common.{List, sym, subst}
use Rattle.std.specs.List.{AllByRecursion}
use Rattle.mj_cells.specs.declared.cell.CellWrite.{CellWrite}
use Rattle.mj_cells.specs.Table.{table_of}
use Rattle.mj_recovery.specs.Tree.{is_among}
use Rattle.mj_tables.specs.Layered.{early_cells}
use Rattle.mj_index.specs.Places.{dentry_key}
use Rattle.mj_index.specs.Turning.{keys_have, LeadsWell}
use Rattle.mj_index.proofs.Writes.{next_item}
use Rattle.mj_index.proofs.turn.leads_well.Goals as goal

pub loop-w-preserved : goal.loop-w-preserved
loop-w-preserved c rest = c.loop-w.invariant (subst
    (λ (ws : List CellWrite). AllByRecursion (LeadsWell c.args.known.now (table_of (early_cells c.args.layers.now)) (λ q. keys_have c.args.keys.now (dentry_key q)) (is_among c.args.written.now.keys) (is_among c.args.left.now.keys)) ws)
    (sym (next_item c.args.ws.now c.loop-w.w-index c.w-item.result c.loop-w-test.true c.w-item.is))
    (c.lead_well.ensures c.if-not-lead_well.false, rest))
