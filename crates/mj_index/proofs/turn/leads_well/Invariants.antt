use Rattle.std.proofs.Common.{drop}
use Rattle.std.specs.List.{AllByRecursion}
use Rattle.mj_cells.specs.Table.{table_of}
use Rattle.mj_recovery.specs.Tree.{is_among}
use Rattle.mj_tables.specs.Layered.{early_cells}
use Rattle.mj_index.specs.Places.{dentry_key}
use Rattle.mj_index.specs.Turning.{keys_have, LeadsWell}
use Rattle.mj_index.proofs.turn.leads_well.Given as goal

abbrev pub invariant-loop-w : goal.invariant-loop-w
invariant-loop-w l = AllByRecursion (LeadsWell l.known (table_of (early_cells l.layers)) (λ q. keys_have l.keys (dentry_key q)) (is_among l.written.keys) (is_among l.left.keys)) (drop l.w-index l.ws)
    → AllByRecursion (LeadsWell l.known (table_of (early_cells l.layers)) (λ q. keys_have l.keys (dentry_key q)) (is_among l.written.keys) (is_among l.left.keys)) l.ws
