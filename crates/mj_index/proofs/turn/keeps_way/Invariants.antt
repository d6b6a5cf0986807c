use Rattle.mj_cells.specs.Table.{table_of}
use Rattle.mj_tables.specs.Layered.{early_cells}
use Rattle.mj_index.specs.Places.{dentry_key}
use Rattle.mj_index.specs.Gentle.{HasKeptWay}
use Rattle.mj_index.specs.Turning.{keys_have}
use Rattle.mj_index.proofs.turn.keeps_way.Given as goal

abbrev pub invariant-up : goal.invariant-up
invariant-up l = HasKeptWay (table_of (early_cells l.layers)) (λ q. keys_have l.keys (dentry_key q)) l.at → HasKeptWay (table_of (early_cells l.layers)) (λ q. keys_have l.keys (dentry_key q)) l.fn.dir
