use Rattle.std.proofs.Common.{◌≡◌, drop}
use Rattle.mj_cells.specs.Table.{overlay}
use Rattle.mj_recovery.specs.Listed.{listed_pairs}
use Rattle.mj_cells.specs.Table.{table_of}
use Rattle.mj_recovery_tests.proofs.put.put_pairs.Given as goal

abbrev pub invariant-loop-pair : goal.invariant-loop-pair
invariant-loop-pair l = overlay (table_of l.cells) (listed_pairs l.name (drop l.pair-index l.pairs)) ≡ overlay (table_of l.fn.cells) (listed_pairs l.name l.pairs)
