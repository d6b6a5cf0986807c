use Rattle.std.proofs.Common.{◌≡◌, drop}
use Rattle.mj_cells.specs.Table.{table_of, overlay}
use Rattle.mj_recovery.specs.Journal.{journal_writes}
use Rattle.mj_recovery_tests.proofs.put.put_events.Given as goal

abbrev pub invariant-loop-e : goal.invariant-loop-e
invariant-loop-e l = overlay (table_of l.cells) (journal_writes (drop l.e-index l.events)) ≡ overlay (table_of l.fn.cells) (journal_writes l.events)
