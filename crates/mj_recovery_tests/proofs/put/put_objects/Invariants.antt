use Rattle.std.proofs.Common.{◌≡◌, drop}
use Rattle.mj_cells.specs.Table.{overlay}
use Rattle.mj_recovery.specs.Listed.{all_listed}
use Rattle.mj_cells.specs.Table.{table_of}
use Rattle.mj_recovery_tests.proofs.put.put_objects.Given as goal

abbrev pub invariant-loop-object : goal.invariant-loop-object
invariant-loop-object l = overlay (table_of l.cells) (all_listed l.rank (drop l.object-index l.objects)) ≡ overlay (table_of l.fn.cells) (all_listed l.rank l.objects)
