use Rattle.mj_cells.specs.Table.{table_of}
use Rattle.mj_recovery_tests.proofs.Gathered.{objects_more}
use Rattle.mj_recovery_tests.proofs.put.put_objects.Goals as goal

pub loop-object-preserved : goal.loop-object-preserved
loop-object-preserved c = objects_more c.args.rank (table_of c.loop-object.cells) (table_of c.put_object.new.cells) _ c.args.objects.now c.loop-object.object-index c.object-item.result c.loop-object-test.true c.object-item.is c.in_ok-put_object.ensures c.loop-object.invariant
