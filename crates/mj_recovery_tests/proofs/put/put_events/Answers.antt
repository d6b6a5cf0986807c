use Rattle.mj_cells.specs.Table.{table_of}
use Rattle.mj_recovery_tests.proofs.Gathered.{events_more, grammar_at}
use Rattle.mj_recovery_tests.proofs.put.put_events.Goals as goal

pub put_event-requires : goal.put_event-requires
put_event-requires c = grammar_at c.args.events.now c.loop-e.e-index c.e-item.result c.requires c.loop-e-test.true c.e-item.is

pub loop-e-preserved : goal.loop-e-preserved
loop-e-preserved c = events_more (table_of c.loop-e.cells) (table_of c.put_event.new.cells) _ c.args.events.now c.loop-e.e-index c.e-item.result c.loop-e-test.true c.e-item.is c.in_ok-put_event.ensures c.loop-e.invariant
