use Rattle.mj_event.specs.Writes.{reply_gone}
use Rattle.mj_base.proofs.Pieces.{item_more, items_end}
use Rattle.mj_event.proofs.cell_writes.push_dropped.Goals as goal

pub loop-tid-preserved : goal.loop-tid-preserved
loop-tid-preserved c = item_more (reply_gone c.args.client) _ _ _ _ _ _ c.loop-tid-test.true c.tid-item.is c.loop-tid.invariant c.in_ok-push.ensures

pub returns : goal.returns
returns c = items_end (reply_gone c.args.client) _ _ _ _ c.loop-tid-test.false c.loop-tid.invariant
