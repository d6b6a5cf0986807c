use Rattle.mj_event.specs.Writes.{open_write}
use Rattle.mj_base.proofs.Pieces.{item_more, items_end}
use Rattle.mj_event.proofs.cell_writes.push_opens.Goals as goal

pub loop-pair-preserved : goal.loop-pair-preserved
loop-pair-preserved c = item_more open_write _ _ _ _ _ _ c.loop-pair-test.true c.pair-item.is c.loop-pair.invariant c.in_ok-push.ensures

pub returns : goal.returns
returns c = items_end open_write _ _ _ _ c.loop-pair-test.false c.loop-pair.invariant
