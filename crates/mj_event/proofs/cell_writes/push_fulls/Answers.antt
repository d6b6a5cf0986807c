use Rattle.mj_event.specs.Writes.{full_write}
use Rattle.mj_base.proofs.Pieces.{item_more, items_end}
use Rattle.mj_event.proofs.cell_writes.push_fulls.Goals as goal

pub loop-bit-preserved : goal.loop-bit-preserved
loop-bit-preserved c = item_more (full_write c.args.dir) _ _ _ _ _ _ c.loop-bit-test.true c.bit-item.is c.loop-bit.invariant c.in_ok-push_full.ensures

pub returns : goal.returns
returns c = items_end (full_write c.args.dir) _ _ _ _ c.loop-bit-test.false c.loop-bit.invariant
