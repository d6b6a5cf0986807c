use Rattle.mj_base.specs.Reading.{eight}
use Rattle.mj_base.proofs.Pieces.{piece_more, pieces_end}
use Rattle.mj_event.proofs.writing.append_tids.Goals as goal

pub loop-tid-preserved : goal.loop-tid-preserved
loop-tid-preserved c = piece_more eight _ _ _ _ _ _ c.loop-tid-test.true c.tid-item.is c.loop-tid.invariant c.in_ok-append_tid.ensures

pub returns : goal.returns
returns c = pieces_end eight _ _ _ _ c.loop-tid-test.false c.loop-tid.invariant
