use Rattle.mj_base.specs.Reading.{eight}
use Rattle.mj_base.proofs.Pieces.{piece_more, pieces_end}
use Rattle.mj_event.proofs.writing.append_inos.Goals as goal

pub loop-ino-preserved : goal.loop-ino-preserved
loop-ino-preserved c = piece_more eight _ _ _ _ _ _ c.loop-ino-test.true c.ino-item.is c.loop-ino.invariant c.in_ok-append_ino.ensures

pub returns : goal.returns
returns c = pieces_end eight _ _ _ _ c.loop-ino-test.false c.loop-ino.invariant
