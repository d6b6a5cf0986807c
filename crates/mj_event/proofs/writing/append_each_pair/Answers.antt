use Rattle.mj_event.specs.Event.{pair_bytes}
use Rattle.mj_base.proofs.Pieces.{piece_more, pieces_end}
use Rattle.mj_event.proofs.writing.append_each_pair.Goals as goal

pub loop-pair-preserved : goal.loop-pair-preserved
loop-pair-preserved c = piece_more pair_bytes _ _ _ _ _ _ c.loop-pair-test.true c.pair-item.is c.loop-pair.invariant c.in_ok-append_pair.ensures

pub returns : goal.returns
returns c = pieces_end pair_bytes _ _ _ _ c.loop-pair-test.false c.loop-pair.invariant
