use Rattle.mj_event.specs.Writes.{lump_writes}
use Rattle.mj_base.proofs.Pieces.{piece_more, pieces_end}
use Rattle.mj_event.proofs.cell_writes.push_lumps.Goals as goal

pub loop-lump-preserved : goal.loop-lump-preserved
loop-lump-preserved c = piece_more lump_writes _ _ _ _ _ _ c.loop-lump-test.true c.lump-item.is c.loop-lump.invariant c.in_ok-push_lump.ensures

pub returns : goal.returns
returns c = pieces_end lump_writes _ _ _ _ c.loop-lump-test.false c.loop-lump.invariant
