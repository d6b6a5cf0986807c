use Rattle.mj_meta.specs.Blob.{lump_bytes, IsLump}
use Rattle.mj_base.proofs.Pieces.{on_err, begins, piece_more, pieces_end, fits_at}
use Rattle.mj_meta.proofs.writing.append_lumps.Goals as goal

pub returns-in_err-append_lump-clause-err : goal.returns-in_err-append_lump-clause-err
returns-in_err-append_lump-clause-err c = on_err _ _ (begins _ _ _ _ c.loop-lump.invariant c.in_err-append_lump.ensures.err)

pub loop-lump-preserved : goal.loop-lump-preserved
loop-lump-preserved c = piece_more lump_bytes _ _ _ _ _ _ c.loop-lump-test.true c.lump-item.is c.loop-lump.invariant c.in_ok-append_lump.ensures.ok

pub returns-clause-ok : goal.returns-clause-ok
returns-clause-ok c = pieces_end lump_bytes _ _ _ _ c.loop-lump-test.false c.loop-lump.invariant

pub append_lump-requires : goal.append_lump-requires
append_lump-requires c = fits_at IsLump _ _ _ c.requires c.loop-lump-test.true c.lump-item.is
