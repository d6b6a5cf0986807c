use Rattle.mj_meta.specs.Blob.{full_bytes, FullFits}
use Rattle.mj_base.proofs.Pieces.{on_err, begins, piece_more, pieces_end, fits_at}
use Rattle.mj_meta.proofs.writing.append_fulls.Goals as goal

pub returns-in_err-append_full-clause-err : goal.returns-in_err-append_full-clause-err
returns-in_err-append_full-clause-err c = on_err _ _ (begins _ _ _ _ c.loop-bit.invariant c.in_err-append_full.ensures.err)

pub loop-bit-preserved : goal.loop-bit-preserved
loop-bit-preserved c = piece_more full_bytes _ _ _ _ _ _ c.loop-bit-test.true c.bit-item.is c.loop-bit.invariant c.in_ok-append_full.ensures.ok

pub returns-clause-ok : goal.returns-clause-ok
returns-clause-ok c = pieces_end full_bytes _ _ _ _ c.loop-bit-test.false c.loop-bit.invariant

pub append_full-requires : goal.append_full-requires
append_full-requires c = fits_at FullFits _ _ _ c.requires c.loop-bit-test.true c.bit-item.is
