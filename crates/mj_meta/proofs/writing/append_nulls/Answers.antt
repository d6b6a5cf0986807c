use Rattle.mj_meta.specs.Blob.{null_bytes}
use Rattle.mj_base.proofs.Pieces.{on_err, begins, piece_more, pieces_end}
use Rattle.mj_meta.proofs.writing.append_nulls.Goals as goal

pub returns-in_err-append_null-clause-err : goal.returns-in_err-append_null-clause-err
returns-in_err-append_null-clause-err c = on_err _ _ (begins _ _ _ _ c.loop-bit.invariant c.in_err-append_null.ensures.err)

pub loop-bit-preserved : goal.loop-bit-preserved
loop-bit-preserved c = piece_more null_bytes _ _ _ _ _ _ c.loop-bit-test.true c.bit-item.is c.loop-bit.invariant c.in_ok-append_null.ensures.ok

pub returns-clause-ok : goal.returns-clause-ok
returns-clause-ok c = pieces_end null_bytes _ _ _ _ c.loop-bit-test.false c.loop-bit.invariant
