use Rattle.mj_meta.specs.Blob.{remote_bytes}
use Rattle.mj_base.proofs.Pieces.{on_err, begins, piece_more, pieces_end}
use Rattle.mj_meta.proofs.writing.append_remotes.Goals as goal

pub returns-in_err-append_remote-clause-err : goal.returns-in_err-append_remote-clause-err
returns-in_err-append_remote-clause-err c = on_err _ _ (begins _ _ _ _ c.loop-bit.invariant c.in_err-append_remote.ensures.err)

pub loop-bit-preserved : goal.loop-bit-preserved
loop-bit-preserved c = piece_more remote_bytes _ _ _ _ _ _ c.loop-bit-test.true c.bit-item.is c.loop-bit.invariant c.in_ok-append_remote.ensures.ok

pub returns-clause-ok : goal.returns-clause-ok
returns-clause-ok c = pieces_end remote_bytes _ _ _ _ c.loop-bit-test.false c.loop-bit.invariant
