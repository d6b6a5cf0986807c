use Rattle.mj_replay.proofs.Known.{write_more}
use Rattle.mj_replay.proofs.lumps.LumpDirs.add_writes.Goals as goal

pub loop-w-preserved : goal.loop-w-preserved
loop-w-preserved c = λ next. write_more c.args.rank next c.args.ws.now c.loop-w.w-index c.w-item.result _ _ _ c.loop-w-test.true c.w-item.is (c.add_write.ensures next) (c.loop-w.invariant next)
