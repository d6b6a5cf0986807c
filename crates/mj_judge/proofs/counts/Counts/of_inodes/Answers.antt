use Rattle.mj_judge.specs.Rows.{count_in}
use Rattle.mj_judge.proofs.Counted.{count_goes, count_ends}
use Rattle.mj_judge.proofs.counts.Counts.of_inodes.Goals as goal

pub loop-ino-preserved : goal.loop-ino-preserved
loop-ino-preserved c = count_goes c.args.inodes.now c.loop-ino.ino-index c.ino-item.result c.ino.inside.0 (count_in c.loop-ino.counts) (count_in c.add.new.self) c.loop-ino-test.true c.ino-item.is c.ino.view_is c.in_ok-add.ensures c.loop-ino.invariant

pub returns : goal.returns
returns c = count_ends c.args.inodes.now c.loop-ino.ino-index (count_in c.loop-ino.counts) c.loop-ino-test.false c.loop-ino.invariant
