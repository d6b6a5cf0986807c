use Rattle.mj_index.proofs.Slow.{course_starts, course_goes}
use Rattle.mj_index.proofs.whole.index_of.Goals as goal

pub loop-cell-init : goal.loop-cell-init
loop-cell-init c m is dirs none = course_starts c.args.rank m none c.args.cells.now is c.args.dirs.now.keys dirs c.are_countable.ensures c.in_ok-index.index c.in_ok-index.ensures

pub loop-cell-preserved : goal.loop-cell-preserved
loop-cell-preserved c m is dirs none = course_goes c.args.rank m none c.args.cells.now c.loop-cell.cell-index c.cell-item.result c.loop-cell-test.true c.cell-item.is c.loop-cell.index c.put_new.new.index (c.loop-cell.invariant m is dirs none) c.in_ok-put_new.ensures
