use Rattle.std.proofs.Common.{◌++◌, ◌+◌, map, drop, ◌∙◌}
use Rattle.mj_cells.specs.Next.{cell_of}
use Rattle.mj_index.specs.Placed.{rest_of}
use Rattle.mj_index.proofs.Placing.{step}
use Rattle.mj_index.proofs.views.put_view.Goals as goal

pub loop-cell-preserved : goal.loop-cell-preserved
loop-cell-preserved c =
    (λ i. c.in_ok-placed.ensures.found i ++ rest_of (c.in_ok-placed.ensures.placed i) c.args.key.now c.args.value.now (map cell_of (drop (c.loop-cell.cell-index + 1) c.args.cells.now)))
    ∙ step (map cell_of c.loop-cell.found.items) c.loop-cell.placed c.args.key.now c.args.value.now c.args.cells.now c.loop-cell.cell-index c.cell-item.result c.loop-cell-test.true c.cell-item.is
    ∙ c.loop-cell.invariant
