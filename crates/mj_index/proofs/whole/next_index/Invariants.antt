use Rattle.std.proofs.Common.{drop}
use Rattle.mj_cells.specs.Table.{put_all}
use Rattle.mj_tables.specs.Layered.{early_cells}
use Rattle.mj_index.proofs.Placing.{Midway}
use Rattle.mj_index.proofs.whole.next_index.Given as goal

abbrev pub invariant-loop-w : goal.invariant-loop-w
invariant-loop-w l = Midway l.cells.items (drop l.w-index l.ws) (put_all (early_cells l.layers) l.ws)
