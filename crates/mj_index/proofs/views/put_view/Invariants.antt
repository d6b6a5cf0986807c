use Rattle.std.proofs.Common.{◌≡◌, ◌++◌, drop, map}
use Rattle.std.specs.FinMap.Entries.{put}
use Rattle.mj_cells.specs.Cell.{key_cmp}
use Rattle.mj_cells.specs.Next.{cell_of}
use Rattle.mj_index.specs.Placed.{rest_of}
use Rattle.mj_index.proofs.views.put_view.Given as goal

abbrev pub invariant-loop-cell : goal.invariant-loop-cell
invariant-loop-cell l = map cell_of l.found.items ++ rest_of l.placed l.key l.value (map cell_of (drop l.cell-index l.cells)) ≡ put key_cmp l.key l.value (map cell_of l.cells)
