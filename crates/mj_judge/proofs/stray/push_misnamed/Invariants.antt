use Rattle.std.proofs.Common.{◌≡◌, ◌++◌, drop, map}
use Rattle.std.specs.Prelude.{filter_map}
use Rattle.mj_cells.specs.Next.{cell_of}
use Rattle.mj_judge.specs.Rows.{misnamed_ino}
use Rattle.mj_judge.proofs.stray.push_misnamed.Given as goal

abbrev pub invariant-loop-cell : goal.invariant-loop-cell
invariant-loop-cell l = l.found.items ++ filter_map (misnamed_ino l.rank) (map cell_of (drop l.cell-index l.cells)) ≡ l.fn.found.items ++ filter_map (misnamed_ino l.rank) (map cell_of l.cells)
