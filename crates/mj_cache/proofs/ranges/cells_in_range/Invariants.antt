use Rattle.std.proofs.Common.{drop, map}
use Rattle.std.specs.List.{AllByRecursion}
use Rattle.mj_cells.specs.Next.{cell_of}
use Rattle.mj_cache.specs.Ranges.{CellInRange}
use Rattle.mj_cache.proofs.ranges.cells_in_range.Given as goal

-- where the rest are, all are
abbrev pub invariant-loop-cell : goal.invariant-loop-cell
invariant-loop-cell l = AllByRecursion CellInRange (map cell_of (drop l.cell-index l.cells)) → AllByRecursion CellInRange (map cell_of l.cells)
