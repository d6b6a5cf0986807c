use Rattle.std.proofs.Common.{◌≡◌, None, drop, map}
use Rattle.mj_maps.specs.Map.{Map, entries}
use Rattle.mj_cells.specs.declared.cell.CellValue.{CellValue}
use Rattle.mj_cells.specs.Cell.{key_cmp}
use Rattle.mj_cells.specs.Next.{cell_of}
use Rattle.mj_cells.specs.Table.{table_of}
use Rattle.mj_judge.specs.Own.{own_damage}
use Rattle.mj_judge.specs.Reached.{AreDirs}
use Rattle.mj_index.proofs.Slow.{Course, write_of}
use Rattle.mj_index.proofs.whole.index_of.Given as goal

abbrev pub invariant-loop-cell : goal.invariant-loop-cell
invariant-loop-cell l = (m : Map key_cmp CellValue) → map cell_of l.cells ≡ entries m → AreDirs (table_of m) l.dirs.keys → (none : own_damage l.rank (table_of m) ≡ None) → Course l.rank m none (map write_of (drop l.cell-index l.cells)) l.index
