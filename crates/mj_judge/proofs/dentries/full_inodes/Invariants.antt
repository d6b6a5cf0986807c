use Rattle.std.proofs.Common.{◌≡◌, ◌++◌, ◌∷◌, drop, map}
use Rattle.std.specs.Prelude.{filter_map}
use Rattle.mj_base.specs.ObjectName.{stray_ino}
use Rattle.mj_cells.specs.Next.{cell_of}
use Rattle.mj_judge.specs.Rows.{full_ino}
use Rattle.mj_judge.proofs.dentries.full_inodes.Given as goal

abbrev pub invariant-loop-cell : goal.invariant-loop-cell
invariant-loop-cell l = l.found.items ++ filter_map (full_ino (stray_ino l.rank ∷ l.dirs.keys)) (map cell_of (drop l.cell-index l.cells)) ≡ filter_map (full_ino (stray_ino l.rank ∷ l.dirs.keys)) (map cell_of l.cells)
