use Rattle.std.proofs.Common.{◌≡◌, ◌++◌, ◌∷◌, drop, map}
use Rattle.std.specs.Prelude.{filter_map}
use Rattle.mj_base.specs.ObjectName.{stray_ino}
use Rattle.mj_cells.specs.Next.{cell_of}
use Rattle.mj_judge.specs.Rows.{kind_ino}
use Rattle.mj_judge.proofs.dentries.kind_inodes.Given as goal

abbrev pub invariant-loop-cell : goal.invariant-loop-cell
invariant-loop-cell l = l.found.items ++ filter_map (kind_ino (stray_ino l.rank ∷ l.dirs.keys) l.kind) (map cell_of (drop l.cell-index l.cells)) ≡ filter_map (kind_ino (stray_ino l.rank ∷ l.dirs.keys) l.kind) (map cell_of l.cells)
