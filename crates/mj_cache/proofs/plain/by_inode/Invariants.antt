use Rattle.std.proofs.Common.{◌≡◌, ◌∷◌, drop, map}
use Rattle.std.specs.Prelude.{filter_map}
use Rattle.mj_base.specs.ObjectName.{stray_ino}
use Rattle.mj_maps.specs.Map.{from_entries}
use Rattle.mj_maps.specs.Orders.{nat_cmp}
use Rattle.mj_cells.specs.Next.{cell_of}
use Rattle.mj_recovery.specs.Tree.{by_inode}
use Rattle.mj_judge.specs.Rows.{full_in}
use Rattle.mj_cache.proofs.plain.by_inode.Given as goal

abbrev pub invariant-loop-i : goal.invariant-loop-i
invariant-loop-i l = from_entries {R = nat_cmp} l.found.entries ≡ by_inode (filter_map (full_in (stray_ino l.rank ∷ l.dirs.keys)) (map cell_of (drop l.i l.cells)))
