-- The table of a new rank.
use Rattle.std.specs.Prelude.{ℕ, Some}
use Rattle.mj_base.specs.ObjectName.{stray_ino, first_ino}
use Rattle.mj_maps.specs.Map.{insert, empty}
use Rattle.mj_tree.specs.State.{root}
use Rattle.mj_cells.specs.Table.{Table}

-- the root and stray have heads, and the first inode is next
abbrev pub fresh_table : ℕ → Table
fresh_table rank = record { dentries = empty; heads = insert (insert empty root 1) (stray_ino rank) 1; next = Some (first_ino rank); sessions = empty; done = empty; opens = empty }
