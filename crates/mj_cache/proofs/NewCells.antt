-- The table of a new rank's cells.
use Rattle.std.proofs.Common.{◌≡◌, ℕ, ap, ◌∙◌}
use Rattle.mj_base.specs.ObjectName.{stray_ino, first_ino}
use Rattle.mj_maps.specs.Map.{Map, insert, empty}
use Rattle.mj_tree.specs.State.{root}
use Rattle.mj_cells.specs.declared.cell.CellKey.TheVariants.{DirHead, NextIno}
use Rattle.mj_cells.specs.declared.cell.CellValue.{CellValue}
use Rattle.mj_cells.specs.declared.cell.CellValue.TheVariants.{Number}
use Rattle.mj_cells.specs.Cell.{key_cmp}
use Rattle.mj_cells.specs.Table.{Table, table_of, no_cells, put_at}
use Rattle.mj_cells.proofs.CellMaps.{table_of-empty, table_of-insert}
use Rattle.mj_delta.specs.Fresh.{fresh_table}

pub new_table : (rank : ℕ) → table_of (insert (insert (insert empty (DirHead root) (Number 1)) (DirHead (stray_ino rank)) (Number 1)) NextIno (Number (first_ino rank))) ≡ fresh_table rank
unfolding no_cells empty
new_table rank =
    table_of-insert _ NextIno (Number (first_ino rank))
    ∙ ap (λ (t : Table). put_at t NextIno (Number (first_ino rank))) (table_of-insert _ (DirHead (stray_ino rank)) (Number 1)
    ∙ ap (λ (t : Table). put_at t (DirHead (stray_ino rank)) (Number 1)) (table_of-insert empty (DirHead root) (Number 1)
    ∙ ap (λ (t : Table). put_at t (DirHead root) (Number 1)) table_of-empty))
