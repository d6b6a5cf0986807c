-- Cells in order with one more, cell by cell.
use Rattle.std.specs.Prelude.{Bool, true, false, cond, List, [], ◌∷◌}
use Rattle.std.specs.declared.cmp.Ordering.{Ordering}
use Rattle.std.specs.declared.cmp.Ordering.TheVariants.{Less, Equal, Greater}
use Rattle.std.specs.FinMap.Entries.{put}
use Rattle.mj_cells.specs.declared.cell.CellKey.{CellKey}
use Rattle.mj_cells.specs.declared.cell.CellValue.{CellValue}
use Rattle.mj_cells.specs.Cell.{key_cmp}
use Rattle.mj_judge.specs.Parts.{Cell}

-- what stands at a cell, where the new key is before it, the same or after it
abbrev pub around : Ordering → CellKey → CellValue → Cell → List Cell
around Less k v c = (k, v) ∷ c ∷ []
around Equal k v c = (c.0, v) ∷ []
around Greater k v c = c ∷ []

abbrev pub not_after : Ordering → Bool
not_after Less = true
not_after Equal = true
not_after Greater = false

-- what stands at a cell, once the new one is placed or not yet
abbrev pub standing : Bool → CellKey → CellValue → Cell → List Cell
standing placed k v c = cond placed (c ∷ []) (around (key_cmp k c.0) k v c)

-- whether the new cell is placed, after this one
abbrev pub placed_by : Bool → CellKey → Cell → Bool
placed_by placed k c = cond placed true (not_after (key_cmp k c.0))

-- the rest of the cells, with the new one where it is not placed yet
abbrev pub rest_of : Bool → CellKey → CellValue → List Cell → List Cell
rest_of placed k v cs = cond placed cs (put key_cmp k v cs)
