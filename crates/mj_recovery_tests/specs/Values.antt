-- Which values are of a dentry, and which keys have numbers.
use Rattle.std.specs.Prelude.{[]}
use Rattle.mj_cells.specs.declared.cell.CellKey.{CellKey}
use Rattle.mj_cells.specs.declared.cell.CellKey.TheVariants.{Dentry, OpenOf}
use Rattle.mj_cells.specs.declared.cell.CellValue.{CellValue}
use Rattle.mj_cells.specs.declared.cell.CellValue.TheVariants.{Number}
use Rattle.mj_cells.specs.Cell.{Fits}

-- it fits the key of any dentry
abbrev pub IsOfDentry : CellValue → Type 0
IsOfDentry v = Fits (Dentry 0 []) v

abbrev pub IsNumber : CellValue → Type 0
IsNumber (Number n) = Unit {0}
IsNumber _ = ⊥

-- each number fits it
abbrev pub HasNumbers : CellKey → Type 0
HasNumbers (Dentry dir name) = ⊥
HasNumbers (OpenOf client ino) = ⊥
HasNumbers _ = Unit {0}
