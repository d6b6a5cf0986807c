-- What the types of keys and values say of cells: each name is a name, and each number is one of its type.
use Rattle.std.specs.Prelude.{◌≡◌, ◌<◌, ◌^◌, Some, IsTrue}
use Rattle.mj_base.specs.Name.{is_name}
use Rattle.mj_maps.specs.Map.{Map, get}
use Rattle.mj_cells.specs.declared.cell.CellKey.{CellKey}
use Rattle.mj_cells.specs.declared.cell.CellKey.TheVariants as key
use Rattle.mj_cells.specs.declared.cell.CellValue.{CellValue}
use Rattle.mj_cells.specs.declared.cell.CellValue.TheVariants as value
use Rattle.mj_cells.specs.declared.cell.CellWrite.{CellWrite}
use Rattle.mj_cells.specs.Cell.{key_cmp}

abbrev pub InRange : CellKey → CellValue → Type 0
InRange (key.Dentry dir name) v = IsTrue (is_name name)
InRange (key.Done client tid) v = tid < 2 ^ 64
InRange key.NextIno (value.Number n) = n < 2 ^ 64
InRange _ _ = Unit {0}

abbrev pub WriteInRange : CellWrite → Type 0
WriteInRange w = InRange w.key w.value

abbrev pub CellInRange : CellKey × CellValue → Type 0
CellInRange e = InRange e.0 e.1

abbrev pub AllInRange : Map key_cmp CellValue → Type 0
AllInRange m = (k : CellKey) (v : CellValue) → get m k ≡ Some v → InRange k v
