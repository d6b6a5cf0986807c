-- Cells: the order of their keys, and which values fit which keys.
use Rattle.mj_maps.specs.Map.{Map, get}
use Rattle.std.specs.Prelude.{◌≡◌, ◌≢◌, Some, ℕ, Bool, List, [], ◌∷◌}
use Rattle.std.specs.declared.cmp.Ordering.{Ordering}
use Rattle.std.specs.Ordering.{on, eq_by_cmp}
use Rattle.mj_base.specs.InOrder.{bytes_cmp}
use Rattle.mj_base.specs.declared.record.Kind.TheVariants.{Dir}
use Rattle.mj_base.specs.Record.{IsRecord}
use Rattle.mj_cells.specs.declared.cell.CellKey.{CellKey}
use Rattle.mj_cells.specs.declared.cell.CellKey.TheVariants.{Dentry, DirHead, NextIno, Session, Done, OpenOf}
use Rattle.mj_cells.specs.declared.cell.CellValue.{CellValue}
use Rattle.mj_cells.specs.declared.cell.CellValue.TheVariants.{Full, Remote, Null, Number, Present, Gone}
use Rattle.mj_cells.specs.declared.cell.CellWrite.{CellWrite}

-- a key as numbers: the variant's place, and then the fields
abbrev pub key_numbers : CellKey → List ℕ
key_numbers (Dentry dir name) = 0 ∷ dir ∷ name
key_numbers (DirHead dir) = 1 ∷ dir ∷ []
key_numbers NextIno = 2 ∷ []
key_numbers (Session client) = 3 ∷ client ∷ []
key_numbers (Done client tid) = 4 ∷ client ∷ tid ∷ []
key_numbers (OpenOf client ino) = 5 ∷ client ∷ ino ∷ []

-- by the variants, and then by the fields
abbrev pub key_cmp : CellKey → CellKey → Ordering
key_cmp = on key_numbers bytes_cmp

abbrev pub same_key : CellKey → CellKey → Bool
same_key = eq_by_cmp key_cmp

-- a dentry's value is full with a record in the grammar, remote of no directory, null or gone, and so on for each kind of key
abbrev pub Fits : CellKey → CellValue → Type 0
Fits (Dentry dir name) (Full version inode) = IsRecord inode
Fits (Dentry dir name) (Remote version ino kind) = kind ≢ Dir
Fits (Dentry dir name) (Null version) = Unit {0}
Fits (Dentry dir name) Gone = Unit {0}
Fits (OpenOf client ino) Present = Unit {0}
Fits (OpenOf client ino) Gone = Unit {0}
Fits NextIno (Number n) = Unit {0}
Fits (DirHead dir) (Number n) = Unit {0}
Fits (DirHead dir) Gone = Unit {0}
Fits (Session client) (Number n) = Unit {0}
Fits (Session client) Gone = Unit {0}
Fits (Done client tid) (Number n) = Unit {0}
Fits (Done client tid) Gone = Unit {0}
Fits _ _ = ⊥

abbrev pub WriteFits : CellWrite → Type 0
WriteFits w = Fits w.key w.value

-- each cell's value fits its key
abbrev pub AllFit : Map key_cmp CellValue → Type 0
AllFit m = (k : CellKey) (v : CellValue) → get m k ≡ Some v → Fits k v
