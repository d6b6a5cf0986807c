-- The cells of a table by their kinds, in the order of their keys.
use Rattle.std.specs.Prelude.{ℕ, List, Option, Some, None, option_map, option_and_then}
use Rattle.mj_maps.specs.Map.{Map, get}
use Rattle.mj_cells.specs.declared.cell.CellKey.{CellKey}
use Rattle.mj_cells.specs.declared.cell.CellKey.TheVariants as key
use Rattle.mj_cells.specs.declared.cell.CellValue.{CellValue}
use Rattle.mj_cells.specs.Cell.{key_cmp}
use Rattle.mj_cells.specs.Table.{dentry_of, number_of, presence_of}
use Rattle.mj_recovery.specs.Tree.{Entry}

abbrev pub Cell : Type 0
Cell = CellKey × CellValue

-- ---- what a key of each kind is of

abbrev pub dentry_at : CellKey → Option (ℕ × List ℕ)
dentry_at (key.Dentry d name) = Some (d, name)
dentry_at _ = None

abbrev pub dir_at : CellKey → Option ℕ
dir_at k = option_map (λ (q : ℕ × List ℕ). q.0) (dentry_at k)

abbrev pub head_at : CellKey → Option ℕ
head_at (key.DirHead d) = Some d
head_at _ = None

abbrev pub session_at : CellKey → Option ℕ
session_at (key.Session client) = Some client
session_at _ = None

abbrev pub done_at : CellKey → Option (ℕ × ℕ)
done_at (key.Done client tid) = Some (client, tid)
done_at _ = None

abbrev pub open_at : CellKey → Option (ℕ × ℕ)
open_at (key.OpenOf client i) = Some (client, i)
open_at _ = None

-- ---- a cell as an entry of the table

-- a key and a value, where both are there
abbrev pub pair_of : {K X : Type 0} → Option K → Option X → Option (K × X)
pair_of None x = None
pair_of (Some k) None = None
pair_of (Some k) (Some x) = Some (k, x)

abbrev pub dentry_entry : Cell → Option Entry
dentry_entry e = pair_of (dentry_at e.0) (dentry_of e.1)

abbrev pub head_entry : Cell → Option (ℕ × ℕ)
head_entry e = pair_of (head_at e.0) (number_of e.1)

abbrev pub session_entry : Cell → Option (ℕ × ℕ)
session_entry e = pair_of (session_at e.0) (number_of e.1)

abbrev pub done_entry : Cell → Option ((ℕ × ℕ) × ℕ)
done_entry e = pair_of (done_at e.0) (number_of e.1)

abbrev pub open_entry : Cell → Option ((ℕ × ℕ) × Unit {0})
open_entry e = pair_of (open_at e.0) (presence_of e.1)

-- the same without what is not looked at
abbrev pub head_dir : Cell → Option ℕ
head_dir e = option_map (λ (x : ℕ × ℕ). x.0) (head_entry e)

abbrev pub open_place : Cell → Option (ℕ × ℕ)
open_place e = option_map (λ (x : (ℕ × ℕ) × Unit {0}). x.0) (open_entry e)

-- the number that a key has
abbrev pub number_at : Map key_cmp CellValue → CellKey → Option ℕ
number_at m k = option_and_then number_of (get m k)
