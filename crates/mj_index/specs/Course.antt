-- Writes that an index follows, one after another.
use Rattle.std.specs.Prelude.{◌≡◌, ℕ, ◌+◌, ◌≤◌, Bool, true, false, List, [], ◌∷◌, length, Some}
use Rattle.mj_base.specs.declared.record.InodeRecord.{InodeRecord}
use Rattle.mj_maps.specs.Map.{Map, get, count}
use Rattle.mj_cells.specs.declared.cell.CellKey.{CellKey}
use Rattle.mj_cells.specs.declared.cell.CellValue.{CellValue}
use Rattle.mj_cells.specs.declared.cell.CellWrite.{CellWrite}
use Rattle.mj_cells.specs.Cell.{key_cmp}
use Rattle.mj_cells.specs.Table.{put_all}
use Rattle.mj_tables.specs.Layered.{writes_key}
use Rattle.mj_index.specs.Known.{most, held_by}
use Rattle.mj_index.specs.Said.{is_dentry, is_open, is_session, value_or_gone}
use Rattle.mj_index.specs.Indexed.{full_at, IsMidway}
use Rattle.mj_index.specs.declared.index.Index.{Index}

-- no key is written twice
abbrev pub AreOnce : List CellWrite → Type 0
AreOnce [] = Unit {0}
AreOnce (w ∷ ws) = (writes_key w.key ws ≡ false) × AreOnce ws

-- no two full dentries of these directories are of one inode
abbrev pub AreSingle : (ℕ → Bool) → Map key_cmp CellValue → Type 0
AreSingle held m = (a b : CellKey) (r s : InodeRecord) → full_at held m a ≡ Some r → full_at held m b ≡ Some s → r.ino ≡ s.ino → a ≡ b

-- as many more can be counted
pub record HasCounts (m : Map key_cmp CellValue) (more : ℕ) : Type 0 where
  pub dentries : count is_dentry m + more ≤ most
  pub opens : count is_open m + more ≤ most
  pub sessions : count is_session m + more ≤ most

-- What is known stands for the cells `m`, which the writes that are left make into `all`. `old` has the values before them.
pub record IsOnCourse (rank : ℕ) (dirs : ℕ → Bool) (old : CellKey → CellValue) (all : Map key_cmp CellValue) (left : List CellWrite) (x : Index) : Type 0 where
  pub m : Map key_cmp CellValue
  pub midway : IsMidway rank dirs m left x
  pub ends : put_all m left ≡ all
  pub olds : (k : CellKey) → writes_key k left ≡ true → value_or_gone (get m k) ≡ old k
  pub once : AreOnce left
  pub single : AreSingle (held_by rank dirs) all
  pub counts : HasCounts m (length left)
