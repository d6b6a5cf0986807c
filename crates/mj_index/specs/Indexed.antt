-- What an index of cells has.
use Rattle.std.specs.Prelude.{◌≡◌, ℕ, Bool, false, List, [], Option, Some, option_map, if◌then◌else◌}
use Rattle.mj_maps.specs.Map.{Map, get, count}
use Rattle.mj_base.specs.declared.record.InodeRecord.{InodeRecord}
use Rattle.mj_tree.specs.State.{entry_count, open_count}
use Rattle.mj_cells.specs.declared.cell.CellKey.{CellKey}
use Rattle.mj_cells.specs.declared.cell.CellValue.{CellValue}
use Rattle.mj_cells.specs.declared.cell.CellWrite.{CellWrite}
use Rattle.mj_cells.specs.Cell.{key_cmp}
use Rattle.mj_cells.specs.Table.{table_of}
use Rattle.mj_recovery.specs.Tree.{is_among, reachable, tree_of}
use Rattle.mj_judge.specs.Parts.{Cell}
use Rattle.mj_judge.specs.Rows.{full_in}
use Rattle.mj_tables.specs.Layered.{writes_key}
use Rattle.mj_index.specs.Places.{full_place, dentry_key, inodes_of, sessions_of, opens_of}
use Rattle.mj_index.specs.Known.{known_at, is_dir_at, keeps_entry, held_by}
use Rattle.mj_index.specs.Said.{full_said, is_dentry, is_dentry_in, is_open, is_open_of, is_session, value_or_gone}
use Rattle.mj_index.specs.declared.known.FullPlace.{FullPlace}
use Rattle.mj_index.specs.declared.known.Known.{Known}
use Rattle.mj_index.specs.declared.index.Index.{Index}

-- a full dentry's inode and key
abbrev pub full_key : List ℕ → Cell → Option (ℕ × CellKey)
full_key dirs c = option_map (λ (r : InodeRecord). (r.ino, c.0)) (full_in dirs c)

abbrev pub place_key : Option FullPlace → Option CellKey
place_key o = option_map (λ (p : FullPlace). p.key) o

-- the entries of a directory, where it is reachable
abbrev pub entries_known : Known → ℕ
entries_known k = if k.is_dir then k.dentries else 0

-- the key of each full dentry, the entries and opens of each inode, and the sums are those of the table's tree
pub record IsIndexOf (rank : ℕ) (m : Map key_cmp CellValue) (x : Index) : Type 0 where
  pub primary : (i : ℕ) → place_key (known_at x.known i).full ≡ option_map dentry_key (full_place rank (table_of m) i)
  pub entries : (d : ℕ) → entries_known (known_at x.known d) ≡ entry_count (tree_of rank (table_of m)) d
  pub opened : (i : ℕ) → (known_at x.known i).opens ≡ open_count (tree_of rank (table_of m)) i
  pub inodes : count keeps_entry x.known ≡ inodes_of (tree_of rank (table_of m))
  pub sessions : x.sessions ≡ sessions_of (tree_of rank (table_of m))
  pub opens : x.opens ≡ opens_of (tree_of rank (table_of m))

-- ---- cell by cell

-- the record that a key's full dentry has, in one of these directories
abbrev pub full_at : (ℕ → Bool) → Map key_cmp CellValue → CellKey → Option InodeRecord
full_at held m k = full_said held (k, value_or_gone (get m k))

abbrev pub ino_links : InodeRecord → ℕ × ℕ
ino_links r = (r.ino, r.links)

-- What is known stands for cells over these directories. Where `left` is to be written yet, the full dentries there may be known or not.
pub record IsMidway (rank : ℕ) (dirs : ℕ → Bool) (m : Map key_cmp CellValue) (left : List CellWrite) (x : Index) : Type 0 where
  pub dir : (d : ℕ) → is_dir_at x.known d ≡ dirs d
  pub dentries_in : (d : ℕ) → (known_at x.known d).dentries ≡ count (is_dentry_in d) m
  pub opens_of_each : (i : ℕ) → (known_at x.known i).opens ≡ count (is_open_of i) m
  pub all_dentries : x.dentries ≡ count is_dentry m
  pub all_opens : x.opens ≡ count is_open m
  pub all_sessions : x.sessions ≡ count is_session m
  pub sound : (i : ℕ) (p : FullPlace) → (known_at x.known i).full ≡ Some p → option_map ino_links (full_at (held_by rank dirs) m p.key) ≡ Some (i, p.links)
  pub whole : (k : CellKey) (r : InodeRecord) → writes_key k left ≡ false → full_at (held_by rank dirs) m k ≡ Some r → place_key (known_at x.known r.ino).full ≡ Some k

-- what is known stands for these cells
abbrev pub IsIndexed : ℕ → Map key_cmp CellValue → Index → Type 0
IsIndexed rank m x = IsMidway rank (is_among (reachable (table_of m))) m [] x
