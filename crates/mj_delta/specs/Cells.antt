-- What the cells of a table keep, beside that no row of damage holds.
use Rattle.std.specs.Prelude.{◌≡◌, ℕ, ◌<◌, ◌^◌, false, List, Some, IsSome, IsTrue, Contains, unwrap_or}
use Rattle.mj_base.specs.Name.{is_name}
use Rattle.mj_base.specs.Record.{IsRecord, same_kind}
use Rattle.mj_base.specs.declared.record.Kind.{Kind}
use Rattle.mj_base.specs.declared.record.Kind.TheVariants.{Dir}
use Rattle.mj_base.specs.declared.record.InodeRecord.{InodeRecord}
use Rattle.mj_base.specs.declared.object.ObjectName.TheVariants.{File}
use Rattle.mj_maps.specs.Map.{get}
use Rattle.mj_store.specs.Object.{Content, Contents}
use Rattle.mj_cells.specs.declared.cell.CellKey.{CellKey}
use Rattle.mj_cells.specs.declared.cell.CellKey.TheVariants as key
use Rattle.mj_cells.specs.declared.cell.CellValue.{CellValue}
use Rattle.mj_cells.specs.declared.cell.CellValue.TheVariants as value
use Rattle.mj_cells.specs.declared.cell.CellWrite.{CellWrite}
use Rattle.mj_cells.specs.Table.{Table}
use Rattle.mj_cells.specs.Table.Dentry.{Full}
use Rattle.mj_recovery.specs.Stored.{object_cells}
use Rattle.mj_recovery.specs.Orderly.{IsOfRank, IsOwn}
use Rattle.mj_delta.specs.Reads.{remote_of}

-- the next inode, 0 where there is none
abbrev pub next_of : Table → ℕ
next_of t = unwrap_or t.next 0

-- Each cell has a spelling: numbers, names and records are those of the grammar, and a remote dentry is of no directory.
pub record HasSpelling (t : Table) : Type 0 where
  pub next_fits : next_of t < 2 ^ 64
  pub remote_no_dir : (q : ℕ × List ℕ) (i : ℕ) (k : Kind) → remote_of (get t.dentries q) ≡ Some (i, k) → same_kind k Dir ≡ false
  pub names_fit : (q : ℕ × List ℕ) → IsSome (get t.dentries q) → IsTrue (is_name q.1)
  pub records_fit : (q : ℕ × List ℕ) (version : ℕ) (r : InodeRecord) → get t.dentries q ≡ Some (Full version r) → IsRecord r
  pub tids_fit : (client tid i : ℕ) → get t.done (client, tid) ≡ Some i → tid < 2 ^ 64

-- The same, and each directory with a cell is the rank's own.
pub record HasOwnCells (rank : ℕ) (t : Table) : Type 0 where
  pub spelled : HasSpelling t
  pub own_cells : (q : ℕ × List ℕ) → IsSome (get t.dentries q) → IsOwn rank (next_of t) q.0
  pub own_heads : (d version : ℕ) → get t.heads d ≡ Some version → IsOwn rank (next_of t) d

-- ---- of an image

-- its name, record and numbers have a spelling, and a remote dentry is of no directory
abbrev pub IsSpelled : CellWrite → Type 0
IsSpelled w = by_parts w.key w.value
  where
    by_parts : CellKey → CellValue → Type 0
    by_parts (key.Dentry d name) (value.Full version r) = IsTrue (is_name name) × IsRecord r
    by_parts (key.Dentry d name) (value.Remote version i kind) = IsTrue (is_name name) × (same_kind kind Dir ≡ false)
    by_parts key.NextIno (value.Number n) = n < 2 ^ 64
    by_parts (key.Done client tid) (value.Number i) = tid < 2 ^ 64
    by_parts _ _ = Unit {0}

-- No object of a directory that is not of the rank holds a cell.
abbrev pub HoldsOwnDirs : ℕ → Contents → Type 0
HoldsOwnDirs rank image = (d : ℕ) (o : Content) (w : CellWrite) → image (File d 0) ≡ Some o → Contains (object_cells (File d 0) o) w → IsOfRank rank d
