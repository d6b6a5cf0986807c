-- Where full dentries stand in a table, and how much a tree has.
use Rattle.std.specs.Prelude.{ℕ, Bool, ◌&&◌, ◌==◌, false, List, find, Option, option_map}
use Rattle.mj_maps.specs.Map.{entries, len}
use Rattle.mj_cells.specs.declared.cell.CellKey.{CellKey}
use Rattle.mj_cells.specs.declared.cell.CellKey.TheVariants as key
use Rattle.mj_cells.specs.Table.{Dentry, Table}
use Rattle.mj_cells.specs.Table.Dentry.{Full, Remote}
use Rattle.mj_tree.specs.State.{PlainState}
use Rattle.mj_recovery.specs.Tree.{Entry, is_among, holding}

abbrev pub is_full_of : ℕ → Dentry → Bool
is_full_of i (Full version r) = r.ino == i
is_full_of i (Remote version j kind) = false

-- the first full dentry of an inode in these directories
abbrev pub is_full_at : List ℕ → ℕ → Entry → Bool
is_full_at dirs i e = is_among dirs e.0.0 && is_full_of i e.1

abbrev pub full_place : ℕ → Table → ℕ → Option (ℕ × List ℕ)
full_place rank t i = option_map (λ (e : Entry). e.0) (find (is_full_at (holding rank t) i) (entries t.dentries))

abbrev pub dentry_key : ℕ × List ℕ → CellKey
dentry_key q = key.Dentry q.0 q.1

-- ---- how much there is

-- records, sessions and opens of a tree
abbrev pub inodes_of : PlainState → ℕ
inodes_of s = len s.records

abbrev pub sessions_of : PlainState → ℕ
sessions_of s = len s.sessions

abbrev pub opens_of : PlainState → ℕ
opens_of s = len s.opens
