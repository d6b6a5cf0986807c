-- The plain tree of a table.
use Rattle.std.specs.Prelude.{◌≡◌, nat_eq, ℕ, zero, suc, Bool, ◌==◌, List, [], ◌∷◌, ◌++◌, length, map, filter_map, if◌then◌else◌, Option, None, Some, unwrap_or, option_and_then}
use Rattle.std.specs.List.{list_any}
use Rattle.mj_maps.specs.Map.{Map, entries, get, empty, from_entries, collect}
use Rattle.mj_maps.specs.Orders.{nat_cmp}
use Rattle.mj_base.specs.ObjectName.{stray_ino}
use Rattle.mj_base.specs.Record.{same_kind}
use Rattle.mj_base.specs.declared.record.Kind.TheVariants.{Dir}
use Rattle.mj_base.specs.declared.record.InodeRecord.{InodeRecord}
use Rattle.mj_tree.specs.declared.change.Attributes.{Attributes}
use Rattle.mj_tree.specs.State.{PlainState, Session, root, is_kept, attributes_of}
use Rattle.mj_cells.specs.Table.{Dentry, Table}
use Rattle.mj_cells.specs.Table.Dentry.{Full, Remote}

-- a dentry at its place
abbrev pub Entry : Type 0
Entry = (ℕ × List ℕ) × Dentry

-- the inode that a dentry names
abbrev pub ino_of : Dentry → ℕ
ino_of (Full version r) = r.ino
ino_of (Remote version i kind) = i

-- the directory that a full dentry names
abbrev pub subdir : Dentry → Option ℕ
subdir (Full version r) = if same_kind r.kind Dir then Some r.ino else None
subdir (Remote version i kind) = None

-- A directory is reachable where it is the root, or a full dentry of a reachable directory names it.
pub data IsReachable (t : Table) : ℕ → Type 0 where
  at_root : IsReachable t root
  below : (d : ℕ) (name : List ℕ) (i : ℕ) → IsReachable t d → option_and_then subdir (get t.dentries (d, name)) ≡ Some i → IsReachable t i

-- ---- the same as a list

abbrev pub is_among : List ℕ → ℕ → Bool
is_among dirs d = list_any (λ e. nat_eq e d) dirs

abbrev pub dir_below : List ℕ → Entry → Option ℕ
dir_below dirs e = if is_among dirs e.0.0 then subdir e.1 else None

-- the directories that the dentries of these name
abbrev pub dirs_below : List ℕ → List Entry → List ℕ
dirs_below dirs es = filter_map (dir_below dirs) es

-- with those that are new
abbrev pub with_new : List ℕ → ℕ → List ℕ
with_new dirs d = if is_among dirs d then dirs else dirs ++ d ∷ []

abbrev pub all_new : List ℕ → List ℕ → List ℕ
all_new dirs [] = dirs
all_new dirs (d ∷ ds) = all_new (with_new dirs d) ds

-- the root, and again and again what is below
abbrev pub reached : ℕ → List Entry → List ℕ
reached zero es = root ∷ []
reached (suc n) es = let dirs = reached n es in all_new dirs (dirs_below dirs es)

-- no way down is longer than there are dentries
unfoldable pub reachable : Table → List ℕ
reachable t = reached (length (entries t.dentries)) (entries t.dentries)

-- ---- the tree

-- the records of the full dentries in these directories
abbrev pub full_record : List ℕ → Entry → Option InodeRecord
full_record dirs e = if is_among dirs e.0.0 then by_dentry e.1 else None
  where
    by_dentry : Dentry → Option InodeRecord
    by_dentry (Full version r) = Some r
    by_dentry (Remote version i kind) = None

abbrev pub full_records : List ℕ → List Entry → List InodeRecord
full_records dirs es = filter_map (full_record dirs) es

-- the directories that hold full dentries: the reachable ones and stray
abbrev pub holding : ℕ → Table → List ℕ
holding rank t = stray_ino rank ∷ reachable t

-- by inode; where two are of one inode, the first of them
abbrev pub by_inode : List InodeRecord → Map nat_cmp InodeRecord
by_inode rs = from_entries (map (λ (r : InodeRecord). (r.ino, r)) rs)

abbrev pub primaries : List ℕ → List Entry → Map nat_cmp InodeRecord
primaries dirs es = by_inode (full_records dirs es)

-- the kept replies of a client
abbrev pub reply_of : ℕ → (ℕ × ℕ) × ℕ → Option (ℕ × ℕ)
reply_of client e = if e.0.0 == client then Some (e.0.1, e.1) else None

abbrev pub session_in : List ((ℕ × ℕ) × ℕ) → ℕ → ℕ → Option Session
session_in done client oldest = Some (record { oldest = oldest; kept = from_entries (filter_map (reply_of client) done) })

-- the link that a dentry of these directories is
abbrev pub link_in : List ℕ → ℕ × List ℕ → Dentry → Option ℕ
link_in dirs place d = if is_among dirs place.0 then Some (ino_of d) else None

-- what a record says, where a link or an open keeps it
abbrev pub record_in : PlainState → ℕ → InodeRecord → Option Attributes
record_in s i r = if is_kept s i then Some (attributes_of r) else None

-- Links are the dentries of reachable directories. Opens, sessions and the next inode are their cells.
abbrev pub bare_tree : Table → PlainState
bare_tree t = record {
  next = unwrap_or t.next 0;
  records = empty;
  links = collect (link_in (reachable t)) t.dentries;
  opens = t.opens;
  sessions = collect (session_in (entries t.done)) t.sessions;
}

-- Records are the full dentries of reachable directories and of stray that are kept.
unfoldable pub tree_of : ℕ → Table → PlainState
tree_of rank t = let s = bare_tree t in record s { records = collect (record_in s) (primaries (holding rank t) (entries t.dentries)) }
