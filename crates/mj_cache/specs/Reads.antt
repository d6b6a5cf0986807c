-- What is read of a cache.
use Rattle.std.specs.Prelude.{ℕ, Bool, false, ◌==◌, nat_lt, List, [], filter, Option, Some, None, if◌then◌else◌}
use Rattle.std.specs.Option.{option_and_then}
use Rattle.std.specs.Ordering.{is_lt}
use Rattle.mj_base.specs.declared.record.InodeRecord.{InodeRecord}
use Rattle.mj_maps.specs.Map.{get}
use Rattle.mj_maps.specs.Orders.{bytes_cmp}
use Rattle.mj_tree.specs.State.{PlainState}
use Rattle.mj_tree.specs.Sessions.{kept_of}
use Rattle.mj_tree.specs.Row.{names_in}
use Rattle.mj_cells.specs.declared.cell.CellKey.{CellKey}
use Rattle.mj_cells.specs.declared.cell.CellKey.TheVariants as key
use Rattle.mj_cells.specs.Next.{first_of}
use Rattle.mj_cells.specs.Table.{Dentry}
use Rattle.mj_cells.specs.Table.Dentry.{Full, Remote}
use Rattle.mj_cache.specs.Cached.{CacheValue, early_table}
use Rattle.mj_index.specs.Places.{full_place}
use Rattle.mj_delta.specs.Events.{tids}

-- the record of a full dentry
abbrev pub record_in : Option Dentry → Option InodeRecord
record_in None = None
record_in (Some (Full version r)) = Some r
record_in (Some (Remote version i kind)) = None

-- the record that the full dentry of an inode carries, which may be of an inode that nothing keeps
abbrev pub full_record : CacheValue → ℕ → Option InodeRecord
full_record c i = record_in (option_and_then (get (early_table c).dentries) (full_place c.rank (early_table c) i))

-- the least number above, among those of kept replies
abbrev pub next_tid : PlainState → ℕ → ℕ → Option ℕ
next_tid s client after = first_of (filter (nat_lt after) (tids (kept_of s client)))

-- a name before another
abbrev pub name_below : List ℕ → List ℕ → Bool
name_below a b = is_lt (bytes_cmp a b)

-- the least name above, among those of a directory
abbrev pub next_name : PlainState → ℕ → List ℕ → Option (List ℕ)
next_name s dir after = first_of (filter (name_below after) (names_in s dir))

-- ---- what a key is of

-- the number of a kept reply, where it is the client's
abbrev pub tid_in : ℕ → CellKey → Option ℕ
tid_in client (key.Done of tid) = if of == client then Some tid else None
tid_in client _ = None

-- the name of a dentry, where it is in the directory
abbrev pub name_in : ℕ → CellKey → Option (List ℕ)
name_in dir (key.Dentry d name) = if d == dir then Some name else None
name_in dir _ = None

-- the name of a dentry's key
abbrev pub name_of : CellKey → List ℕ
name_of (key.Dentry d name) = name
name_of _ = []

-- whether it is of a file that the client has open
abbrev pub is_open_by : ℕ → CellKey → Bool
is_open_by client (key.OpenOf of i) = of == client
is_open_by client _ = false
