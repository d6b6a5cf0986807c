-- What the rows of damage look at, cell by cell, and how often numbers stand in lists.
use Rattle.std.specs.Prelude.{ℕ, ◌+◌, Bool, true, ◌==◌, ◌||◌, nat_eq, nat_lt, List, filter, Option, Some, None, option_map, option_and_then, unwrap_or, if◌then◌else◌}
use Rattle.std.specs.HashMap as hash
use Rattle.mj_maps.specs.Map.{Map}
use Rattle.mj_base.specs.Record.{same_kind}
use Rattle.mj_base.specs.declared.record.Kind.{Kind}
use Rattle.mj_base.specs.declared.record.InodeRecord.{InodeRecord}
use Rattle.mj_tree.specs.Answer.{most_kept}
use Rattle.mj_tree.specs.Row.{most_entries}
use Rattle.mj_cells.specs.declared.cell.CellKey.TheVariants as key
use Rattle.mj_cells.specs.declared.cell.CellValue.{CellValue}
use Rattle.mj_cells.specs.Cell.{key_cmp}
use Rattle.mj_cells.specs.Table.{Dentry}
use Rattle.mj_cells.specs.Table.Dentry.{Full, Remote}
use Rattle.mj_recovery.specs.Tree.{Entry, ino_of, is_among, full_record}
use Rattle.mj_recovery.specs.Damage.{misnamed}
use Rattle.mj_judge.specs.Parts.{Cell, dentry_entry, number_at}
use Rattle.mj_judge.specs.declared.counts.Counts.{Counts}

-- how often a number was counted
abbrev pub count_in : Counts → ℕ → ℕ
count_in c n = unwrap_or (hash.get nat_eq c.kept n) 0

abbrev pub is_counted : Counts → ℕ → Bool
is_counted c n = nat_lt 0 (count_in c n)

-- ---- dentries of some directories

-- the record of a full dentry
abbrev pub full_in : List ℕ → Cell → Option InodeRecord
full_in dirs c = option_and_then (full_record dirs) (dentry_entry c)

abbrev pub full_ino : List ℕ → Cell → Option ℕ
full_ino dirs c = option_map (λ (r : InodeRecord). r.ino) (full_in dirs c)

-- its inode, where it is of this kind
abbrev pub if_kind : Kind → InodeRecord → Option ℕ
if_kind kind r = if same_kind r.kind kind then Some r.ino else None

abbrev pub kind_ino : List ℕ → Kind → Cell → Option ℕ
kind_ino dirs kind c = option_and_then (if_kind kind) (full_in dirs c)

-- its inode, where its count is another than this
abbrev pub if_other : (ℕ → ℕ) → InodeRecord → Option ℕ
if_other links r = if r.links == links r.ino then None else Some r.ino

abbrev pub miscounted_ino : List ℕ → (ℕ → ℕ) → Cell → Option ℕ
miscounted_ino dirs links c = option_and_then (if_other links) (full_in dirs c)

-- the inode that a link of these directories names, and the directory that it is in
abbrev pub link_to : List ℕ → Entry → Option ℕ
link_to dirs e = if is_among dirs e.0.0 then Some (ino_of e.1) else None

abbrev pub link_from : List ℕ → Entry → Option ℕ
link_from dirs e = if is_among dirs e.0.0 then Some e.0.0 else None

abbrev pub link_ino : List ℕ → Cell → Option ℕ
link_ino dirs c = option_and_then (link_to dirs) (dentry_entry c)

abbrev pub link_dir : List ℕ → Cell → Option ℕ
link_dir dirs c = option_and_then (link_from dirs) (dentry_entry c)

-- the inode and the kind that a remote dentry of these directories names
abbrev pub remote_to : List ℕ → Entry → Option (ℕ × Kind)
remote_to dirs e = if is_among dirs e.0.0 then by_dentry e.1 else None
  where
    by_dentry : Dentry → Option (ℕ × Kind)
    by_dentry (Full version r) = None
    by_dentry (Remote version i kind) = Some (i, kind)

abbrev pub remote_in : List ℕ → Cell → Option (ℕ × Kind)
remote_in dirs c = option_and_then (remote_to dirs) (dentry_entry c)

-- the directory of a dentry that is there
abbrev pub dentry_dir : Cell → Option ℕ
dentry_dir c = option_map (λ (e : Entry). e.0.0) (dentry_entry c)

abbrev pub misnamed_ino : ℕ → Cell → Option ℕ
misnamed_ino rank c = option_and_then (misnamed rank) (dentry_entry c)

-- ---- rows with look-ups in the place of searches

-- the inode of a remote dentry that has no full one
abbrev pub if_lone : (ℕ → Kind → Bool) → ℕ × Kind → Option ℕ
if_lone has r = if has r.0 r.1 then None else Some r.0

-- a kept reply without a session or below its oldest, or one of more than 64
abbrev pub replies_badly : (ℕ → Option ℕ) → (ℕ → ℕ) → (ℕ × ℕ) × ℕ → Bool
replies_badly oldest count e = by_session (oldest e.0.0)
  where
    by_session : Option ℕ → Bool
    by_session None = true
    by_session (Some first) = nat_lt e.0.1 first || nat_lt most_kept (count e.0.0)

-- the oldest tid of a client's session, and a directory's head
abbrev pub oldest_at : Map key_cmp CellValue → ℕ → Option ℕ
oldest_at m client = number_at m (key.Session client)

abbrev pub version_at : Map key_cmp CellValue → ℕ → Option ℕ
version_at m d = number_at m (key.DirHead d)

-- how many of these a link or an open keeps
abbrev pub kept_of : (ℕ → ℕ) → (ℕ → ℕ) → List ℕ → List ℕ
kept_of links opens is = filter (λ i. nat_lt 0 (links i + opens i)) is

-- a count that is above the limit, of the least directory
abbrev pub over_dirs : (ℕ → ℕ) → List ℕ → List ℕ
over_dirs count dirs = filter (λ d. nat_lt most_entries (count d)) dirs
