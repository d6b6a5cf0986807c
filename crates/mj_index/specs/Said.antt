-- What a cell says of inodes, where these are the reachable directories.
use Rattle.std.specs.Prelude.{ℕ, Bool, false, ◌==◌, List, filter_map, Option, None, Some, is_some, unwrap_or, if◌then◌else◌}
use Rattle.std.specs.Option.{option_map, option_and_then}
use Rattle.mj_base.specs.declared.record.InodeRecord.{InodeRecord}
use Rattle.mj_cells.specs.declared.cell.CellKey.{CellKey}
use Rattle.mj_cells.specs.declared.cell.CellValue.{CellValue}
use Rattle.mj_cells.specs.declared.cell.CellValue.TheVariants.{Gone}
use Rattle.mj_cells.specs.declared.cell.CellWrite.{CellWrite}
use Rattle.mj_cells.specs.Table.{Dentry}
use Rattle.mj_cells.specs.Table.Dentry.{Full, Remote}
use Rattle.mj_recovery.specs.Tree.{Entry, subdir}
use Rattle.mj_judge.specs.Parts.{Cell, dentry_entry, session_entry, open_place, dir_at}
use Rattle.mj_judge.specs.Rows.{dentry_dir}

-- the record of a full dentry
abbrev pub record_of : Dentry → Option InodeRecord
record_of (Full version r) = Some r
record_of (Remote version i kind) = None

-- the same, where its directory is one of these
abbrev pub record_held : (ℕ → Bool) → Entry → Option InodeRecord
record_held held e = if held e.0.0 then record_of e.1 else None

abbrev pub full_said : (ℕ → Bool) → Cell → Option InodeRecord
full_said held c = option_and_then (record_held held) (dentry_entry c)

abbrev pub full_inode : (ℕ → Bool) → Cell → Option ℕ
full_inode held c = option_map (λ (r : InodeRecord). r.ino) (full_said held c)

-- the directory that a full dentry of these directories names
abbrev pub named_in : (ℕ → Bool) → Entry → Option ℕ
named_in dirs e = if dirs e.0.0 then subdir e.1 else None

abbrev pub dir_named : (ℕ → Bool) → Cell → Option ℕ
dir_named dirs c = option_and_then (named_in dirs) (dentry_entry c)

-- the inode that an open is of
abbrev pub open_inode : Cell → Option ℕ
open_inode c = option_map (λ (o : ℕ × ℕ). o.1) (open_place c)

abbrev pub is_session : Cell → Bool
is_session c = is_some (session_entry c)

-- ---- as tests, to be counted

abbrev pub is_the : ℕ → Option ℕ → Bool
is_the i None = false
is_the i (Some j) = j == i

abbrev pub is_dentry : Cell → Bool
is_dentry c = is_some (dentry_dir c)

abbrev pub is_dentry_in : ℕ → Cell → Bool
is_dentry_in d c = is_the d (dentry_dir c)

abbrev pub is_open : Cell → Bool
is_open c = is_some (open_inode c)

abbrev pub is_open_of : ℕ → Cell → Bool
is_open_of i c = is_the i (open_inode c)

-- ---- writes

-- the value of a key, gone where there is none
abbrev pub value_or_gone : Option CellValue → CellValue
value_or_gone o = unwrap_or o Gone

abbrev pub cell_before : (CellKey → CellValue) → CellWrite → Cell
cell_before old w = (w.key, old w.key)

abbrev pub cell_after : CellWrite → Cell
cell_after w = (w.key, w.value)

-- the directories that the dentries written named before, name now, and stand in
abbrev pub left_dirs : (ℕ → Bool) → (CellKey → CellValue) → List CellWrite → List ℕ
left_dirs dirs old ws = filter_map (λ (w : CellWrite). dir_named dirs (cell_before old w)) ws

abbrev pub led_dirs : (ℕ → Bool) → List CellWrite → List ℕ
led_dirs dirs ws = filter_map (λ (w : CellWrite). dir_named dirs (cell_after w)) ws

abbrev pub written_dirs : List CellWrite → List ℕ
written_dirs ws = filter_map (λ (w : CellWrite). dir_at w.key) ws
