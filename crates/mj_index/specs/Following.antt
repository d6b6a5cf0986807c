-- The index that follows writes: what each key said before is taken out, and what it says now is put in.
use Rattle.std.specs.Prelude.{◌≡◌, ℕ, ◌+◌, ◌-◌, Bool, true, false, min, List, [], ◌∷◌, Option, None, Some, is_some}
use Rattle.std.specs.List.{AllByRecursion}
use Rattle.mj_maps.specs.Map.{get, empty}
use Rattle.mj_base.specs.declared.record.InodeRecord.{InodeRecord}
use Rattle.mj_cells.specs.declared.cell.CellKey.{CellKey}
use Rattle.mj_cells.specs.declared.cell.CellValue.{CellValue}
use Rattle.mj_cells.specs.declared.cell.CellWrite.{CellWrite}
use Rattle.mj_judge.specs.Parts.{Cell}
use Rattle.mj_judge.specs.Rows.{dentry_dir}
use Rattle.mj_tables.specs.Layered.{Layered, early_cells}
use Rattle.mj_index.specs.Known.{Inodes, SameKnown, with_room, most, altered, is_dir_at, held_by, less_dentry, more_dentry, less_open, more_open, without_full, with_full, as_dir}
use Rattle.mj_index.specs.Said.{full_said, full_inode, open_inode, is_session, value_or_gone, cell_before, cell_after}
use Rattle.mj_index.specs.declared.index.Index.{Index}

abbrev pub no_index : Index
no_index = record { known = empty; dentries = 0; sessions = 0; opens = 0 }

-- the same is known, whatever room there is
pub record SameIndex (x y : Index) : Type 0 where
  pub known : SameKnown x.known y.known
  pub dentries : y.dentries ≡ x.dentries
  pub sessions : y.sessions ≡ x.sessions
  pub opens : y.opens ≡ x.opens

-- ---- room

abbrev pub HasRoomAt : Inodes → Option ℕ → Type 0
HasRoomAt m None = Unit {0}
HasRoomAt m (Some i) = is_some (get m i) ≡ true

-- room for what a cell says
pub record HasRoomFor (m : Inodes) (c : Cell) : Type 0 where
  pub dir : HasRoomAt m (dentry_dir c)
  pub full : HasRoomAt m (full_inode (λ _. true) c)
  pub opened : HasRoomAt m (open_inode c)

-- what has room has it still
abbrev pub RoomStays : Inodes → Inodes → Type 0
RoomStays m n = (i : ℕ) → is_some (get m i) ≡ true → is_some (get n i) ≡ true

abbrev pub HasRoom : Inodes → List CellWrite → Type 0
HasRoom m ws = AllByRecursion (λ w. HasRoomFor m (cell_after w)) ws

-- ---- what is taken out

abbrev pub dentry_out : Option ℕ → Index → Index
dentry_out None x = x
dentry_out (Some d) x = record x { known = altered x.known d less_dentry; dentries = x.dentries - 1 }

abbrev pub full_out : CellKey → Option ℕ → Index → Index
full_out k None x = x
full_out k (Some i) x = record x { known = altered x.known i (without_full k) }

abbrev pub open_out : Option ℕ → Index → Index
open_out None x = x
open_out (Some i) x = record x { known = altered x.known i less_open; opens = x.opens - 1 }

abbrev pub session_out : Bool → Index → Index
session_out false x = x
session_out true x = record x { sessions = x.sessions - 1 }

abbrev pub held_in : ℕ → Index → ℕ → Bool
held_in rank x = held_by rank (is_dir_at x.known)

abbrev pub taken : ℕ → Cell → Index → Index
taken rank c x = session_out (is_session c) (open_out (open_inode c) (full_out c.0 (full_inode (held_in rank x) c) (dentry_out (dentry_dir c) x)))

-- ---- what is put in

abbrev pub dentry_in : Option ℕ → Index → Index
dentry_in None x = x
dentry_in (Some d) x = record x { known = altered x.known d more_dentry; dentries = min (x.dentries + 1) most }

abbrev pub record_in : CellKey → Option InodeRecord → Index → Index
record_in k None x = x
record_in k (Some r) x = record x { known = altered x.known r.ino (with_full k r.links) }

abbrev pub open_in : Option ℕ → Index → Index
open_in None x = x
open_in (Some i) x = record x { known = altered x.known i more_open; opens = min (x.opens + 1) most }

abbrev pub session_in : Bool → Index → Index
session_in false x = x
session_in true x = record x { sessions = min (x.sessions + 1) most }

abbrev pub put_in : ℕ → Cell → Index → Index
put_in rank c x = session_in (is_session c) (open_in (open_inode c) (record_in c.0 (full_said (held_in rank x) c) (dentry_in (dentry_dir c) x)))

-- ---- writes

-- the early value of a key, gone where there is none
abbrev pub early_value : Layered → CellKey → CellValue
early_value l k = value_or_gone (get (early_cells l) k)

abbrev pub followed : ℕ → (CellKey → CellValue) → CellWrite → Index → Index
followed rank old w x = put_in rank (cell_after w) (taken rank (cell_before old w) x)

abbrev pub all_followed : ℕ → (CellKey → CellValue) → List CellWrite → Index → Index
all_followed rank old [] x = x
all_followed rank old (w ∷ ws) x = all_followed rank old ws (followed rank old w x)

-- which directories are reachable
abbrev pub all_dirs_set : Bool → List ℕ → Index → Index
all_dirs_set b [] x = x
all_dirs_set b (d ∷ ds) x = all_dirs_set b ds (record x { known = altered x.known d (as_dir b) })

-- ---- the index of a whole table

abbrev pub with_dir : ℕ → Index → Index
with_dir d x = record x { known = altered (with_room x.known d) d (as_dir true) }

abbrev pub with_dirs : List ℕ → Index → Index
with_dirs [] x = x
with_dirs (d ∷ ds) x = with_dirs ds (with_dir d x)

-- a cell is put in, once there is room for it
pub record PutsNew (rank : ℕ) (c : Cell) (x y : Index) : Type 0 where
  pub with_rooms : Index
  pub same : SameIndex x with_rooms
  pub room : HasRoomFor with_rooms.known c
  pub put : y ≡ put_in rank c with_rooms
