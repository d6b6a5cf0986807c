-- What is kept of the directories of lumps while a journal is replayed.
use Rattle.std.specs.Prelude.{ℕ, Bool, true, not, ◌&&◌, nat_lt, List, Option, Some, None}
use Rattle.std.specs.List.{list_all}
use Rattle.mj_cells.specs.declared.cell.CellWrite.{CellWrite}
use Rattle.mj_recovery.specs.Damage.{is_known, lump_dirs}
use Rattle.mj_replay.specs.declared.lumps.LumpDirs.{LumpDirs}

abbrev pub is_below : ℕ → Option ℕ → Bool
is_below next None = true
is_below next (Some d) = nat_lt d next

-- with this next inode none is strange
abbrev pub none_strange : ℕ → LumpDirs → Bool
none_strange next dirs = not dirs.strange && is_below next dirs.greatest

-- each directory of a lump in these writes is the root, stray or given
abbrev pub lumps_known : ℕ → ℕ → List CellWrite → Bool
lumps_known rank next ws = list_all (is_known rank next) (lump_dirs ws)
