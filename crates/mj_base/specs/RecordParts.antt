-- The parts of a record's spelling that are written one after another.
use Rattle.std.specs.Prelude.{ℕ, List, ◌∷◌, ◌++◌}
use Rattle.mj_base.specs.Reading.{two, four, eight}
use Rattle.mj_base.specs.Record.{kind_code}
use Rattle.mj_base.specs.declared.record.InodeRecord.{InodeRecord}

-- the version, and what the inode is
abbrev pub record_front : InodeRecord → List ℕ
record_front r = 1 ∷ eight r.ino ++ kind_code r.kind ∷ two r.mode

-- who owns it, and its numbers
abbrev pub record_numbers : InodeRecord → List ℕ
record_numbers r = four r.uid ++ four r.gid ++ eight r.size ++ eight r.mtime ++ four r.links
