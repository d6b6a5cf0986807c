-- An inode's record in bytes.
use Rattle.std.specs.Prelude.{ℕ, ◌<◌, ◌≤◌, ◌^◌, Bool, ◌&&◌, ◌==◌, nat_le, List, ◌∷◌, ◌++◌, length, IsTrue, if◌then◌else◌, Ok, Option, Some, None}
use Rattle.mj_base.specs.declared.record.Kind.{Kind}
use Rattle.mj_base.specs.declared.record.Kind.TheVariants.{Dir, File, Symlink}
use Rattle.mj_base.specs.declared.record.InodeRecord.{InodeRecord}
use Rattle.mj_base.specs.Target.{has_no_zero}
use Rattle.mj_base.specs.Reading.{two, four, eight, Read, ◌>>=◌, such, standing_for, bytes_at, u8_at, u16_at, u32_at, u64_at}

-- the number of a kind in bytes
abbrev pub kind_code : Kind → ℕ
kind_code Dir = 1
kind_code File = 2
kind_code Symlink = 3

abbrev pub same_kind : Kind → Kind → Bool
same_kind a b = kind_code a == kind_code b

-- a symlink's target has 1 to 4,095 bytes, none of them 0, and nothing else has one
abbrev pub target_length_fits : Kind → ℕ → Bool
target_length_fits Symlink n = nat_le 1 n && nat_le n 4095
target_length_fits _ n = n == 0

-- a target that a record of this kind has
abbrev pub target_fits : Kind → List ℕ → Bool
target_fits kind target = target_length_fits kind (length target) && has_no_zero target

-- a record's spelling
abbrev pub record_bytes : InodeRecord → List ℕ
record_bytes r = 1 ∷ eight r.ino ++ kind_code r.kind ∷ two r.mode ++ four r.uid ++ four r.gid ++ eight r.size ++ eight r.mtime ++ four r.links ++ two (length r.target) ++ r.target

-- the records that have a spelling
pub record IsRecord (r : InodeRecord) : Type 0 where
  pub ino : r.ino < 2 ^ 64
  pub mode : r.mode ≤ 0o7777
  pub uid : r.uid < 2 ^ 32
  pub gid : r.gid < 2 ^ 32
  pub size : r.size < 2 ^ 64
  pub mtime : r.mtime < 2 ^ 64
  pub links : r.links < 2 ^ 32
  pub target : IsTrue (target_fits r.kind r.target)

-- the kind that a number stands for
abbrev pub kind_of : ℕ → Option Kind
kind_of code = if code == 1 then Some Dir else if code == 2 then Some File else if code == 3 then Some Symlink else None

abbrev pub kind_at : List ℕ → Read Kind
kind_at = standing_for kind_of u8_at

abbrev pub mode_at : List ℕ → Read ℕ
mode_at = such (λ m. nat_le m 0o7777) u16_at

-- the length is wrong where the kind has none of that length, and the bytes are where one of them is 0
unfoldable pub target_at : Kind → List ℕ → Read (List ℕ)
target_at kind bytes = do
  n ← such (target_length_fits kind) u16_at bytes
  such has_no_zero (bytes_at n.0) n.1

-- the record that bytes begin with
unfoldable pub record_at : List ℕ → Read InodeRecord
record_at bytes = do
  version ← such (λ v. v == 1) u8_at bytes
  ino ← u64_at version.1
  kind ← kind_at ino.1
  mode ← mode_at kind.1
  uid ← u32_at mode.1
  gid ← u32_at uid.1
  size ← u64_at gid.1
  mtime ← u64_at size.1
  links ← u32_at mtime.1
  target ← target_at kind.0 links.1
  Ok (record { ino = ino.0; kind = kind.0; mode = mode.0; uid = uid.0; gid = gid.0; size = size.0; mtime = mtime.0; links = links.0; target = target.0 }, target.1)
