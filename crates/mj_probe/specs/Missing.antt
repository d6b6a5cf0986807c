-- The least position without a byte, among some of a journal's objects.
use Rattle.std.specs.Prelude.{◌≡◌, ℕ, ◌^◌, ◌<◌, ◌≤◌, length, Option, None, Some}
use Rattle.mj_store.specs.Object.{Content, Contents}
use Rattle.mj_layout.specs.Striping.{Striping}
use Rattle.mj_layout.specs.Place.{object_of, offset_of}
use Rattle.mj_recovery.specs.Stream.{byte_at}

-- how many bytes an object holds, none where it is absent
abbrev pub size_of : Option Content → ℕ
size_of None = 0
size_of (Some o) = length o.bytes

-- Of the positions from one on that stand in an object, the least whose offset is not below a size, and 2 ^ 62 where there is none below that.
pub record IsLeastBehind (s : Striping) (index size from at : ℕ) : Type 0 where
  pub above : from ≤ at
  pub at_most : at ≤ 2 ^ 62
  pub held_below : (x : ℕ) → object_of s x ≡ index → from ≤ x → x < at → offset_of s x < size
  pub behind : at < 2 ^ 62 → (object_of s at ≡ index) × (size ≤ offset_of s at)

-- Of the positions from one on that stand in the objects from first to below end, the least that has no byte, and 2 ^ 62 where there is none below that.
pub record IsLeastMissing (image : Contents) (rank : ℕ) (s : Striping) (from first end at : ℕ) : Type 0 where
  pub above : from ≤ at
  pub at_most : at ≤ 2 ^ 62
  pub held_below : (x : ℕ) → first ≤ object_of s x → object_of s x < end → from ≤ x → x < at → (b : ℕ) × (byte_at image rank s x ≡ Some b)
  pub missing : at < 2 ^ 62 → (first ≤ object_of s at) × (object_of s at < end) × (byte_at image rank s at ≡ None)
