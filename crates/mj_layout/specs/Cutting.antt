-- The front of an object that stands below a position.
use Rattle.std.specs.Prelude.{◌≡◌, ℕ, ◌<◌, ◌≤◌}
use Rattle.mj_layout.specs.Striping.{Striping}
use Rattle.mj_layout.specs.Place.{object_of, offset_of}

-- an object's first len bytes are just those of positions below this one
pub record IsCut (s : Striping) (index at len : ℕ) : Type 0 where
  pub below : (x : ℕ) → object_of s x ≡ index → x < at → offset_of s x < len
  pub above : (x : ℕ) → object_of s x ≡ index → at ≤ x → len ≤ offset_of s x
