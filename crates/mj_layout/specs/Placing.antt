-- What a journal needs to know of its layout.
use Rattle.std.specs.Prelude.{◌≡◌, ℕ, ◌+◌, ◌-◌, ◌*◌, ◌/◌, ◌^◌, ◌<◌, ◌≤◌, min}
use Rattle.mj_layout.specs.Striping.{Striping, period}
use Rattle.mj_layout.specs.Place.{object_of, offset_of, position_at}

-- the set of objects that a position is in
abbrev pub set_of : Striping → ℕ → ℕ
set_of s x = x / period s

-- the end of the set of the last position that may be written while this one is safe: four periods on, or the last of all
unfoldable pub window_end : Striping → ℕ → ℕ
window_end s x = (set_of s (min (x + 4 * period s - 1) (2 ^ 62 - 1)) + 1) * period s

pub record Placing (s : Striping) : Type 0 where
  -- in one object offsets rise with positions, so a place has one position
  pub rising : (x y : ℕ) → object_of s x ≡ object_of s y → x < y → offset_of s x < offset_of s y
  -- in one stripe unit the object stays, and the offset counts on
  pub run : (x i j : ℕ) → i ≤ j → x / s.su ≡ (x + j) / s.su → (object_of s (x + i) ≡ object_of s x) × (offset_of s (x + i) ≡ offset_of s x + i)
  -- the first set holds no position of the stream that begins with the second
  pub first : (x : ℕ) → period s ≤ x → 1 ≤ object_of s x
  pub within : (x : ℕ) → offset_of s x < s.os
  -- the objects of a set are sc in a row
  pub set : (x : ℕ) → object_of s x / s.sc ≡ set_of s x
  pub there : (x : ℕ) → position_at s (object_of s x) (offset_of s x) ≡ x
  pub back : (index offset : ℕ) → offset < s.os → (object_of s (position_at s index offset) ≡ index) × (offset_of s (position_at s index offset) ≡ offset)
  pub window : (x y : ℕ) → y ≤ x + 4 * period s → y ≤ 2 ^ 62 → y ≤ window_end s x
