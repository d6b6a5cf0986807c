-- The front of an object that is read to judge its header.
use Rattle.std.specs.Prelude.{◌≡◌, ℕ, List, length, take}

-- the first bytes of all, one more than a header has, and how many there are
pub record IsFrontOf (all bytes : List ℕ) (size : ℕ) : Type 0 where
  pub front : bytes ≡ take 70 all
  pub size_is : size ≡ length all
