-- The parts of a plain tree.
use Rattle.std.specs.Prelude.{ℕ}

-- a place as an entry of a set of places
abbrev pub with_unit : ℕ × ℕ → (ℕ × ℕ) × Unit {0}
with_unit o = (o, tt)
