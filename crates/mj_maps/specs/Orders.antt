-- The orders of keys.
use Rattle.std.specs.Prelude.{ℕ, List}
use Rattle.std.specs.declared.cmp.Ordering.{Ordering}
use Rattle.std.specs.Ordering.{on, then_cmp}
use Rattle.std.specs.Cmp.Lexicographic.{slice_cmp}
pub use Rattle.std.specs.Ordering.{nat_cmp}

-- texts by their bytes
abbrev pub bytes_cmp : List ℕ → List ℕ → Ordering
bytes_cmp = slice_cmp nat_cmp

-- places by directory, and then by name
abbrev pub place_cmp : ℕ × List ℕ → ℕ × List ℕ → Ordering
place_cmp = then_cmp (on (λ (p : ℕ × List ℕ). p.0) nat_cmp) (on (λ (p : ℕ × List ℕ). p.1) bytes_cmp)

-- pairs of numbers by the first, and then by the second
abbrev pub pair_cmp : ℕ × ℕ → ℕ × ℕ → Ordering
pair_cmp = then_cmp (on (λ (p : ℕ × ℕ). p.0) nat_cmp) (on (λ (p : ℕ × ℕ). p.1) nat_cmp)
