-- Where an item stands in a list by its key.
use Rattle.std.specs.Prelude.{◌≡◌, ℕ, ◌<◌, ◌≤◌, List, [], ◌∷◌, length, if◌then◌else◌}
use Rattle.std.specs.Ordering.{is_eq}
use Rattle.std.specs.List.{insert}
use Rattle.std.specs.declared.cmp.Ordering.{Ordering}
use Rattle.mj_base.specs.InOrder.{placed}
pub use lib.ListN.{set}

-- the item takes the place of the one at the index
abbrev pub IsOver : {A : Type 0} → (A → A → Ordering) → A → List A → ℕ → Type 0
IsOver cmp a xs at = (at < length xs) × (placed cmp a xs ≡ set xs at a)

-- the item comes in before the one at the index, or at the end
abbrev pub IsBefore : {A : Type 0} → (A → A → Ordering) → A → List A → ℕ → Type 0
IsBefore cmp a xs at = (at ≤ length xs) × (placed cmp a xs ≡ insert xs at a)

-- the item in place of the first one that ties with it
abbrev pub replaced : {A : Type 0} → (A → A → Ordering) → A → List A → List A
replaced cmp a [] = []
replaced cmp a (x ∷ xs) = if is_eq (cmp a x) then a ∷ xs else x ∷ replaced cmp a xs

-- the first one that ties with it is at the index
abbrev pub IsTie : {A : Type 0} → (A → A → Ordering) → A → List A → ℕ → Type 0
IsTie cmp a xs at = (at < length xs) × (replaced cmp a xs ≡ set xs at a)
