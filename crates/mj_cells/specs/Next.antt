-- Going over cells in the order of their keys.
use Rattle.std.specs.Prelude.{◌≡◌, Bool, true, false, List, [], ◌∷◌, filter, Option, Some, None}
use Rattle.std.specs.Ordering.{is_lt, is_gt}
use Rattle.std.specs.declared.collections.Bound.{Bound}
use Rattle.std.specs.declared.collections.Bound.TheVariants.{Excluded, Unbounded}
use Rattle.mj_maps.specs.Map.{Map, get, entries}
use Rattle.mj_cells.specs.declared.cell.CellKey.{CellKey}
use Rattle.mj_cells.specs.declared.cell.CellValue.{CellValue}
use Rattle.mj_cells.specs.declared.table.CellView.{CellView}
use Rattle.mj_cells.specs.Cell.{key_cmp}

-- above the key, where there is one
abbrev pub is_above : Option CellKey → CellKey → Bool
is_above None k = true
is_above (Some a) k = is_lt (key_cmp a k)

-- where the keys above begin
abbrev pub bound_above : Option CellKey → Bound CellKey
bound_above None = Unbounded
bound_above (Some k) = Excluded k

abbrev pub first_of : {A : Type 0} → List A → Option A
first_of [] = None
first_of (x ∷ xs) = Some x

-- the cell with the least key above
abbrev pub next_cell : Map key_cmp CellValue → Option CellKey → Option (CellKey × CellValue)
next_cell m after = first_of (filter (λ e. is_above after e.0) (entries m))

abbrev pub cell_of : CellView → CellKey × CellValue
cell_of c = (c.key.now, c.value.now)

-- what the next cell is: a cell whose key is above, with no such key below it; and none only where no key is above
abbrev pub IsLeastAbove : Map key_cmp CellValue → Option CellKey → Option (CellKey × CellValue) → Type 0
IsLeastAbove m after None = (k : CellKey) (v : CellValue) → get m k ≡ Some v → is_above after k ≡ false
IsLeastAbove m after (Some e) = (get m e.0 ≡ Some e.1) × (is_above after e.0 ≡ true) × ((k : CellKey) (v : CellValue) → get m k ≡ Some v → is_above after k ≡ true → is_gt (key_cmp e.0 k) ≡ false)

abbrev pub LeastAbove : Type 0
LeastAbove = (m : Map key_cmp CellValue) (after : Option CellKey) → IsLeastAbove m after (next_cell m after)
