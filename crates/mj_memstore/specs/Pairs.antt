-- Pairs in the order of their keys.
use Rattle.std.specs.Prelude.{◌≡◌, ℕ, ◌<◌, ◌≤◌, List, map, length, slice_index_or}
use Rattle.std.specs.List.{AllWithin}
use Rattle.std.specs.declared.cmp.Ordering.TheVariants.{Less, Greater}
use Rattle.mj_maps.specs.Orders.{bytes_cmp}
use Rattle.mj_store.specs.declared.act.Pair.{Pair}

abbrev pub entry_of : Pair → List ℕ × List ℕ
entry_of p = (p.key, p.value)

abbrev pub entries_of : List Pair → List (List ℕ × List ℕ)
entries_of ps = map entry_of ps

-- the key stands there
abbrev pub IsKeyAt : List Pair → List ℕ → ℕ → Type 0
IsKeyAt ps key i = (i < length ps) × ((d : Pair) → (slice_index_or ps i d).key ≡ key)

-- the keys before this place are lower, and those from it on are higher
abbrev pub IsGapAt : List Pair → List ℕ → ℕ → Type 0
IsGapAt ps key i = (i ≤ length ps) × AllWithin (λ (p : Pair). bytes_cmp p.key key ≡ Less) ps 0 i × AllWithin (λ (p : Pair). bytes_cmp p.key key ≡ Greater) ps i (length ps)
