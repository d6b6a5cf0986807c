-- The set of the keys whose early values are there, with room for more.
use Rattle.std.specs.Prelude.{◌≡◌, Bool, true, false, not, ◌&&◌, ◌||◌, List, [], ◌∷◌, Option, Some, None, is_some, if◌then◌else◌, option_and_then}
use Rattle.std.specs.List.{list_any}
use Rattle.std.specs.BTreeSet.{BTreeSet}
use Rattle.mj_maps.specs.Map.{Map, Set, get, collect, with_some}
use Rattle.mj_cells.specs.declared.cell.CellKey.{CellKey}
use Rattle.mj_cells.specs.declared.cell.CellValue.{CellValue}
use Rattle.mj_cells.specs.declared.cell.CellWrite.{CellWrite}
use Rattle.mj_cells.specs.Cell.{key_cmp, same_key}
use Rattle.mj_tables.specs.declared.group.Group.{Group}
use Rattle.mj_tables.specs.declared.slot.Slot.{Slot}
use Rattle.mj_tables.specs.Layered.{is_there, writes_key, early_of}
use Rattle.mj_tables.specs.Slots.{Slots, if_there, there_in, safe_cells, last_write, AreLaid}

abbrev pub has_key : BTreeSet CellKey → CellKey → Bool
has_key s k = list_any (λ x. same_key k x) s.keys

-- the early value of a key, where it is there
abbrev pub there_at : Slots → CellKey → Option CellValue
there_at m k = option_and_then there_in (get m k)

-- the cells that are there along keys
abbrev pub there_along : Slots → List CellKey → List (CellKey × CellValue)
there_along m [] = []
there_along m (k ∷ ks) = with_some k (there_at m k) (there_along m ks)

-- the keys that are there, and no other
abbrev pub AreThere : Slots → BTreeSet CellKey → Type 0
AreThere m s = (k : CellKey) → has_key s k ≡ is_some (there_at m k)

-- each cell that is there has its key in the set
abbrev pub HasThere : Map key_cmp CellValue → BTreeSet CellKey → Type 0
HasThere cells s = (k : CellKey) (v : CellValue) → get cells k ≡ Some v → is_there v ≡ true → has_key s k ≡ true

-- the same of slots
abbrev pub ListsThere : Slots → BTreeSet CellKey → Type 0
ListsThere m s = (k : CellKey) → is_some (there_at m k) ≡ true → has_key s k ≡ true

-- what is there at each key of these writes is what the last of them says
abbrev pub AreLast : Slots → List CellWrite → Type 0
AreLast m ws = (k : CellKey) (v : CellValue) → last_write k ws ≡ Some v → there_at m k ≡ if_there v

-- ---- room

-- the set with this key
abbrev pub Adds : BTreeSet CellKey → CellKey → BTreeSet CellKey → Type 0
Adds s k n = (q : CellKey) → has_key n q ≡ (same_key q k || has_key s q)

-- with the keys of these writes
abbrev pub AddsAll : BTreeSet CellKey → List CellWrite → BTreeSet CellKey → Type 0
AddsAll s ws n = (q : CellKey) → has_key n q ≡ (writes_key q ws || has_key s q)

-- without it
abbrev pub Drops : BTreeSet CellKey → CellKey → BTreeSet CellKey → Type 0
Drops s k n = (q : CellKey) → has_key n q ≡ if same_key q k then false else has_key s q

-- whatever is added, the keys that stand in the set stay
abbrev pub AllStay : BTreeSet CellKey → BTreeSet CellKey → Type 0
AllStay s n = (q : CellKey) → has_key s q ≡ true → has_key n q ≡ true

-- the key stays where it is there
abbrev pub Keeps : Slots → BTreeSet CellKey → CellKey → BTreeSet CellKey → Type 0
Keeps m s k n = (q : CellKey) → has_key n q ≡ (has_key s q && (is_some (there_at m q) || not (same_key q k)))

-- of the keys of these writes those stay that are there
abbrev pub KeepsThere : Slots → BTreeSet CellKey → List CellWrite → BTreeSet CellKey → Type 0
KeepsThere m s ws n = (q : CellKey) → has_key n q ≡ (has_key s q && (is_some (there_at m q) || not (writes_key q ws)))

-- the keys that have a slot and stand in the set
abbrev pub rooms_in : Slots → BTreeSet CellKey → Set key_cmp
rooms_in m s = collect (λ k (_ : Slot). if has_key s k then Some (tt {0}) else None) m

-- ---- what the fields of layers keep

pub record AreSound (m : Slots) (s : BTreeSet CellKey) (gs : List Group) : Type 0 where
  pub laid : AreLaid m gs
  pub there : HasThere (early_of (safe_cells m) gs) s
