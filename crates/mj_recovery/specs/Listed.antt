-- Objects in a list, by name.
use Rattle.std.specs.Prelude.{ℕ, List, [], ◌∷◌, ◌++◌, Option, Some, None, filter_map, is_none, if◌then◌else◌}
use Rattle.std.specs.List.{flat_map}
use Rattle.std.specs.Option.{option_map}
use Rattle.mj_base.specs.declared.object.ObjectName.{ObjectName}
use Rattle.mj_store.specs.declared.held.HeldObject.{HeldObject}
use Rattle.mj_store.specs.Object.{Contents, same_name}
use Rattle.mj_store.specs.declared.act.Pair.{Pair}
use Rattle.mj_cells.specs.declared.cell.CellWrite.{CellWrite}
use Rattle.mj_recovery.specs.Objects.{content_of, pair_entries}
use Rattle.mj_recovery.specs.Stored.{head_cells, head_cell, pair_cell, bad_pair}
use Rattle.mj_recovery.specs.Recovered.{is_of_rank}

-- the first of this name
abbrev pub found : ObjectName → List HeldObject → Option HeldObject
found name [] = None
found name (h ∷ hs) = if same_name name h.name then Some h else found name hs

abbrev pub image_of : List HeldObject → Contents
image_of hs name = option_map content_of (found name hs)

-- ---- the cells that a list of objects stores

abbrev pub listed_pairs : ObjectName → List Pair → List CellWrite
listed_pairs name ps = filter_map (pair_cell name) (pair_entries ps)

abbrev pub listed_cells : ℕ → HeldObject → List CellWrite
listed_cells rank h = if is_of_rank rank h.name then head_cells h.name h.head ++ listed_pairs h.name h.pairs else []

abbrev pub all_listed : ℕ → List HeldObject → List CellWrite
all_listed rank hs = flat_map (listed_cells rank) hs

-- the first key of an object that is outside its format
abbrev pub listed_bad : HeldObject → Option (List ℕ)
listed_bad h = by_head h.head
  where
    by_head : Option (List ℕ) → Option (List ℕ)
    by_head None = bad_pair h.name (pair_entries h.pairs)
    by_head (Some head) = if is_none (head_cell h.name head) then Some [] else bad_pair h.name (pair_entries h.pairs)
