-- A safe table, and over it the groups of writes that are not safe yet, oldest first.
use Rattle.std.specs.Prelude.{ℕ, ◌<◌, Bool, false, true, nat_le, nat_lt, ◌&&◌, List, [], ◌∷◌, filter, IsSome, Option, refl}
use Rattle.std.specs.Coded.{Coded, code_by, coded×, coded_ℕ, coded_list}
use Rattle.std.specs.List.{flat_map, list_any, AllByRecursion}
use Rattle.mj_maps.specs.Map.{Map, Set, get, entries, code, set_code}
use Rattle.mj_cells.specs.declared.cell.CellKey.{CellKey}
use Rattle.mj_cells.specs.declared.cell.CellValue.{CellValue}
use Rattle.mj_cells.specs.declared.cell.CellValue.TheVariants.{Null, Gone}
use Rattle.mj_cells.specs.declared.cell.CellWrite.{CellWrite}
use Rattle.mj_cells.specs.Cell.{key_cmp, same_key}
use Rattle.mj_cells.specs.Table.{put_all}
use Rattle.mj_cells.specs.Next.{is_above, first_of}
use Rattle.mj_cells.specs.contracts.cell.CellKey as cell_key
use Rattle.mj_cells.specs.contracts.cell.CellValue as cell_value
use Rattle.mj_tables.specs.declared.group.Group.{Group}
use Rattle.mj_tables.specs.contracts.group.Group as group_row

-- The keys with room are those that a write needs no memory for, and `spare` is how many groups more need none.
pub record Layered : Type 0 where
  pub safe : Map key_cmp CellValue
  pub groups : List Group
  pub room : Set key_cmp
  pub spare : ℕ

-- the writes of groups, in order
abbrev pub all_writes : List Group → List CellWrite
all_writes gs = flat_map (λ (g : Group). g.writes) gs

-- the safe cells with all writes over them
abbrev pub early_of : Map key_cmp CellValue → List Group → Map key_cmp CellValue
early_of safe gs = put_all safe (all_writes gs)

abbrev pub early_cells : Layered → Map key_cmp CellValue
early_cells l = early_of l.safe l.groups

-- whether one of these is of the key
abbrev pub writes_key : CellKey → List CellWrite → Bool
writes_key k ws = list_any (λ (w : CellWrite). same_key k w.key) ws

-- the groups that end at or below a position, and those above
abbrev pub ended : ℕ → List Group → List Group
ended upto gs = filter (λ (g : Group). nat_le g.ends upto) gs

abbrev pub unended : ℕ → List Group → List Group
unended upto gs = filter (λ (g : Group). nat_lt upto g.ends) gs

-- each ends below the position
abbrev pub EndBelow : ℕ → List Group → Type 0
EndBelow ends gs = AllByRecursion (λ (g : Group). g.ends < ends) gs

-- each ends below those after it
abbrev pub EndsRise : List Group → Type 0
EndsRise [] = Unit {0}
EndsRise (g ∷ gs) = AllByRecursion (λ (h : Group). g.ends < h.ends) gs × EndsRise gs

-- ---- going over cells that are there

abbrev pub is_there : CellValue → Bool
is_there (Null version) = false
is_there Gone = false
is_there _ = true

-- the cell with the least key above that is neither null nor gone
abbrev pub next_there : Map key_cmp CellValue → Option CellKey → Option (CellKey × CellValue)
next_there m after = first_of (filter (λ (e : CellKey × CellValue). is_above after e.0 && is_there e.1) (entries m))

-- ---- room

-- each key has room
abbrev pub HasRoom : Set key_cmp → List CellWrite → Type 0
HasRoom room [] = Unit {0}
HasRoom room (w ∷ ws) = IsSome (get room w.key) × HasRoom room ws

-- no first one ends at or below the position
abbrev pub NoneEnded : ℕ → List Group → Type 0
NoneEnded upto [] = Unit {0}
NoneEnded upto (g ∷ gs) = upto < g.ends

-- ---- the code of what is held

abbrev pub group_code : Coded Group
group_code = (group_row.the_row).coded

abbrev pub layered_code : Coded Layered
layered_code = code_by
    (Map key_cmp CellValue × (List Group × (Set key_cmp × ℕ)))
    (coded× (code (cell_key.the_row).coded (cell_value.the_row).coded) (coded× (coded_list group_code) (coded× (set_code (cell_key.the_row).coded) coded_ℕ)))
    (λ l. (l.safe, (l.groups, (l.room, l.spare))))
    (λ p. record { safe = p.0; groups = p.1.0; room = p.1.1.0; spare = p.1.1.1 })
    (λ _. refl)
