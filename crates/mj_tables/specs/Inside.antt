-- The fields of safe cells and of layers as the values that their callers see.
use Rattle.std.specs.VecDeque.{deque_len, deque_capacity}
use Rattle.std.specs.Prelude.{◌-◌, []}
use Rattle.mj_maps.specs.Map.{Map}
use Rattle.mj_cells.specs.declared.cell.CellValue.{CellValue}
use Rattle.mj_cells.specs.Cell.{key_cmp, AllFit}
use Rattle.mj_tables.specs.Layered.{Layered}
use Rattle.mj_tables.specs.Slots.{Slots, slots_of, safe_cells, AreLaid}
use Rattle.mj_tables.specs.Listed.{rooms_in, AreSound}
use Rattle.mj_tables.specs.declared.layers.Layers.TheInside.{Inside}
use Rattle.mj_tables.specs.declared.safe_cells.SafeCells.TheInside as safe

abbrev pub cells_in : safe.Inside → Map key_cmp CellValue
cells_in a = safe_cells (slots_of a.slots)

-- each value fits its key, and nothing stands over any
pub record AllSafe (m : Slots) : Type 0 where
  pub fit : AllFit (safe_cells m)
  pub laid : AreLaid m []

abbrev pub AreSafe : safe.Inside → Type 0
AreSafe a = AllSafe (slots_of a.slots)

abbrev pub layers_in : Inside → Layered
layers_in a = record { safe = safe_cells (slots_of a.slots); groups = a.groups.items; room = rooms_in (slots_of a.slots) a.there; spare = deque_capacity a.groups - deque_len a.groups }

abbrev pub IsSound : Inside → Type 0
IsSound a = AreSound (slots_of a.slots) a.there a.groups.items
