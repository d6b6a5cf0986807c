use Rattle.std.proofs.Common.{◌≡◌, Some, None}
use Rattle.std.specs.Prelude.{option_map}
use Rattle.mj_maps.specs.Map.{get, len}
use Rattle.mj_cells.specs.declared.cell.CellKey.{CellKey}
use Rattle.mj_cells.specs.declared.cell.CellValue.{CellValue}
use Rattle.mj_tables.specs.Slots.{slots_of, safe_slot}
use Rattle.mj_tables.proofs.Moved.{joined_at}
use Rattle.mj_tables.proofs.moving.slots_from.Given as goal

abbrev pub invariant-loop-slots : goal.invariant-loop-slots
invariant-loop-slots l =
    ((q : CellKey) → joined_at l.table (slots_of l.slots) q ≡ option_map safe_slot (get l.initial.table q))
    × ((q : CellKey) (v : CellValue) → get l.table q ≡ Some v → get (slots_of l.slots) q ≡ None)

abbrev pub decreases-loop-slots : goal.decreases-loop-slots
decreases-loop-slots l = len l.table
