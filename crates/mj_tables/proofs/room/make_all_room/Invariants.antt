use Rattle.std.proofs.Common.{◌≡◌, ◌||◌, drop}
use Rattle.mj_cells.specs.declared.cell.CellKey.{CellKey}
use Rattle.mj_tables.specs.Layered.{writes_key}
use Rattle.mj_tables.specs.Slots.{slots_of, safe_cells, all_room, SameAhead}
use Rattle.mj_tables.specs.Listed.{has_key, AllStay, ListsThere}
use Rattle.mj_tables.proofs.room.make_all_room.Given as goal

abbrev pub invariant-loop-w : goal.invariant-loop-w
invariant-loop-w l = (all_room (slots_of l.slots) (drop l.w-index l.ws) ≡ all_room (slots_of l.initial.slots) l.ws) × (safe_cells (slots_of l.slots) ≡ safe_cells (slots_of l.initial.slots)) × SameAhead (slots_of l.initial.slots) (slots_of l.slots)
    × ((q : CellKey) → (writes_key q (drop l.w-index l.ws) || has_key l.there q) ≡ (writes_key q l.ws || has_key l.initial.there q)) × AllStay l.initial.there l.there × ListsThere (slots_of l.slots) l.there
