use Rattle.std.proofs.Common.{◌≡◌, not, ◌&&◌, ◌||◌, drop}
use Rattle.std.specs.Prelude.{is_some}
use Rattle.mj_cells.specs.declared.cell.CellKey.{CellKey}
use Rattle.mj_tables.specs.Layered.{writes_key}
use Rattle.mj_tables.specs.Slots.{slots_of}
use Rattle.mj_tables.specs.Listed.{has_key, there_at, AreLast}
use Rattle.mj_tables.proofs.listing.drop_absent.Given as goal

abbrev pub invariant-loop-w : goal.invariant-loop-w
invariant-loop-w l = ((q : CellKey) → (has_key l.there q && (is_some (there_at (slots_of l.slots) q) || not (writes_key q (drop l.w-index l.ws)))) ≡ (has_key l.initial.there q && (is_some (there_at (slots_of l.slots) q) || not (writes_key q l.ws))))
    × AreLast (slots_of l.slots) (drop l.w-index l.ws)
