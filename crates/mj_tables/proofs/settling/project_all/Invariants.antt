use Rattle.std.proofs.Common.{◌≡◌, drop, map}
use Rattle.mj_cells.specs.declared.cell.CellWrite.{CellWrite}
use Rattle.mj_tables.specs.Slots.{slots_of, all_projected}
use Rattle.mj_tables.proofs.settling.project_all.Given as goal

abbrev pub invariant-loop-w : goal.invariant-loop-w
invariant-loop-w l = (l.left.items ≡ map (λ (w : CellWrite). w.value) (drop l.w-index l.ws)) × (all_projected l.ends (slots_of l.slots) (drop l.w-index l.ws) ≡ all_projected l.ends (slots_of l.initial.slots) l.ws)
