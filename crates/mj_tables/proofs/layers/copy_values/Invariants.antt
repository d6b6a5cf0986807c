use Rattle.std.proofs.Common.{◌≡◌, ◌++◌, drop, map}
use Rattle.mj_cells.specs.declared.cell.CellWrite.{CellWrite}
use Rattle.mj_tables.proofs.layers.copy_values.Given as goal

abbrev pub invariant-loop-w : goal.invariant-loop-w
invariant-loop-w l = l.values.items ++ map (λ (w : CellWrite). w.value) (drop l.w-index l.ws) ≡ map (λ (w : CellWrite). w.value) l.ws
