use Rattle.std.proofs.Common.{◌≡◌, ◌++◌, drop, map}
use Rattle.mj_cells.specs.declared.cell.CellWrite.{CellWrite}
use Rattle.mj_index.proofs.following.copy_keys.Given as goal

abbrev pub invariant-loop-w : goal.invariant-loop-w
invariant-loop-w l = l.keys.items ++ map (λ (w : CellWrite). w.key) (drop l.w-index l.ws) ≡ map (λ (w : CellWrite). w.key) l.ws
