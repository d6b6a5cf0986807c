-- Writes after writes.
use Rattle.std.proofs.Common.{◌≡◌, List, ◌++◌, sym, ap, ◌∙◌}
use Rattle.mj_cells.specs.declared.cell.CellWrite.{CellWrite}
use Rattle.mj_cells.specs.Table.{Table, overlay}
use Rattle.mj_cells.proofs.Tables.{overlay-append}

pub overlay_both : (s t u : Table) (ws vs : List CellWrite) → t ≡ overlay s ws → u ≡ overlay t vs → u ≡ overlay s (ws ++ vs)
overlay_both s t u ws vs e f = f ∙ ap (λ x. overlay x vs) e ∙ sym (overlay-append s ws vs)
