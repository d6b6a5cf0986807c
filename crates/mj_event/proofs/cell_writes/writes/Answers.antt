use Rattle.std.proofs.Common.{List, ◌++◌, sym, ap, subst, ◌∙◌}
use Rattle.std.specs.List.{AllByRecursion}
use Rattle.mj_cells.specs.Cell.{WriteFits}
use Rattle.mj_cells.specs.declared.cell.CellWrite.{CellWrite}
use Rattle.mj_event.specs.Writes.{writes_of}
use Rattle.mj_event.proofs.WritesFit.{writes_fit}
use Rattle.mj_event.proofs.cell_writes.writes.Goals as goal

pub returns-clause-fit : goal.returns-clause-fit
returns-clause-fit c = λ fits.
    subst (λ (ws : List CellWrite). AllByRecursion WriteFits ws) (sym (c.in_ok-push_event.ensures ∙ ap (λ (ws : List CellWrite). ws ++ writes_of c.args.event.now) c.in_ok-ws.ensures.items)) (writes_fit c.args.event.now fits)
