use Rattle.std.proofs.Common.{sym, ap, subst, ◌∙◌}
use Rattle.mj_cells.specs.Cell.{AllFit}
use Rattle.mj_tables.specs.Slots.{safe_cells}
use Rattle.mj_tables.specs.Inside.{AllSafe}
use Rattle.mj_tables.proofs.Moved.{safe_laid, safe-safe_slots}
use Rattle.mj_tables.proofs.safe_cells.SafeCells.of_table.Goals as goal

pub invariant_of-result : goal.invariant_of-result
invariant_of-result c =
    subst AllSafe (sym c.in_ok-slots.ensures) (record { fit = subst AllFit (sym (safe-safe_slots c.args.table)) c.all_fit.ensures; laid = safe_laid c.args.table })

pub returns : goal.returns
returns c = ap safe_cells c.in_ok-slots.ensures ∙ safe-safe_slots c.args.table
